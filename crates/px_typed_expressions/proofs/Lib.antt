pub mod ExpressionLogic
pub mod ExpressionOperators
pub mod ExpressionParts
pub mod ExpressionRows
