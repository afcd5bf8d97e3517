pub mod ExpressionCode
pub mod Places
