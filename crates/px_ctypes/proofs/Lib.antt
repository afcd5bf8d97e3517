pub mod DivisionLaws
pub mod Products
pub mod ResultLaws
pub mod TypeLaws
pub mod WrapLaws
