pub mod TypedEquations
