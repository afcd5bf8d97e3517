pub mod TypedView
