pub mod StampLists
pub mod StampSteps
