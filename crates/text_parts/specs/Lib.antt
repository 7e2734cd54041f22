pub mod Heads
pub mod ReadingSteps
