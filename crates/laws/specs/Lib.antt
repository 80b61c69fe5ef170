pub mod ChoiceLaws
pub mod Finding
pub mod First
pub mod Labelled
pub mod Lists
pub mod LoopSteps
pub mod Table
pub mod Spelling
