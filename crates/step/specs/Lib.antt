pub mod Moves
pub mod MoveLaws
pub mod Ready
pub mod ReadyLaws
pub mod Questions
pub mod Steps
pub mod Once
pub mod QuestionLaws
