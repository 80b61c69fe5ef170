pub mod Runs
pub mod Marks
pub mod RunLaws
pub mod MarkLaws
pub mod RunTurnLaws
pub mod Carries
pub mod Once
