pub mod Characters
pub mod CharacterLaws
pub mod Columns
pub mod ColumnLaws
pub mod Agree
pub mod Sweep
