pub mod Before
pub mod BeforeLaws
pub mod Meaning
pub mod Forward
pub mod FileLaws
pub mod BrokenEdits
pub mod Theorems
pub mod Employers
