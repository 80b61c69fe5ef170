pub mod Fields
pub mod FieldRules
pub mod FieldTests
