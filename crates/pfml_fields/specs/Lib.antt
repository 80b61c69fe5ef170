pub mod Fields
pub mod Rows
pub mod Fit
pub mod Map
pub mod MapLaws
pub mod FieldRules
pub mod FieldRuleLaws
