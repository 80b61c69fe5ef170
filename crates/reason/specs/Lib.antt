pub mod ReasonNumbers
pub mod Once
