pub mod Tiling
pub mod FieldOfColumn
