pub mod Exports
pub mod ExportLaws
pub mod CallsFollow
pub mod Theorems
pub mod Built
