pub mod Example
pub mod CaseTables
pub mod WhamTables
pub mod Cases
