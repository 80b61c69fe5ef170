pub mod Quarters
pub mod Dates
pub mod Laws
pub mod MonthRule
pub mod CurrentLaws
