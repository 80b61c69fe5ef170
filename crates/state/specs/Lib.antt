pub mod Walks
pub mod Once
pub mod Unfit
pub mod UnfitLaws
pub mod Cents
