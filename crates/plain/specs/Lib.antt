pub mod Plain
pub mod Sweeps
pub mod SightOutcomes
pub mod Templates
pub mod Passing
pub mod Laws
