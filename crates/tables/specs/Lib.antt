pub mod Tables
pub mod Room
pub mod Laws
pub mod Pad
pub mod PadLaws
pub mod Last
pub mod TableSteps
