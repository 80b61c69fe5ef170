pub mod Classes
pub mod ClassTests
pub mod ClassLaws
