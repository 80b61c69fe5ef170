pub mod Text
pub mod TextLaws
pub mod Address
pub mod Put
pub mod PutLaws
