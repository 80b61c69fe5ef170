pub mod Numbers
pub mod NumberLaws
pub mod NumberColumnLaws
pub mod AsItStands
pub mod Letters
pub mod LetterLaws
