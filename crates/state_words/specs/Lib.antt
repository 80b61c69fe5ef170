pub mod Words
pub mod UnknownWords
pub mod WordsWritten
pub mod Reading
pub mod Theorems
