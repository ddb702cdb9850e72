pub mod Words
pub mod Numbering
pub mod Code
pub mod Operators
pub mod Parsing
