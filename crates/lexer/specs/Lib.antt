pub mod Classes
pub mod Names
pub mod Spelled
pub mod Refusals
pub mod Tokens
pub mod Readers
