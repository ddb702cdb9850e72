pub mod Walks
pub mod Spelled
pub mod Dotted
