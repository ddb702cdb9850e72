pub mod Trees
pub mod Words
pub mod Reading
pub mod Derivations
