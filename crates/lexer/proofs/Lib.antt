pub mod Classes
pub mod Table
pub mod Fronts
pub mod Rows
pub mod Moves
