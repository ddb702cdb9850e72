pub mod Bits
pub mod Positions
pub mod Passes
pub mod Tells
pub mod States
pub mod Residues
