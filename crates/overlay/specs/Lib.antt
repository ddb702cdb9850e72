pub mod Lent
pub mod Over
pub mod Overlays
