pub use Rattle.store.specs.Cells
pub mod Kept
pub mod Tables
pub mod Usable
