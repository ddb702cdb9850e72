pub mod Cells
pub mod Inside
pub mod Meaning
pub mod Records
