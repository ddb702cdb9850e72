pub mod Apart
pub mod Changes
pub mod Graphs
pub mod Latest
pub mod Properties
