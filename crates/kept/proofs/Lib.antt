pub mod Choices
pub mod Edition
pub mod Tasks
pub mod Change
pub mod Moves
pub mod Woken
pub mod Entries
pub mod Kept
