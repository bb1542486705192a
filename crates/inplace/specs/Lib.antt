pub mod Ends
pub mod Decided
