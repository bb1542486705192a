pub mod Records
pub mod Stage
pub mod Woken
