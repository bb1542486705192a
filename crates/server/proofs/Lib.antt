pub mod Stored
mod Determined
