mod Calls
mod Starts
mod Accepted
mod Alike
mod Cuts
pub mod Laws
pub mod Entries
pub mod Waits
pub mod Determined
