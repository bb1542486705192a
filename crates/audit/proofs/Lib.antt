pub mod SoundRecord
pub mod Below
pub mod Counts
pub mod Ranks
pub mod Exact
pub mod Fine
pub mod Asked
pub mod Seen
pub mod Runs
pub mod Passed
pub mod Finds
mod Determined
