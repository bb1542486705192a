pub mod Found
pub mod Own
pub mod Loops
pub mod Buffers
pub mod Ways
pub mod Queues
pub mod Requests
pub mod MessageWays
pub mod EventWays
pub mod Dispatched
pub mod Decisions
mod Determined
