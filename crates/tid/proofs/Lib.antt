pub mod Byte
pub mod Trips
mod Determined
