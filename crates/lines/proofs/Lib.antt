mod Joined
mod Onward
pub mod Lengths
pub mod Printed
mod Determined
