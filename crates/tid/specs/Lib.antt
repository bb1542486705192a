pub mod Sizes
pub mod Tid
pub mod Determined
