pub mod Determined
pub mod Lists
pub mod Sorted
mod Planned
mod Once
mod Ticks
mod Meanings
mod Fits
pub mod Laws
pub mod Example
