mod Service
mod Sound
mod AsServing
mod KeepsTime
mod Reach
mod Lends
mod Sends
mod Call
mod Tick
pub mod Laws
pub mod Example
