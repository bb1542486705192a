mod AskedInPlace
mod Calls
mod ClientKept
mod ClockKept
mod Determined
mod Entries
mod Filled
mod InPlace
mod Kept
pub mod Laws
mod NotifierKept
mod Rows
mod Same
mod Sane
mod WordBytes
