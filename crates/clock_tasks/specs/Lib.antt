-- To be read in this order.

pub mod Server
pub mod Notifier
pub mod Client
pub mod Words
pub mod State
pub mod NotifierState
pub mod ClientState
pub mod Calls
pub mod Laws
