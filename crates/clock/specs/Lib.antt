-- To be read in this order.

pub mod Row
pub mod Clock
pub mod Plan
pub mod Message
pub mod Laws
pub mod Example
