-- To be read in this order.

pub mod Laws
pub mod Example
