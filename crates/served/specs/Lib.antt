-- To be read in this order.

pub mod World
pub mod Letters
pub mod Laws
