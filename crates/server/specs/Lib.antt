-- To be read in this order.

pub mod Phase
pub mod Records
pub mod Service
