pub mod Text
pub mod Written
pub mod Line
pub mod State
pub mod Block
pub mod Printed
