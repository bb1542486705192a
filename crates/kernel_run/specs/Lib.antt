pub mod Stands
pub mod Words
