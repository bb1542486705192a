mod Stands
mod Meets
pub mod Moves
pub mod Areas
pub mod Serves
pub mod Opening
mod Replies
pub mod Brought
mod Letters
mod Reach
pub mod Laws
