pub mod Offers
pub mod OneItem
pub mod InOrder
