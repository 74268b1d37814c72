pub mod Walking
pub mod Forgetting
pub mod Lending
pub mod Stocking
pub mod Handing
pub mod Appending
pub mod Renewing
