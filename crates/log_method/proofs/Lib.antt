pub mod Stacks
pub mod FewParts
pub mod Forecasting
pub mod Taking
pub mod FewHeld
pub mod GivingBack
pub mod Fewness
pub mod Topmost
