pub mod Sums
pub mod Trees
pub mod Words
pub mod Lists
pub mod Reading
pub mod Marks
pub mod Puts
pub mod Selecting
