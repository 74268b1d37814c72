pub mod Rows
pub mod Growing
pub mod Queries
pub mod Costs
pub mod GrowingLaws
pub mod QuestionLaws
