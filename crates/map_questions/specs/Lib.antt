pub mod FirstFew
pub mod AnswerLaws
pub mod FirstFewLaws
pub mod Questions
pub mod QuestionLaws
pub mod Scans
pub mod NearestSoFar
pub mod Any
