mod Values
mod Answers
