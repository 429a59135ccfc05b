-- What the contracts of `model` cite.
pub mod Counts
pub mod Views
pub mod Tables
pub mod Answers
pub mod Growing
