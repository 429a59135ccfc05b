-- The engine. MEANING: Promise, what its answer and its tables are for every input. REFERENCE: Solved.
pub mod Promise
pub mod Used
pub mod Solved
pub mod Cases
