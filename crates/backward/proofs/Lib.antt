-- The laws of the walk.
pub mod Lines
pub mod Sizes
pub mod Counters
pub mod Steps
pub mod Loops
pub mod Opening
pub mod Queue
pub mod Within
pub mod Rounds
