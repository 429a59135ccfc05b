-- The definitions that the contracts of `nodes` cite.
pub mod Asked
pub mod Goal
pub mod Held
