-- The laws of one position, and that the game of a sheet is what its rules say.
pub mod Laws
pub mod Fitting
pub mod Same
pub mod Right
pub mod Play
pub mod Nodes
pub mod Cases
