-- What is computed of a position is what the game has there; the laws of the code.
pub mod Right
pub mod Laws
