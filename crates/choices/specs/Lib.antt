-- The definitions that the contracts of `choices` cite, and their laws.
pub mod Ascending
pub mod Moves
pub mod Laws
pub mod Nth
pub mod Decode
pub mod Encode
