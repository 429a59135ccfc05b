-- The definitions that the contracts of `tables` cite.
pub mod Lengths
pub mod Pad
