-- The definitions that the contracts of `backward` cite.
pub mod Walk
pub mod Covered
pub mod Ground
