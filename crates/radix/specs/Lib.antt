-- The definitions that the contracts of `radix` cite.
pub mod Classes
