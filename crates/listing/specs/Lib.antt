-- The definitions that the contracts of `listing` cite.
pub mod Text
pub mod Listing
pub mod Buffer
pub mod Wrote
