-- The definitions that the contracts of `incoming` cite.
pub mod Index
pub mod Owners
pub mod Build
pub mod Leads
