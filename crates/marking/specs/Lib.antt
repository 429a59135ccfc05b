-- The definitions that the contracts of `marking` cite.
pub mod Table
pub mod Flags
pub mod Rule
pub mod Board
