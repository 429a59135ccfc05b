-- The definitions that the contracts of `marks` cite.
pub mod Noted
pub mod Model
pub mod Node
pub mod Held
pub mod Coalition
