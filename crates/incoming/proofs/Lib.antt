-- The laws of the index: counting, order, how it is built; and who owns a place.
pub mod Counting
pub mod Order
pub mod Build
pub mod Owners
