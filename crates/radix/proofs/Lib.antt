-- The laws of classes.
pub mod Laws
pub mod Filling
pub mod Growing
