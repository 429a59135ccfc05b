-- The laws of padded tables.
pub mod Pad
