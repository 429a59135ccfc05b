-- MEANING: what is printed of a sheet.
pub mod Report
