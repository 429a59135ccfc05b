-- The pure facts behind `nodes`.
pub mod Sheet
pub mod Tables
pub mod Marking
pub mod Steps
pub mod Ending
pub mod Beginning
