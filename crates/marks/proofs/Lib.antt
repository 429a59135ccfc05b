-- The laws of the marks: one bit, the game of the tables, and the join to the reference.
pub mod Noting
pub mod Games
pub mod Ones
pub mod Sets
pub mod Join
