-- The laws of the functions, and that what is looked up is what the rules give.
pub mod Laws
pub mod Mixing
pub mod Parts
pub mod Homing
pub mod Giving
pub mod Next
