-- What joins the code's definitions to the meaning: a set's members, the list of the joint moves, and their numbers.
pub mod Members
pub mod Full
pub mod Decode
pub mod Joints
pub mod Numbers
pub mod Cases
