-- The theorems of `listing`, and the laws that its proofs share.
pub mod Overlay
pub mod Digits
pub mod Lines
pub mod Bound
pub mod Worked
pub mod Alike
pub mod Readback
