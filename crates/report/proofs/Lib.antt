-- Laws for the code.
pub mod Laws
