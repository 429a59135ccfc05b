-- The definitions that the contracts of `facts` cite, and their laws.
pub mod Bits
pub mod Laws
pub mod Pack
pub mod Sets
pub mod Truth
