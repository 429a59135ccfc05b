-- What the contracts of `position` cite, and the meaning of a sheet's rules.
pub mod Choices
pub mod Meaning
pub mod Position
