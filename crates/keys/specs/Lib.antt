-- What the contracts of `keys` cite.
pub mod Keys
