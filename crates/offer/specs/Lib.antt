-- What the contracts of `offer` cite.
pub mod Offer
