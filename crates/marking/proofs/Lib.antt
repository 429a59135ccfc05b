-- The laws of the marking: flags, one position, what it has before the first round and which choice, the rule and its sweeps.
pub mod Flags
pub mod Position
pub mod Trying
pub mod Rounds
