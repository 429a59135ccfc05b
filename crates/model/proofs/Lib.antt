-- What the tables of an accepted model say, and that the contract determines answer and tables: begin here.
pub mod Theorems
-- For the code: a table that holds a list; a state that is entered; targets that are listed; the tables at the beginning;
-- a state that is expanded, and the answer to that from what the state offers.
pub mod Holding
pub mod Entering
pub mod Targets
pub mod Beginning
pub mod Expanding
pub mod Answering
