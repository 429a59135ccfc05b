-- The demands, said of the entry point: begin with Demands. Right: the reference meets the promise (solved_meets), and nothing else does
-- (answer_unique). Starred: document 01's starred cases. Played serves the code.
pub mod Demands
pub mod Right
pub mod Played
pub mod Starred
