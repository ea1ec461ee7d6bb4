-- The rules of paths, in reading order: rows of hops, summaries and verdicts; the run of a path and demand 3; the program's input and its
-- line; rows of hop records, for C.
pub mod Hops
pub mod Path
pub mod Plan
pub mod Rows
