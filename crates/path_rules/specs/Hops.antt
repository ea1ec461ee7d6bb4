-- Document 01, "Path, program and callers": rows of hops as bytes (`Rows`), summaries, verdicts, what is claimed (`Claims`).
pub mod Rows
pub mod Summaries
pub mod Verdicts
pub mod Claims
