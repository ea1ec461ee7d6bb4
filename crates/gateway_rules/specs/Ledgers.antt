-- Document 01, "Ledger": a row of slots (`Rows`), the three calls (`Calls`), a link's history (`History`), what is claimed, the history
-- theorem among it (`Claims`).
pub mod Rows
pub mod Calls
pub mod History
pub mod Claims
