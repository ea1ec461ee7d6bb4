-- A path lent as a row of hop records (`Rows`), what the functions for C answer (`Results`), what is claimed (`Claims`).
pub mod Rows
pub mod Results
pub mod Claims
