-- Laws of rows, calls and histories; the claims of specs/Ledgers/Claims.antt are proved in `Claims`, each under its name.
pub mod RowLaws
pub mod CallLaws
pub mod HistoryLaws
pub mod History
pub mod Claims
