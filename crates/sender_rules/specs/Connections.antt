-- The sender's record: its ranges, the fresh one, the record with one part changed (`Records`), what is claimed (`Claims`).
pub mod Records
pub mod Claims
