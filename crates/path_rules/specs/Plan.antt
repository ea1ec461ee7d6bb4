-- Document 01, "Path, program and callers": the program's input (`Records`), its line (`Lines`), what is claimed (`Claims`).
pub mod Records
pub mod Lines
pub mod Claims
