-- Document 01, "Bytes on the wire": the walk over an options area (`Walks`), and in which areas it finds what (`Claims`).
pub mod Walks
pub mod Claims
