-- Document 01, "ECN and pipeACK": the reaction to an echo (`Echoes`), samples and phase (`Phases`), the three calls (`Calls`), what is
-- claimed (`Claims`).
pub mod Echoes
pub mod Phases
pub mod Calls
pub mod Claims
