-- Document 01, "Path, program and callers": the run of a path (`Runs`), what demand 3 gives to a run (`Demands`), the sender that runs a
-- path for whoever lends none (`OwnSender`), demand 3 and the call's refusals (`Claims`).
pub mod Runs
pub mod Demands
pub mod OwnSender
pub mod Claims
