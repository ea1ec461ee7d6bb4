-- Laws of runs and the path law; the claims of specs/Path/Claims.antt are read off in `Claims`, those on the call in `RunClaims`, each
-- under its name, from the files before.
pub mod RunLaws
pub mod FlightLaws
pub mod EndLaws
pub mod PathLaws
pub mod PlainLaws
pub mod ShutOutLaws
pub mod RunClaims
pub mod UnreadLaws
pub mod Claims
