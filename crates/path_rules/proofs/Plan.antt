-- Laws of the input and the line; the claims of specs/Plan/Claims.antt are read off in `Claims`, each under its name, from the files
-- before it.
pub mod DecimalLaws
pub mod InputLaws
pub mod FormatLaws
pub mod EnoughLaws
pub mod SpellingLaws
pub mod GivenLaws
pub mod LineLaws
pub mod Claims
