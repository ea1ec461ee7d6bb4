-- A law of what is seen of a packet; the claims of specs/Inspect/Claims.antt are proved in `Claims`, each under its name.
pub mod SightLaws
pub mod Claims
