-- Laws of rates, roundings and the window; the claims of specs/Rates/Claims.antt are proved in `Claims`, each under its name.
pub mod StepLaws
pub mod WindowLaws
pub mod Claims
