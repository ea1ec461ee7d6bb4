-- Laws of echoes, samples and phases; the claims of specs/Congestion/Claims.antt are proved in `Claims` or in a file `..Claims`, each
-- under its name.
pub mod PhaseLaws
pub mod CallLaws
pub mod PipeLaws
pub mod EchoClaims
pub mod SampleClaims
pub mod PhaseClaims
pub mod Claims
