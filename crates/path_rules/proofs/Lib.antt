-- Laws of the definitions, and the proofs of the claims. Nobody has to read them to believe a statement of specs/.
pub mod Hops
pub mod Path
pub mod Plan
pub mod Rows
