-- Laws of the definitions, and the proofs of the claims. Nobody has to read them to believe a statement of specs/.
pub mod Connections
pub mod Sender
pub mod Congestion
