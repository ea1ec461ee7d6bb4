-- Laws of records and of a record with one part changed; the claims of specs/Connections/Claims.antt are proved in `Claims`, each under its
-- name.
pub mod RecordLaws
pub mod Claims
pub mod PartLaws
