-- Laws of rows of hop records; the claims of specs/Rows/Claims.antt are proved in `Claims` or in a file `..Claims`, each under its name.
pub mod RangeLaws
pub mod RowClaims
pub mod Claims
pub mod ResultClaims
