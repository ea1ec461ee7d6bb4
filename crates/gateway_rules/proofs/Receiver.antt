-- Laws of reports; the claims of specs/Receiver/Claims.antt are proved in `Claims`, each under its name.
pub mod ReportLaws
pub mod Claims
