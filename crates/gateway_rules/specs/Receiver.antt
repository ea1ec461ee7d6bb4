-- Document 01, "Router, receiver, sender": what a receiver reports and writes (`Reports`), what is claimed (`Claims`).
pub mod Reports
pub mod Claims
