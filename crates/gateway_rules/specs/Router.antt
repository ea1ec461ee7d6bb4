-- Document 01, "Router, receiver, sender": the decision in numbers (`Decisions`), routers on packets, with and without a ledger
-- (`Routers`), many packets through one router (`Traffic`), what is claimed (`Claims`).
pub mod Decisions
pub mod Routers
pub mod Traffic
pub mod Claims
