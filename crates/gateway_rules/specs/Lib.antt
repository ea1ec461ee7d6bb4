-- The rules of a gateway, in reading order: the ledger of approvals, what is read of a packet before anything is decided, routers, the
-- receiver.
pub mod Ledgers
pub mod Inspect
pub mod Router
pub mod Receiver
