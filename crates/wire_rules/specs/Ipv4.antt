-- Document 01, "Bytes on the wire": the header's fields, the checksum, refusals 1 and 2 (`Checks`), what is done with a packet
-- (`Packets`); "ECN and pipeACK": marking (`Marks`); a packet as IP TTL and request (`Views`), by which routers, receiver and paths are
-- told; what is claimed of all these (`Claims`).
pub mod Headers
pub mod Checksums
pub mod Checks
pub mod Packets
pub mod Marks
pub mod Views
pub mod Claims
