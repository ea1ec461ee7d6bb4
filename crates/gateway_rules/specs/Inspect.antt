-- What routers and the receiver read of a packet (`Sights`), and that it is the packet's view (`Claims`).
pub mod Sights
pub mod Claims
