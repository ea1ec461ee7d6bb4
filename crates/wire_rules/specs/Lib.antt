-- The rules of bytes on the wire, in reading order: the steps of speed, the options, the walk over an options area, the IPv4 header. In
-- each part the definitions come first, and `Claims` says what holds of them.
pub mod Rates
pub mod Options
pub mod Walk
pub mod Ipv4
