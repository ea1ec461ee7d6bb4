-- The rules of a sender, in reading order: its record, asking and the response, the reaction to ECN and the phase of pipeACK.
pub mod Connections
pub mod Sender
pub mod Congestion
