-- Document 01, "Steps of speed": the rate of a code and the two roundings (`Steps`); "Router, receiver, sender": the Quick-Start window
-- (`Window`); what is claimed of them (`Claims`).
pub mod Steps
pub mod Window
pub mod Claims
