-- The sender that the program qspath and the calls for C run a path with, where nobody lends a connection. Document 01 leaves its five
-- numbers open; no verdict depends on them. Assumes nothing.
use Rattle.std.specs.Prelude.{ℕ}
use Rattle.sender_rules.specs.Sender.Calls.{transport}
use Rattle.wire_rules.specs.declared.Transport.{Transport}

-- its window and ssthresh, and its T, MSS and H
abbrev pub window : ℕ
window = 14600

abbrev pub ssthresh : ℕ
ssthresh = 65535

abbrev pub round_trip : ℕ
round_trip = 600000

abbrev pub segment : ℕ
segment = 1460

abbrev pub headers : ℕ
headers = 40

abbrev pub own_transport : Transport
own_transport = transport round_trip segment headers
