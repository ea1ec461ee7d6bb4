-- What a router decides of a request: numbers alone, and no bytes (document 01, "Router, receiver, sender"). Assumes nothing.
use Rattle.std.specs.Prelude.{ℕ, ◌+◌, ◌%◌, min, eqb}
use Rattle.std.specs.Prelude.{Option, None, Some}
use Rattle.common.specs.Choice.{pick}
use Rattle.wire_rules.specs.declared.Request.{Request}
use Rattle.wire_rules.specs.Options.Nonces.{lowered}
use Rattle.gateway_rules.specs.declared.Decision.{Decision}
use Rattle.gateway_rules.specs.declared.Decision.TheVariants.{Nothing, Approved, Denied}

-- "QS TTL falls by one modulo 256"
unfoldable pub one_less : ℕ → ℕ
one_less ttl = (ttl + 255) % 256

-- a request that goes on at another rate: "QS TTL falls by one modulo 256, and the fields between the new and the old rate take the fresh
-- nonce's bits; the rest stay"
abbrev pub approved_at : ℕ → ℕ → Request → Request
approved_at rate fresh r = record { rate = rate; qs_ttl = one_less r.qs_ttl; nonce = lowered r.rate rate r.nonce fresh }

-- at rate 0 there is nothing to decide; "Else the new rate is the lesser of rate and ceiling", and 0 is a denial
unfoldable pub decided : ℕ → ℕ → Request → Decision
decided ceiling fresh r =
    pick (eqb r.rate 0) Nothing
    (pick (eqb (min r.rate ceiling) 0) Denied
    (Approved (approved_at (min r.rate ceiling) fresh r)))

-- "With no option, function not 0, or rate 0, no more changes."
abbrev pub decision : ℕ → ℕ → Option Request → Decision
decision ceiling fresh None = Nothing
decision ceiling fresh (Some r) = decided ceiling fresh r

-- how a denial is written: "If it is 0, rate, QS TTL and nonce become 0."
abbrev pub denial : Request
denial = record { rate = 0; qs_ttl = 0; nonce = 0 }

-- what a decision writes over the request that it is about, and what request stands there afterwards
abbrev pub written_by : Decision → Option Request
written_by Nothing = None
written_by (Approved r) = Some r
written_by Denied = Some denial

abbrev pub over : Option Request → Option Request → Option Request
over None old = old
over (Some r) old = Some r

abbrev pub request_after : ℕ → ℕ → Option Request → Option Request
request_after ceiling fresh old = over (written_by (decision ceiling fresh old)) old
