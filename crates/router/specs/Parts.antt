-- What the functions do that are not public, part by part. No claim speaks of these definitions. Assumes nothing.
use Rattle.std.specs.Prelude.{ℕ, ◌+◌, ◌<◌, ◌≤◌, List, nat_le}
use Rattle.common.specs.Choice.{pick}
use Rattle.refusals.specs.Reply.{Reply, answer, refuse, and_then}
use Rattle.wire_rules.specs.Rates.Steps.{top_code}
use Rattle.wire_rules.specs.declared.Request.{Request}
use Rattle.wire_rules.specs.Options.Wire.{option_length, nonce_limit}
use Rattle.std.specs.Prelude.{None, Some}
use Rattle.wire_rules.specs.Ipv4.Headers.{ip_ttl}
use Rattle.wire_rules.specs.Ipv4.Views.{View, put_request}
use Rattle.gateway_rules.specs.Inspect.Sights.{sighted, request_of, Asking}
use Rattle.gateway_rules.specs.Router.Decisions.{decided, written_by}

-- a packet that can be passed on, by what it asks for: 1, 2, 3, 5, then 6
abbrev pub met : ℕ → List ℕ → Reply Asking
met reach packet = and_then (sighted reach packet) (λ seen. pick (nat_le seen.ttl 1) (refuse 6) (answer seen.asking))

-- the view of a packet that was met
abbrev pub met_view : List ℕ → Asking → View
met_view packet asking = record { ttl = ip_ttl packet; request = request_of asking }

-- numbers that a request was read with, and room for its option
pub record Readable (place : ℕ) (r : Request) (bytes : ℕ) : Type 0 where
  pub room : place + option_length ≤ bytes
  pub rate_fits : r.rate ≤ top_code
  pub nonce_fits : r.nonce < nonce_limit

abbrev pub ReadableWhere : Asking → ℕ → Type 0
ReadableWhere None bytes = Unit {0}
ReadableWhere (Some (place, r)) bytes = Readable place r bytes

-- the decision written into the option
abbrev pub decision_written : ℕ → ℕ → Asking → List ℕ → List ℕ
decision_written ceiling fresh None packet = packet
decision_written ceiling fresh (Some (place, r)) packet = put_request (Some place) (written_by (decided ceiling fresh r)) packet
