-- Laws of what `look` sees, by the place that was located and what was read there. Assumes nothing.
use Prim.Native.Nat.{ℕ, ◌+◌, ◌-◌, ◌≤◌}
use mathlib.Core.List.{List}
use mathlib.Core.Path.{◌≡◌, sym, ap, ◌∙◌}
use native.Mathlib.Omega.{arith}
use lib.ListN.{length, take, drop}
use Rattle.common.proofs.Choice.{clash}
use Rattle.refusals.specs.Reply.{Reply, answer, refuse, and_then}
use Rattle.refusals.proofs.ReplyLaws.{same_answer}
use Rattle.wire_rules.specs.declared.Request.{Request}
use Rattle.wire_rules.specs.Options.Wire.{option_length}
use Rattle.wire_rules.specs.Options.Requests.{request_read}
use Rattle.std.specs.Prelude.{None, Some, IfSome}
use Rattle.wire_rules.specs.Walk.Walks.{Place}
use Rattle.wire_rules.specs.Ipv4.Headers.{ip_ttl}
use Rattle.wire_rules.specs.Ipv4.Packets.{ttl_reply, located}
use Rattle.wire_rules.specs.Ipv4.Views.{as_request, request_at}
use Rattle.wire_rules.proofs.Ipv4.OptionLaws.{found}
use Rattle.wire_rules.proofs.Ipv4.Claims.{locating, reading}
use Rattle.gateway_rules.specs.Inspect.Sights.{asking_at, sighted, Asking}

-- ---- what was read at a place

-- the eight bytes lent were the option's
module _ (place : Place) (at : ℕ) (packet : List ℕ) (here : place ≡ Some at) where
  abbrev lent_part : List ℕ
  lent_part = take (at + option_length - at) (drop at packet)

  asked_by : (read : Reply Request) → read ≡ request_read lent_part → asking_at (Some at) (as_request read) ≡ asking_at place (request_at place packet)
  asked_by read e =
      ap (λ (r : Reply Request). asking_at (Some at) (as_request r)) (e ∙ ap (λ (n : ℕ). request_read (take n (drop at packet))) {x = at + option_length - at} {y = option_length} (omega arith))
      ∙ ap (λ (p : Place). asking_at p (request_at p packet)) (sym here)

  pub read_other : (n : ℕ) → refuse n ≡ request_read lent_part → None ≡ asking_at place (request_at place packet)
  read_other n e = asked_by (refuse n) e

  pub read_request : (r : Request) → answer r ≡ request_read lent_part → Some (at, r) ≡ asking_at place (request_at place packet)
  read_request r e = asked_by (answer r) e

-- ---- what was located

-- a located option has room for its eight bytes
pub room_of : (reach : ℕ) (packet : List ℕ) (place : Place) → answer place ≡ located reach packet → IfSome place (λ at. at + option_length ≤ length packet)
room_of reach packet None e = tt
room_of reach packet (Some o) e = let i = locating.inside reach o packet (sym e) in omega (arith, i.room, i.header)

-- where something was located, the IP TTL is read
pub ttl_of : (reach : ℕ) (packet : List ℕ) (place : Place) → located reach packet ≡ answer place → ttl_reply reach packet ≡ answer (ip_ttl packet)
ttl_of reach packet place e = reading.ttl_read reach packet (found reach packet place e).is_good.well

pub sight_refused : (reach n : ℕ) (packet : List ℕ) → refuse n ≡ located reach packet → refuse n ≡ sighted reach packet
sight_refused reach n packet e = ap (λ (r : Reply Place). and_then r (λ place. answer (record { ttl = ip_ttl packet; asking = asking_at place (request_at place packet) }))) e

-- so no refusal comes from there
pub no_refusal : (reach n : ℕ) (packet : List ℕ) (place : Place) → answer place ≡ located reach packet → refuse n ≡ ttl_reply reach packet → refuse n ≡ sighted reach packet
no_refusal reach n packet place e t = absurd (clash (let c = t ∙ ttl_of reach packet place (sym e) in cc))

pub sight_of : (reach ttl : ℕ) (packet : List ℕ) (place : Place) (asking : Asking) → answer place ≡ located reach packet → answer ttl ≡ ttl_reply reach packet
    → asking ≡ asking_at place (request_at place packet) → answer (record { ttl = ttl; asking = asking }) ≡ sighted reach packet
sight_of reach ttl packet place asking e t a =
    let is : ttl ≡ ip_ttl packet = same_answer (t ∙ ttl_of reach packet place (sym e)) in
    ap (λ (n : ℕ). answer (record { ttl = n; asking = asking })) is
    ∙ ap (λ (x : Asking). answer (record { ttl = ip_ttl packet; asking = x })) a
    ∙ ap (λ (r : Reply Place). and_then r (λ p. answer (record { ttl = ip_ttl packet; asking = asking_at p (request_at p packet) }))) e
