-- The claims of specs/Inspect/Claims.antt: by cases on what was located and read. Assumes nothing.
use Prim.Native.Nat.{ℕ}
use mathlib.Core.List.{List}
use Rattle.std.specs.Prelude.{Option, None, Some}
use Rattle.wire_rules.specs.Walk.Walks.{Place}
use mathlib.Core.Path.{◌≡◌, refl, ap, ◌∙◌}
use Rattle.common.proofs.Choice.{clash}
use Rattle.refusals.specs.Reply.{Reply, answer, refuse, and_then}
use Rattle.refusals.proofs.ReplyLaws.{same_answer, through}
use Rattle.wire_rules.specs.declared.Request.{Request}
use Rattle.wire_rules.specs.Ipv4.Headers.{ip_ttl}
use Rattle.wire_rules.specs.Ipv4.Packets.{located}
use Rattle.wire_rules.specs.Ipv4.Views.{View, request_at}
use Rattle.gateway_rules.specs.declared.Seen.{Seen}
use Rattle.gateway_rules.specs.Inspect.Sights.{asking_at, view_of}
use Rattle.gateway_rules.specs.Inspect.Claims.{Looking}
use Rattle.gateway_rules.proofs.Inspect.SightLaws.{request_kept}

abbrev seen_at : List ℕ → Place → Reply Seen
seen_at packet place = answer (record { ttl = ip_ttl packet; asking = asking_at place (request_at place packet) })

abbrev view_at : List ℕ → Place → Reply View
view_at packet place = answer (record { ttl = ip_ttl packet; request = request_at place packet })

views_by : (packet : List ℕ) (reply : Reply Place) → and_then (and_then reply (seen_at packet)) (λ seen. answer (view_of seen)) ≡ and_then reply (view_at packet)
views_by packet (answer place) = ap (λ (x : Option Request). answer (record { ttl = ip_ttl packet; request = x })) (request_kept place packet)
views_by packet (refuse n) = refl

place_is : (place : Place) (x : Option Request) (o : ℕ) (r : Request) → asking_at place x ≡ Some (o, r) → place ≡ Some o
place_is None x o r e = absurd (clash (cc))
place_is (Some p) None o r e = absurd (clash (cc))
place_is (Some p) (Some q) o r e = let same : (p, q) ≡ (o, r) = cc in ap (λ (w : ℕ × Request). Some w.0) same

pub looking : Looking
looking = record {
  views = λ reach packet. views_by packet (located reach packet);
  placed = λ reach packet seen o r e a.
      let t = through (located reach packet) (seen_at packet) seen e in
      let asked : asking_at t.0 (request_at t.0 packet) ≡ Some (o, r) = ap (λ (s : Seen). s.asking) (same_answer t.2) ∙ a in
      t.1 ∙ ap answer (place_is t.0 (request_at t.0 packet) o r asked);
}
