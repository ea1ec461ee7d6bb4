-- The claims of specs/Router/Claims.antt. Assumes nothing.
use Prim.Native.Nat.{ℕ, ◌-◌, ◌≤◌}
use mathlib.Core.List.{List, [], ◌∷◌}
use mathlib.Core.Path.{◌≡◌, refl, sym, ap, ◌∙◌}
use native.Mathlib.Omega.{arith}
use Rattle.common.specs.Choice.{within}
use Rattle.common.specs.Lists.{Bytes}
use Rattle.common.proofs.Lists.{bytes_tested}
use Rattle.refusals.specs.Reply.{Reply, answer, leaves, done, and_then}
use Rattle.refusals.proofs.ReplyLaws.{same_answer}
use Rattle.wire_rules.specs.Rates.Steps.{rate_of, greatest_up_to}
use Rattle.wire_rules.specs.Options.Wire.{fields_fit, option_bytes, word_of}
use Rattle.wire_rules.specs.Options.Requests.{is_request}
use Rattle.wire_rules.specs.Options.Nonces.{lowered}
use Rattle.std.specs.Prelude.{Some}
use Rattle.wire_rules.specs.Walk.Walks.{length_fits, look, walk_on}
use Rattle.wire_rules.specs.Ipv4.Headers.{header_length}
use Rattle.wire_rules.specs.Ipv4.Checksums.{ones_add, ones_sum, with_checksum, checksum_of, sealed}
use Rattle.wire_rules.specs.Ipv4.Checks.{well_formed}
use Rattle.wire_rules.specs.Ipv4.Packets.{located}
use Rattle.wire_rules.specs.Ipv4.Views.{View, view}
use Rattle.wire_rules.proofs.Ipv4.Claims.{viewing}
use Rattle.gateway_rules.specs.Ledgers.Rows.{passed, moved_on, charged}
use Rattle.gateway_rules.specs.Ledgers.Calls.{link_in_range, grant_of}
use Rattle.gateway_rules.specs.Ledgers.History.{in_last}
use Rattle.gateway_rules.specs.Router.Decisions.{one_less, decided}
use Rattle.gateway_rules.specs.Router.Routers.{router_in_range, wish_of, Passage}
use Rattle.gateway_rules.specs.Router.Claims.{Deciding, Given, Carries, RoutingOnly, SilentHop, WithLedger, Ours, BehindHeader, AllowanceTheorem, touching_nothing, ShutOut}
use Rattle.gateway_rules.specs.Router.Traffic.{Arrival}
use Rattle.gateway_rules.proofs.Router.UnreadLaws as behind
use Rattle.gateway_rules.proofs.Router.CallLaws.{wish_low, ledger_by_lem, from_ledger}
use Rattle.gateway_rules.proofs.Router.HopLaws.{given_ok, routed_view_lem}
use Rattle.gateway_rules.proofs.Router.TrafficLaws as traffic
use Rattle.gateway_rules.proofs.Router.RoutingLaws.{testing, passing, silence, one_hop}
use Rattle.gateway_rules.proofs.Router.RoutingLaws as routing
use Rattle.gateway_rules.proofs.Router.LedgerLaws.{ledger_routing, one_ledger_router}
use Rattle.gateway_rules.proofs.Router.OneRouter.{one_router, one_silent_lem}

pub deciding : Deciding
deciding = routing.deciding

-- `Testing`, `Passing`, `OneHop`, `Silence` and `LedgerRouting`, of ours
pub ours : Ours
ours = record { tests = testing; passes = passing; hops = one_hop; silent = silence; with_ledger_lem = ledger_routing }

pub silent_hop : SilentHop
silent_hop = routing.silent_hop

pub routing_only : RoutingOnly
routing_only = record { one_router = one_router; one_silent_lem = one_silent_lem }

pub with_ledger : WithLedger
with_ledger = record {
  lends = λ packet link. refl;
  only = one_ledger_router;
  as_router = λ reach ceiling fresh tick p new e.
      let k = ledger_by_lem reach ceiling fresh tick p new e in
      let low = (from_ledger ceiling tick (wish_of ceiling k.seen.request) p.link k.grant (wish_low ceiling k.seen.request) k.granted).0 in
      let given = given_ok ceiling fresh k.ok in
      let top = given.ceiling_high in (
        k.grant.code,
        low,
        routed_view_lem reach k.grant.code fresh p.packet (record { ceiling_high = omega arith; fresh_high = given.fresh_high }) k.seen k.viewed k.lives
            ∙ ap answer (sym (ap (λ (q : Passage). q.packet) k.is)),
      );
  refused = λ ceiling fresh tick n p e. ap (λ (r : Reply Passage). record { said = done r; left = leaves p r }) e;
  accepted = λ ceiling fresh tick p new e. ap (λ (r : Reply Passage). record { said = done r; left = leaves p r }) e;
}

pub behind_header : BehindHeader
behind_header = behind.behind_header

pub allowance_theorem : AllowanceTheorem
allowance_theorem = traffic.allowance_theorem

-- ---- routers that are shut out

-- document 01's packet: IP TTL 64, and a request for code 5 with QS TTL 128
abbrev given_packet : List ℕ
given_packet = 71 ∷ 0 ∷ 0 ∷ 28 ∷ 0 ∷ 0 ∷ 0 ∷ 0 ∷ 64 ∷ 6 ∷ 70 ∷ 82 ∷ 10 ∷ 0 ∷ 0 ∷ 1 ∷ 10 ∷ 0 ∷ 0 ∷ 2 ∷ 25 ∷ 8 ∷ 5 ∷ 128 ∷ 0 ∷ 0 ∷ 0 ∷ 0 ∷ []

packet_bytes : Bytes given_packet
packet_bytes = bytes_tested given_packet refl

packet_located : located 28 given_packet ≡ answer (Some 20)
unfolding well_formed within header_length ones_sum ones_add walk_on look length_fits
packet_located = refl

-- the calls below ask nothing of a ceiling or a fresh nonce of 0
zeros_given : Given 0 0
zeros_given = record { ceiling_high = omega arith; fresh_high = omega arith }

not_touched : touching_nothing 28 0 0 given_packet ≡ answer given_packet
not_touched = ap (λ (r : Reply (List ℕ)). and_then r (λ new. answer given_packet)) (testing.accepted 28 0 0 given_packet (Some 20) zeros_given packet_located (omega arith)).1

packet_carries : Carries 28 given_packet 20 64 (record { rate = 5; qs_ttl = 128; nonce = 0 })
packet_carries = record { bytes = packet_bytes; located_at = packet_located; viewed = viewing.shows 28 20 given_packet packet_located refl }

-- one packet through a router whose row of one slot was set up with an allowance
abbrev arrival : ℕ → Arrival
arrival ceiling = record { packet = given_packet; ceiling = ceiling; fresh = 0; tick = 0 }

pub shut_out : ShutOut
unfolding well_formed within header_length ones_sum ones_add walk_on look length_fits router_in_range link_in_range moved_on passed charged in_last grant_of greatest_up_to rate_of is_request word_of fields_fit option_bytes sealed with_checksum checksum_of decided one_less lowered
shut_out = record {
  otherwise_ours = refl;
  touches_nothing = λ claim. let a = (claim.always 28 0 0 given_packet given_packet (Some 20) packet_bytes packet_located not_touched).lowered in let e : ◌≡◌ {A = ℕ} 65 64 = a in omega arith;
  touches_nothing_hop = λ claim.
      let l = claim.denies 28 0 20 64 given_packet _ zeros_given packet_carries (omega arith) (omega arith) in
      let same : l.new ≡ given_packet = same_answer (sym l.replied ∙ not_touched) in
      let shown = same_answer (sym l.carries.viewed ∙ ap (view 28) same ∙ packet_carries.viewed) in
      let e : ◌≡◌ {A = ℕ} 63 64 = ap (λ (v : View). v.ttl) shown in omega arith;
  ignores_the_grant = λ claim.
      let a = claim (0 ∷ []) 0 80000 (record { tick = 0; allowance = 80000 }) refl (arrival 15 ∷ []) (packet_bytes, tt) in
      let e : 1280000 ≤ 80000 = a.left_most 0 in omega arith;
  asks_the_rate = λ claim.
      let a = claim (0 ∷ []) 0 1280000 (record { tick = 0; allowance = 1280000 }) refl (arrival 1 ∷ []) (packet_bytes, tt) in
      let e : ◌≡◌ {A = ℕ} 1280000 80000 = a.total_is in omega arith;
}
