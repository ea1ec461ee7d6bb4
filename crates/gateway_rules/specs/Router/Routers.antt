-- Routers on packets (document 01, "Router, receiver, sender", "Ledger" and the order of tests): a router's decision put into the packet's
-- view. Assumes nothing.
use Rattle.std.specs.Prelude.{ℕ, zero, suc, ◌-◌, min, Bool, ◌&&◌, List, leb, ltb, length}
use Rattle.std.specs.Prelude.{Option, None, Some}
use Rattle.common.specs.Choice.{pick}
use Rattle.refusals.specs.Reply.{Reply, answer, refuse, leaves, done, and_then, Outcome}
use Rattle.wire_rules.specs.Rates.Steps.{top_code}
use Rattle.wire_rules.specs.declared.Request.{Request}
use Rattle.wire_rules.specs.Options.Wire.{nonce_limit}
use Rattle.wire_rules.specs.Ipv4.Packets.{forwarded}
use Rattle.wire_rules.specs.Ipv4.Views.{View, view, put}
use Rattle.gateway_rules.specs.Ledgers.Calls.{Link, link_in_range, Granted, ask_reply}
use Rattle.gateway_rules.specs.Router.Decisions.{request_after}

-- "given a ceiling 0 to 15 and a fresh nonce 0 to 2^30 - 1"
unfoldable pub router_in_range : ℕ → ℕ → Bool
router_in_range ceiling fresh = leb ceiling top_code && ltb fresh nonce_limit

-- 6 where a "router meets IP TTL 0 or 1"
abbrev pub unexpired : {A : Type 0} → View → Reply A → Reply A
unexpired v reply = pick (leb v.ttl 1) (refuse 6) reply

-- the view that a router leaves: "IP TTL falls by one", and the request is decided
abbrev pub routed_view : ℕ → ℕ → View → View
routed_view ceiling fresh v = record { ttl = v.ttl - 1; request = request_after ceiling fresh v.request }

-- a router's reply, with the new packet. "Packet calls test 7, 1, 2, then 3 and 5 as met, then .. 6"
abbrev pub routed : ℕ → ℕ → ℕ → List ℕ → Reply (List ℕ)
routed reach ceiling fresh packet =
    pick (router_in_range ceiling fresh)
    (and_then (view reach packet) (λ v. unexpired v (answer (put packet (routed_view ceiling fresh v)))))
    (refuse 7)

-- "A silent router does the IP part only"; it skips 3 and 5
abbrev pub silently_routed : ℕ → List ℕ → Reply (List ℕ)
silently_routed reach packet = forwarded reach packet

-- ---- with a ledger

-- "A router with a ledger asks it for the lesser of rate and ceiling": that code, or 0 where it does not ask
abbrev pub wish_of : ℕ → Option Request → ℕ
wish_of ceiling None = 0
wish_of ceiling (Some r) = min r.rate ceiling

-- "takes the grant as its ceiling; with no request, or rate or ceiling 0, the ledger is untouched": the ceiling to decide by, and the link
-- afterwards
abbrev pub ceiling_from : ℕ → Link → ℕ → ℕ → Reply Granted
ceiling_from ceiling link tick zero = answer (record { code = ceiling; link = link })
ceiling_from ceiling link tick (suc wish) = ask_reply link tick (suc wish)

-- a packet on its way through a router with a ledger, and the router's link
pub record Passage : Type 0 where
  pub packet : List ℕ
  pub link : Link

abbrev pub passage : List ℕ → Link → Passage
passage packet link = record { packet = packet; link = link }

-- its reply, with the new packet and the new link. "A router with a ledger tests 7 for all, the packet, then 8 and 9 if it asks the
-- ledger."
abbrev pub routed_by_ledger : ℕ → ℕ → ℕ → ℕ → Passage → Reply Passage
routed_by_ledger reach ceiling fresh tick p =
    pick (router_in_range ceiling fresh && link_in_range (length p.link.row) p.link.ledger.allowance)
    (and_then (view reach p.packet) (λ v.
    unexpired v
    (and_then (ceiling_from ceiling p.link tick (wish_of ceiling v.request)) (λ g.
    answer (passage (put p.packet (routed_view g.code fresh v)) g.link)))))
    (refuse 7)

-- the call: what it says, and what it leaves; a refusal leaves packet, row and tick as they were
abbrev pub ledger_router : ℕ → ℕ → ℕ → Passage → Outcome (Unit {0}) Passage
ledger_router ceiling fresh tick p = record {
  said = done (routed_by_ledger (length p.packet) ceiling fresh tick p);
  left = leaves p (routed_by_ledger (length p.packet) ceiling fresh tick p);
}
