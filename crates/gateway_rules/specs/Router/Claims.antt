-- What is claimed of routers beyond the contracts: which refusal is given, what every accepted call leaves, one hop as a step on four
-- numbers, when the ledger is asked, and the allowance in the packets. Places in a packet are RFC 791's numbers (8 is IP TTL, 10 and 11 the
-- checksum), and ranges are the paper's. Assumes nothing.
use Rattle.std.specs.Prelude.{ℕ, ◌+◌, ◌-◌, ◌%◌, ◌^◌, ◌≤◌, ◌<◌, min, ◌&&◌, List, [], ◌⊎◌, ◌≡◌, eqb, length, get_or}
use Rattle.std.specs.Prelude.{Option, None, Some}
use Rattle.wire_rules.specs.Walk.Walks.{Place}
use Rattle.common.specs.Choice.{pick}
use Rattle.common.specs.Lists.{Bytes}
use Rattle.refusals.specs.Reply.{Reply, answer, refuse, done, leaves, and_then, Outcome}
use Rattle.wire_rules.specs.declared.Request.{Request}
use Rattle.wire_rules.specs.Options.Wire.{reserved_in}
use Rattle.wire_rules.specs.Options.Claims.{Kept}
use Rattle.wire_rules.specs.Ipv4.Headers.{header_length}
use Rattle.wire_rules.specs.Ipv4.Checksums.{sealed}
use Rattle.wire_rules.specs.Ipv4.Checks.{header_checked}
use Rattle.wire_rules.specs.Ipv4.Packets.{located}
use Rattle.wire_rules.specs.Ipv4.Views.{View, option_at, view, put}
use Rattle.wire_rules.specs.Ipv4.Claims.{SameHeader, LeftAlike, Alike}
use Rattle.gateway_rules.specs.declared.Ledger.{Ledger}
use Rattle.gateway_rules.specs.Ledgers.Rows.{total}
use Rattle.gateway_rules.specs.Ledgers.Calls.{Link, lent, link_in_range, Granted, ask_reply}
use Rattle.gateway_rules.specs.Ledgers.Claims.{InRange}
use Rattle.gateway_rules.specs.Ledgers.History.{ledger_calls}
use Rattle.gateway_rules.specs.declared.Decision.TheVariants as Decisions
use Rattle.gateway_rules.specs.Router.Decisions.{decision}
use Rattle.gateway_rules.specs.Router.Routers.{router_in_range, unexpired, routed_view, routed, silently_routed, wish_of, ceiling_from, Passage, passage, routed_by_ledger, ledger_router}
use Rattle.gateway_rules.specs.Router.Traffic.{LedgerRouter, Arrival, OfBytes, Traffic, after_arrivals, left_last}

-- ---- the decision on a request

-- a request that goes on, after one that came: "the lesser of rate and ceiling", "QS TTL falls by one modulo 256", and the nonce's fields
pub record Approves (r : Request) (ceiling fresh : ℕ) (new : Request) : Type 0 where
  pub least : new.rate ≡ min r.rate ceiling
  pub ttl_byte : new.qs_ttl < 256
  pub ttl_lower : (new.qs_ttl + 1) % 256 ≡ r.qs_ttl % 256
  pub nonce_kept : Kept r.rate new.rate r.nonce fresh new.nonce

pub record Deciding : Type 0 where
  -- "With no option, function not 0, or rate 0, no more changes."
  pub no_request : (ceiling fresh : ℕ) → decision ceiling fresh None ≡ Decisions.Nothing
  pub rate_0 : (ceiling fresh : ℕ) (r : Request) → r.rate ≡ 0 → decision ceiling fresh (Some r) ≡ Decisions.Nothing
  -- a rate above 0 is denied at ceiling 0, and at any other approved, whatever the QS TTL is
  pub denies : (fresh : ℕ) (r : Request) → 1 ≤ r.rate → decision 0 fresh (Some r) ≡ Decisions.Denied
  pub approves : (ceiling fresh : ℕ) (r : Request) → 1 ≤ r.rate → 1 ≤ ceiling
      → (new : Request) × (decision ceiling fresh (Some r) ≡ Decisions.Approved new) × Approves r ceiling fresh new

-- ---- which refusal is given, and what an accepted call leaves

-- a router without a ledger: by how far the total length may reach, ceiling and fresh nonce, what it makes of a packet
abbrev pub Router : Type 0
Router = ℕ → ℕ → ℕ → List ℕ → Reply (List ℕ)

-- "given a ceiling 0 to 15 and a fresh nonce 0 to 2^30 - 1"
pub record Given (ceiling fresh : ℕ) : Type 0 where
  pub ceiling_high : ceiling ≤ 15
  pub fresh_high : fresh < 2 ^ 30

-- "7, 1, 2, then 3 and 5 as met, then .. 6", and accepted in every other case
pub record Testing (router : Router) : Type 0 where
  pub seven : (reach ceiling fresh : ℕ) (packet : List ℕ) → (Given ceiling fresh → ⊥) → router reach ceiling fresh packet ≡ refuse 7
  pub faulty : (reach ceiling fresh n : ℕ) (packet : List ℕ) → Given ceiling fresh → located reach packet ≡ refuse n → router reach ceiling fresh packet ≡ refuse n
  pub six : (reach ceiling fresh : ℕ) (packet : List ℕ) (place : Place) → Given ceiling fresh → located reach packet ≡ answer place → get_or packet 8 0 ≤ 1
      → router reach ceiling fresh packet ≡ refuse 6
  pub accepted : (reach ceiling fresh : ℕ) (packet : List ℕ) (place : Place) → Given ceiling fresh → located reach packet ≡ answer place → 1 < get_or packet 8 0
      → (new : List ℕ) × (router reach ceiling fresh packet ≡ answer new)

-- what passing a packet on leaves: "IP TTL falls by one and the checksum is written anew", and every other byte stays where `Outside` holds
-- of its place
pub record PassedOn (reach : ℕ) (packet new : List ℕ) (Outside : ℕ → Type 0) : Type 0 where
  pub lowered : get_or new 8 0 + 1 ≡ get_or packet 8 0
  pub checks : header_checked reach new ≡ answer (header_length packet)
  pub others : (i : ℕ) → (i ≡ 8 → ⊥) → (i ≡ 10 → ⊥) → (i ≡ 11 → ⊥) → Outside i → get_or new i 0 ≡ get_or packet i 0
  pub long : length new ≡ length packet
  pub bytes : Bytes new
  -- "written anew": its checksum is the one that sealing writes
  pub written : sealed new ≡ new

-- outside the six bytes behind the length of the option, where there is one
abbrev pub OutsideOption : Place → ℕ → Type 0
OutsideOption None i = Unit {0}
OutsideOption (Some place) i = (i < place + 2) ⊎ (place + 8 ≤ i)

-- every place
abbrev pub Anywhere : ℕ → Type 0
Anywhere i = Unit {0}

-- no request, or one whose rate is 0
abbrev pub AsksNothing : Option Request → Type 0
AsksNothing None = Unit {0}
AsksNothing (Some r) = r.rate ≡ 0

-- "in every accepted case"
pub record Passing (router : Router) : Type 0 where
  pub always : (reach ceiling fresh : ℕ) (packet new : List ℕ) (place : Place) → Bytes packet → located reach packet ≡ answer place → router reach ceiling fresh packet ≡ answer new
      → PassedOn reach packet new (OutsideOption place)
  -- where there is nothing to decide, no byte of the option changes either
  pub untouched : (reach ceiling fresh : ℕ) (packet new : List ℕ) (v : View) → Bytes packet → view reach packet ≡ answer v → AsksNothing v.request
      → router reach ceiling fresh packet ≡ answer new → PassedOn reach packet new Anywhere
  -- "Reserved bits are .. left by routers"
  pub reserved : (reach ceiling fresh place : ℕ) (packet new : List ℕ) → Bytes packet → located reach packet ≡ answer (Some place) → router reach ceiling fresh packet ≡ answer new
      → reserved_in (option_at place new) ≡ reserved_in (option_at place packet)

-- "A silent router does the IP part only": 1 and 2, then 6, and never 3 or 5
pub record Silence (silent : ℕ → List ℕ → Reply (List ℕ)) : Type 0 where
  pub faulty : (reach n : ℕ) (packet : List ℕ) → header_checked reach packet ≡ refuse n → silent reach packet ≡ refuse n
  pub six : (reach h : ℕ) (packet : List ℕ) → header_checked reach packet ≡ answer h → get_or packet 8 0 ≤ 1 → silent reach packet ≡ refuse 6
  pub accepted : (reach h : ℕ) (packet : List ℕ) → header_checked reach packet ≡ answer h → 1 < get_or packet 8 0 → (new : List ℕ) × (silent reach packet ≡ answer new)
  pub always : (reach : ℕ) (packet new : List ℕ) → Bytes packet → silent reach packet ≡ answer new → PassedOn reach packet new Anywhere

-- ---- one hop

-- a packet of bytes without fault that carries a request at a place, and its IP TTL
pub record Carries (reach : ℕ) (packet : List ℕ) (place ttl : ℕ) (r : Request) : Type 0 where
  pub bytes : Bytes packet
  pub located_at : located reach packet ≡ answer (Some place)
  pub viewed : view reach packet ≡ answer (record { ttl = ttl; request = Some r })

-- a reply with a packet that is again without fault, has its option at the same place, and carries these four numbers: IP TTL, rate, QS TTL
-- and nonce
pub record Leaves (reach : ℕ) (packet : List ℕ) (place ttl : ℕ) (r : Request) (reply : Reply (List ℕ)) : Type 0 where
  pub new : List ℕ
  pub replied : reply ≡ answer new
  pub carries : Carries reach new place ttl r
  pub long : length new ≡ length packet

-- one call on bytes is one step on the four numbers
pub record OneHop (router : Router) : Type 0 where
  pub expired : (reach ceiling fresh place ttl : ℕ) (packet : List ℕ) (r : Request) → Given ceiling fresh → Carries reach packet place ttl r → ttl ≤ 1
      → router reach ceiling fresh packet ≡ refuse 6
  pub rate_0 : (reach ceiling fresh place ttl : ℕ) (packet : List ℕ) (r : Request) → Given ceiling fresh → Carries reach packet place ttl r → 1 < ttl → r.rate ≡ 0
      → Leaves reach packet place (ttl - 1) r (router reach ceiling fresh packet)
  -- "If it is 0, rate, QS TTL and nonce become 0."
  pub denies : (reach fresh place ttl : ℕ) (packet : List ℕ) (r : Request) → Given 0 fresh → Carries reach packet place ttl r → 1 < ttl → 1 ≤ r.rate
      → Leaves reach packet place (ttl - 1) (record { rate = 0; qs_ttl = 0; nonce = 0 }) (router reach 0 fresh packet)
  pub approves : (reach ceiling fresh place ttl : ℕ) (packet : List ℕ) (r : Request) → Given ceiling fresh → Carries reach packet place ttl r → 1 < ttl → 1 ≤ r.rate → 1 ≤ ceiling
      → (new : Request) × Approves r ceiling fresh new × Leaves reach packet place (ttl - 1) new (router reach ceiling fresh packet)

-- whatever router has `Testing`, `Passing` and `OneHop` is ours, on every packet of bytes; and whatever silent router has `Silence`
pub record RoutingOnly : Type 0 where
  pub one_router : (router : Router) → Testing router → Passing router → OneHop router → (reach ceiling fresh : ℕ) (packet : List ℕ) → Bytes packet
      → router reach ceiling fresh packet ≡ routed reach ceiling fresh packet
  pub one_silent_lem : (silent : ℕ → List ℕ → Reply (List ℕ)) → Silence silent → (reach : ℕ) (packet : List ℕ) → Bytes packet → silent reach packet ≡ silently_routed reach packet

-- a silent router changes the first of the four numbers alone
pub record SilentHop : Type 0 where
  pub expired : (reach place ttl : ℕ) (packet : List ℕ) (r : Request) → Carries reach packet place ttl r → ttl ≤ 1 → silently_routed reach packet ≡ refuse 6
  pub passes : (reach place ttl : ℕ) (packet : List ℕ) (r : Request) → Carries reach packet place ttl r → 1 < ttl
      → Leaves reach packet place (ttl - 1) r (silently_routed reach packet)

-- ---- with a ledger

-- all numbers in their ranges: those of a router, and those of its link
pub record AllGiven (ceiling fresh : ℕ) (p : Passage) : Type 0 where
  pub router_given : Given ceiling fresh
  pub link_given : InRange (length p.link.row) p.link.ledger.allowance

-- "with no request, or rate or ceiling 0"
abbrev pub AsksNoLedger : ℕ → Option Request → Type 0
AsksNoLedger ceiling request = AsksNothing request ⊎ (ceiling ≡ 0)

-- what a router without a ledger makes of the packet at some ceiling, and a link beside it
pub record AtCeiling (reach ceiling fresh : ℕ) (packet : List ℕ) (link : Link) (reply : Reply Passage) : Type 0 where
  pub new : List ℕ
  pub as_router : routed reach ceiling fresh packet ≡ answer new
  pub replied : reply ≡ answer (passage new link)

-- "A router with a ledger tests 7 for all, the packet, then 8 and 9 if it asks the ledger."
pub record LedgerRouting (router : ℕ → ℕ → ℕ → ℕ → Passage → Reply Passage) : Type 0 where
  pub seven : (reach ceiling fresh tick : ℕ) (p : Passage) → (AllGiven ceiling fresh p → ⊥) → router reach ceiling fresh tick p ≡ refuse 7
  pub faulty : (reach ceiling fresh tick n : ℕ) (p : Passage) → AllGiven ceiling fresh p → located reach p.packet ≡ refuse n → router reach ceiling fresh tick p ≡ refuse n
  pub six : (reach ceiling fresh tick : ℕ) (p : Passage) (place : Place) → AllGiven ceiling fresh p → located reach p.packet ≡ answer place → get_or p.packet 8 0 ≤ 1
      → router reach ceiling fresh tick p ≡ refuse 6
  -- "asks it for the lesser of rate and ceiling and takes the grant as its ceiling"; 8 and 9 are the ledger's
  pub not_granted : (reach ceiling fresh tick ttl n : ℕ) (p : Passage) (r : Request) → AllGiven ceiling fresh p → view reach p.packet ≡ answer (record { ttl = ttl; request = Some r })
      → 1 < ttl → 1 ≤ r.rate → 1 ≤ ceiling → ask_reply p.link tick (min r.rate ceiling) ≡ refuse n → router reach ceiling fresh tick p ≡ refuse n
  pub granted : (reach ceiling fresh tick ttl : ℕ) (p : Passage) (r : Request) (g : Granted) → AllGiven ceiling fresh p
      → view reach p.packet ≡ answer (record { ttl = ttl; request = Some r }) → 1 < ttl → 1 ≤ r.rate → 1 ≤ ceiling → ask_reply p.link tick (min r.rate ceiling) ≡ answer g
      → AtCeiling reach g.code fresh p.packet g.link (router reach ceiling fresh tick p)
  -- "the ledger is untouched"
  pub not_asked : (reach ceiling fresh tick : ℕ) (p : Passage) (v : View) → AllGiven ceiling fresh p → view reach p.packet ≡ answer v → 1 < v.ttl → AsksNoLedger ceiling v.request
      → AtCeiling reach ceiling fresh p.packet p.link (router reach ceiling fresh tick p)

pub record WithLedger : Type 0 where
  -- what is lent to it is packet and link
  pub lends : (packet : List ℕ) (link : Link) → passage packet link ≡ record { packet = packet; link = link }
  -- the cases of `LedgerRouting` are all there are: they leave one router only
  pub only : (router : ℕ → ℕ → ℕ → ℕ → Passage → Reply Passage) → LedgerRouting router → (reach ceiling fresh tick : ℕ) (p : Passage)
      → router reach ceiling fresh tick p ≡ routed_by_ledger reach ceiling fresh tick p
  -- whatever was asked, the packet is one that a router without a ledger leaves, at a ceiling that is not above its own
  pub as_router : (reach ceiling fresh tick : ℕ) (p new : Passage) → routed_by_ledger reach ceiling fresh tick p ≡ answer new
      → (code : ℕ) × (code ≤ ceiling) × (routed reach code fresh p.packet ≡ answer new.packet)
  -- a refused call says its number and leaves packet, row and tick; an accepted one leaves what it replies
  pub refused : (ceiling fresh tick n : ℕ) (p : Passage) → routed_by_ledger (length p.packet) ceiling fresh tick p ≡ refuse n
      → ledger_router ceiling fresh tick p ≡ record { said = refuse n; left = p }
  pub accepted : (ceiling fresh tick : ℕ) (p new : Passage) → routed_by_ledger (length p.packet) ceiling fresh tick p ≡ answer new
      → ledger_router ceiling fresh tick p ≡ record { said = answer tt; left = new }

-- ours have all of these
pub record Ours : Type 0 where
  pub tests : Testing routed
  pub passes : Passing routed
  pub hops : OneHop routed
  pub silent : Silence silently_routed
  pub with_ledger_lem : LedgerRouting routed_by_ledger

-- ---- what stands behind the header

-- what a router with a ledger says of two packets that differ behind the header alone, with the same link, and leaves of them and of it
pub record AlikePassages (p q : List ℕ) (x y : Outcome (Unit {0}) Passage) : Type 0 where
  pub said_is : y.said ≡ x.said
  pub link_is : y.left.link ≡ x.left.link
  pub packets : LeftAlike p q x.left.packet y.left.packet

-- no byte behind the header is read or changed, whatever the packets are
pub record BehindHeader : Type 0 where
  pub router : (reach ceiling fresh : ℕ) (p q : List ℕ) → SameHeader p q → Alike p q (routed reach ceiling fresh p) (routed reach ceiling fresh q)
  pub silent : (reach : ℕ) (p q : List ℕ) → SameHeader p q → Alike p q (silently_routed reach p) (silently_routed reach q)
  pub with_ledger_lem : (ceiling fresh tick : ℕ) (p q : List ℕ) (link : Link) → SameHeader p q
      → AlikePassages p q (ledger_router ceiling fresh tick (passage p link)) (ledger_router ceiling fresh tick (passage q link))

-- ---- the allowance in the packets

-- a row set up, and no packet yet
abbrev pub opened : List ℕ → ℕ → ℕ → Ledger → Traffic
opened row tick allowance ledger = record { link = lent (ledger_calls.set_up row tick allowance).left ledger; sent = [] }

-- the rates that were left in the packets of any S ticks sum to at most A, and the row's total is that sum for the last S ticks
pub record Accounted (slots allowance : ℕ) (traffic : Traffic) : Type 0 where
  pub left_most : (t : ℕ) → left_last slots t traffic.sent ≤ allowance
  pub total_is : total traffic.link.row ≡ left_last slots traffic.link.ledger.tick traffic.sent

-- "From a zeroed row with one allowance": over any packets of bytes, whatever they are and whatever the calls are given, refused ones among
-- them. A packet that was passed on with a rate above 0 was approved; any other counts 0
abbrev pub Allowance : LedgerRouter → Type 0
Allowance router = (row : List ℕ) (tick allowance : ℕ) (ledger : Ledger) → (ledger_calls.set_up row tick allowance).said ≡ answer ledger
    → (arrivals : List Arrival) → OfBytes arrivals → Accounted (length row) allowance (after_arrivals router (opened row tick allowance ledger) arrivals)

abbrev pub AllowanceTheorem : Type 0
AllowanceTheorem = Allowance ledger_router

-- ---- routers of which these are false

-- one that touches nothing: it answers as ours does, and leaves the packet
abbrev pub touching_nothing : Router
touching_nothing reach ceiling fresh packet = and_then (routed reach ceiling fresh packet) (λ new. answer packet)

-- a router with our tests and order that asks its ledger for `wish`, of its ceiling and the request, and decides by `taken`, of its ceiling
-- and the grant; ours has `wish_of`, and takes the grant
abbrev pub ledger_router_by : (ℕ → Option Request → ℕ) → (ℕ → ℕ → ℕ) → LedgerRouter
ledger_router_by wish taken ceiling fresh tick p =
    let reply =
    pick (router_in_range ceiling fresh && link_in_range (length p.link.row) p.link.ledger.allowance)
    (and_then (view (length p.packet) p.packet) (λ v.
    unexpired v
    (and_then (ceiling_from ceiling p.link tick (wish ceiling v.request)) (λ g.
    answer (passage (put p.packet (routed_view (taken ceiling g.code) fresh v)) g.link)))))
    (refuse 7) in
    record { said = done reply; left = leaves p reply }

-- the rate of the request, where ours would ask for the lesser of it and the ceiling
abbrev pub asking_the_rate : ℕ → Option Request → ℕ
asking_the_rate ceiling None = 0
asking_the_rate ceiling (Some r) = pick (eqb ceiling 0) 0 r.rate

pub record ShutOut : Type 0 where
  -- with our parts put in, it is ours
  pub otherwise_ours : ledger_router_by wish_of (λ ceiling grant. grant) ≡ ledger_router
  pub touches_nothing : Passing touching_nothing → ⊥
  pub touches_nothing_hop : OneHop touching_nothing → ⊥
  -- one that asks its ledger and decides by its own ceiling, and one that asks for the rate where the ceiling is less
  pub ignores_the_grant : Allowance (ledger_router_by wish_of (λ ceiling grant. ceiling)) → ⊥
  pub asks_the_rate : Allowance (ledger_router_by asking_the_rate min) → ⊥
