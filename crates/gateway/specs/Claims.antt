-- What is claimed of the exported functions' results: each answer has a number of its own, which numbers a function can give, and that
-- nothing depends on a byte behind the header. Assumes nothing.
use Rattle.std.specs.Prelude.{ℕ, Bool, true, false, ◌||◌, List, [], ◌∷◌, ◌≡◌, eqb, length, Result}
use Rattle.refusals.specs.declared.Refusal.{Refusal}
use Rattle.refusals.specs.Reply.{answer, refuse, done, leaves}
use Rattle.refusals.specs.Replies.{told}
use Rattle.wire_rules.specs.declared.Response.{Response}
use Rattle.wire_rules.specs.declared.Marking.{Marking}
use Rattle.wire_rules.specs.Ipv4.Marks.{mark_reply, marked_packet}
use Rattle.wire_rules.specs.declared.Marking.TheVariants.{Marked, Dropped}
use Rattle.wire_rules.specs.Ipv4.Claims.{SameHeader, LeftAlike}
use Rattle.gateway_rules.specs.Router.Routers.{routed, silently_routed, Passage, ledger_router}
use Rattle.gateway_rules.specs.declared.Reaction.{Reaction}
use Rattle.gateway_rules.specs.Receiver.Reports.{unanswered, reported, received, response_after, reaction_in}
use Rattle.gateway.specs.Results.{router_result, receiver_result, mark_result, lent_by_c}

-- the number of each answer
pub record Numbered : Type 0 where
  pub forwarded : (new : List ℕ) → router_result (done (answer new)) ≡ 0
  pub not_forwarded : (n : ℕ) → router_result (refuse n) ≡ n
  pub answered : (r : Response) → receiver_result (reaction_in (answer (reported r))) ≡ 0
  pub not_answered : receiver_result (reaction_in (answer unanswered)) ≡ 40
  pub not_received : (n : ℕ) → receiver_result (reaction_in (refuse n)) ≡ n
  pub is_marked : mark_result (answer Marked) ≡ 0
  pub is_dropped : mark_result (answer Dropped) ≡ 41
  pub not_marked : (n : ℕ) → mark_result (refuse n) ≡ n

-- what C lends to a router with a ledger, part by part
pub record Lending : Type 0 where
  pub packet_is : (packet row : List ℕ) (tick allowance : ℕ) → (lent_by_c packet row tick allowance).packet ≡ packet
  pub row_is : (packet row : List ℕ) (tick allowance : ℕ) → (lent_by_c packet row tick allowance).link.row ≡ row
  pub tick_is : (packet row : List ℕ) (tick allowance : ℕ) → (lent_by_c packet row tick allowance).link.ledger.tick ≡ tick
  pub allowance_is : (packet row : List ℕ) (tick allowance : ℕ) → (lent_by_c packet row tick allowance).link.ledger.allowance ≡ allowance

-- no two answers of a function share a number
pub record Apart : Type 0 where
  pub routers : (a b : Result (Unit {0}) Refusal) → router_result (told a) ≡ router_result (told b) → a ≡ b
  pub receivers : (a b : Result Reaction Refusal) → receiver_result (told a) ≡ receiver_result (told b) → a ≡ b
  pub marks : (a b : Result Marking Refusal) → mark_result (told a) ≡ mark_result (told b) → a ≡ b

-- a number is one of a list
abbrev pub among : List ℕ → ℕ → Bool
among [] n = false
among (m ∷ rest) n = eqb n m || among rest n

-- no function gives another number than these: 0 for what was done, the refusals that it tests, and 40 or 41
pub record Possible : Type 0 where
  pub router : (ceiling fresh : ℕ) (packet : List ℕ) → among (0 ∷ 1 ∷ 2 ∷ 3 ∷ 5 ∷ 6 ∷ 7 ∷ []) (router_result (done (routed (length packet) ceiling fresh packet))) ≡ true
  pub router_ledger : (ceiling fresh tick : ℕ) (p : Passage) → among (0 ∷ 1 ∷ 2 ∷ 3 ∷ 5 ∷ 6 ∷ 7 ∷ 8 ∷ 9 ∷ []) (router_result (ledger_router ceiling fresh tick p).said) ≡ true
  pub silent_router : (packet : List ℕ) → among (0 ∷ 1 ∷ 2 ∷ 6 ∷ []) (router_result (done (silently_routed (length packet) packet))) ≡ true
  pub receiver : (ceiling room : ℕ) (packet : List ℕ)
      → among (0 ∷ 1 ∷ 2 ∷ 3 ∷ 4 ∷ 5 ∷ 7 ∷ 40 ∷ []) (receiver_result (reaction_in (received (length packet) ceiling room packet))) ≡ true
  pub mark : (packet : List ℕ) → among (0 ∷ 1 ∷ 2 ∷ 41 ∷ []) (mark_result (mark_reply packet)) ≡ true

-- "No call changes a byte behind the header, and no result depends on one." (the C header): of two packets of one length that differ
-- behind the header alone, each function gives the same result and leaves headers that are the same again, and behind them what was there
pub record HeaderOnly : Type 0 where
  pub router : (ceiling fresh : ℕ) (p q : List ℕ) → SameHeader p q
      → (router_result (done (routed (length q) ceiling fresh q)) ≡ router_result (done (routed (length p) ceiling fresh p)))
      × LeftAlike p q (leaves p (routed (length p) ceiling fresh p)) (leaves q (routed (length q) ceiling fresh q))
  -- with the same row, tick and allowance; these are left the same
  pub router_ledger : (ceiling fresh present : ℕ) (p q row : List ℕ) (tick allowance : ℕ) → SameHeader p q
      → let x = ledger_router ceiling fresh present (lent_by_c p row tick allowance) in
      let y = ledger_router ceiling fresh present (lent_by_c q row tick allowance) in
      (router_result y.said ≡ router_result x.said) × (y.left.link ≡ x.left.link) × LeftAlike p q x.left.packet y.left.packet
  pub silent_router : (p q : List ℕ) → SameHeader p q
      → (router_result (done (silently_routed (length q) q)) ≡ router_result (done (silently_routed (length p) p)))
      × LeftAlike p q (leaves p (silently_routed (length p) p)) (leaves q (silently_routed (length q) q))
  -- and the same response, in the same buffer
  pub receiver : (ceiling : ℕ) (response p q : List ℕ) → SameHeader p q
      → (receiver_result (reaction_in (received (length q) ceiling (length response) q)) ≡ receiver_result (reaction_in (received (length p) ceiling (length response) p)))
      × (response_after response (received (length q) ceiling (length response) q) ≡ response_after response (received (length p) ceiling (length response) p))
  pub mark : (p q : List ℕ) → SameHeader p q → (mark_result (mark_reply q) ≡ mark_result (mark_reply p)) × LeftAlike p q (marked_packet p) (marked_packet q)
