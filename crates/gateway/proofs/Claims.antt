-- The claims of specs/Claims.antt. Which refusals a reply can be is followed through its tests and calls. Assumes nothing.
use Prim.Native.Nat.{ℕ, zero, suc, ◌≤◌}
use mathlib.Core.Bool.{true, ◌&&◌}
use mathlib.Core.List.{List, [], ◌∷◌}
use Rattle.std.specs.Prelude.{Option, None, Some, Result, Ok, Err}
use mathlib.Core.Path.{◌≡◌, refl, sym, ap, subst, ◌∙◌}
use native.Mathlib.Omega.{arith}
use lib.Dec.{leb}
use lib.ListN.{length}
use Rattle.common.specs.Choice.{within}
use Rattle.refusals.specs.declared.Refusal.{Refusal}
use Rattle.refusals.specs.Numbers.{number_of}
use Rattle.refusals.specs.Reply.{Reply, answer, refuse, done, leaves}
use Rattle.refusals.specs.Replies.{told}
use Rattle.refusals.proofs.ReplyLaws.{RefusedBy, chosen_by, then_by}
use Rattle.refusals.proofs.Claims.{table}
use Rattle.wire_rules.specs.Rates.Steps.{top_code}
use Rattle.wire_rules.specs.declared.Request.{Request}
use Rattle.wire_rules.specs.Ipv4.Checks.{header_checked}
use Rattle.wire_rules.specs.Ipv4.Marks.{mark_reply}
use Rattle.wire_rules.specs.declared.Marking.{Marking}
use Rattle.wire_rules.specs.declared.Marking.TheVariants.{Marked, Dropped}
use Rattle.wire_rules.specs.Ipv4.Views.{view}
use Rattle.wire_rules.specs.Ipv4.Claims.{SameHeader, LeftAlike, Alike}
use Rattle.wire_rules.proofs.Ipv4.Claims as packets
use Rattle.wire_rules.proofs.Ipv4.RefusalLaws.{checked_by, forwarded_by, view_by}
use Rattle.gateway_rules.specs.Ledgers.Calls.{Link, link_in_range, move_reply, ask_reply}
use Rattle.gateway_rules.specs.Ledgers.Rows.{total}
use Rattle.gateway_rules.specs.Router.Routers.{router_in_range, routed, silently_routed, ceiling_from, wish_of, Passage, routed_by_ledger}
use Rattle.gateway_rules.specs.declared.Reaction.{Reaction}
use Rattle.gateway_rules.specs.declared.Reaction.TheVariants.{Answered, Unanswered}
use Rattle.gateway_rules.specs.Receiver.Reports.{Report, unanswered, reported, receiver_in_range, report_reply, received, response_after, reaction_in}
use Rattle.gateway_rules.proofs.Router.Claims as routers
use Rattle.gateway_rules.proofs.Receiver.Claims as receivers
use Rattle.gateway.specs.Results.{router_result, receiver_result, mark_result, lent_by_c}
use Rattle.gateway.specs.Claims.{Numbered, Lending, Apart, among, Possible, HeaderOnly}

-- ---- each number, and what is lent

pub numbered : Numbered
numbered = record {
  forwarded = λ new. refl;
  not_forwarded = λ n. refl;
  answered = λ r. refl;
  not_answered = refl;
  not_received = λ n. refl;
  is_marked = refl;
  is_dropped = refl;
  not_marked = λ n. refl;
}

pub lending : Lending
lending = record {
  packet_is = λ packet row tick allowance. refl;
  row_is = λ packet row tick allowance. refl;
  tick_is = λ packet row tick allowance. refl;
  allowance_is = λ packet row tick allowance. refl;
}

-- ---- numbers apart

-- a refusal's number is none of the others
not_done : (why : Refusal) → number_of why ≡ 0 → ⊥
not_done why e = let low = table.low why in omega arith

not_above : (why : Refusal) (n : ℕ) → 16 ≤ n → number_of why ≡ n → ⊥
not_above why n h e = let high = table.high why in omega arith

routers_apart : (a b : Result (Unit {0}) Refusal) → router_result (told a) ≡ router_result (told b) → a ≡ b
routers_apart (Ok _) (Ok _) e = refl
routers_apart (Ok _) (Err why) e = absurd (not_done why (sym e))
routers_apart (Err why) (Ok _) e = absurd (not_done why e)
routers_apart (Err why) (Err other) e = ap Err (table.alone why other e)

receivers_apart : (a b : Result Reaction Refusal) → receiver_result (told a) ≡ receiver_result (told b) → a ≡ b
receivers_apart (Ok Answered) (Ok Answered) e = refl
receivers_apart (Ok Answered) (Ok Unanswered) e = absurd (omega arith)
receivers_apart (Ok Answered) (Err why) e = absurd (not_done why (sym e))
receivers_apart (Ok Unanswered) (Ok Answered) e = absurd (omega arith)
receivers_apart (Ok Unanswered) (Ok Unanswered) e = refl
receivers_apart (Ok Unanswered) (Err why) e = absurd (not_above why 40 (omega arith) (sym e))
receivers_apart (Err why) (Ok Answered) e = absurd (not_done why e)
receivers_apart (Err why) (Ok Unanswered) e = absurd (not_above why 40 (omega arith) e)
receivers_apart (Err why) (Err other) e = ap Err (table.alone why other e)

marks_apart : (a b : Result Marking Refusal) → mark_result (told a) ≡ mark_result (told b) → a ≡ b
marks_apart (Ok Marked) (Ok Marked) e = refl
marks_apart (Ok Marked) (Ok Dropped) e = absurd (omega arith)
marks_apart (Ok Marked) (Err why) e = absurd (not_done why (sym e))
marks_apart (Ok Dropped) (Ok Marked) e = absurd (omega arith)
marks_apart (Ok Dropped) (Ok Dropped) e = refl
marks_apart (Ok Dropped) (Err why) e = absurd (not_above why 41 (omega arith) (sym e))
marks_apart (Err why) (Ok Marked) e = absurd (not_done why e)
marks_apart (Err why) (Ok Dropped) e = absurd (not_above why 41 (omega arith) e)
marks_apart (Err why) (Err other) e = ap Err (table.alone why other e)

pub apart : Apart
apart = record { routers = routers_apart; receivers = receivers_apart; marks = marks_apart }

-- ---- which refusals a reply can be

module _ (numbers : List ℕ) where
  -- a refusal is one of these
  abbrev Is : ℕ → Type 0
  Is n = among numbers n ≡ true

  module _ (one : Is 1) (two : Is 2) (three : Is 3) (five : Is 5) where
    routed_within : among numbers 6 ≡ true → among numbers 7 ≡ true → (reach ceiling fresh : ℕ) (packet : List ℕ) → RefusedBy Is (routed reach ceiling fresh packet)
    routed_within six seven reach ceiling fresh packet =
        chosen_by Is (router_in_range ceiling fresh) _ _ (then_by Is (view reach packet) _ (view_by Is one two three five reach packet) (λ v. chosen_by Is (leb v.ttl 1) _ _ six tt)) seven

    -- a ledger's 7, 8 and 9
    module _ (six : among numbers 6 ≡ true) (seven : among numbers 7 ≡ true) (eight : among numbers 8 ≡ true) (nine : among numbers 9 ≡ true) where
      asked_within : (link : Link) (tick code : ℕ) → RefusedBy Is (ask_reply link tick code)
      asked_within link tick code =
          chosen_by Is (within 1 code top_code) _ _
          (then_by Is (move_reply link tick) _
          (chosen_by Is (link_in_range (length link.row) link.ledger.allowance) _ _
          (chosen_by Is (leb (total link.row) link.ledger.allowance) _ _ (chosen_by Is (leb link.ledger.tick tick) _ _ tt nine) eight) seven)
          (λ moved. tt))
          seven

      from_within : (ceiling : ℕ) (link : Link) (tick wish : ℕ) → RefusedBy Is (ceiling_from ceiling link tick wish)
      from_within ceiling link tick zero = tt
      from_within ceiling link tick (suc wish) = asked_within link tick (suc wish)

      ledger_within : (reach ceiling fresh tick : ℕ) (p : Passage) → RefusedBy Is (routed_by_ledger reach ceiling fresh tick p)
      ledger_within reach ceiling fresh tick p =
          chosen_by Is (router_in_range ceiling fresh && link_in_range (length p.link.row) p.link.ledger.allowance) _ _
          (then_by Is (view reach p.packet) _ (view_by Is one two three five reach p.packet) (λ v.
          chosen_by Is (leb v.ttl 1) _ _ six
          (then_by Is (ceiling_from ceiling p.link tick (wish_of ceiling v.request)) _ (from_within ceiling p.link tick (wish_of ceiling v.request)) (λ g. tt))))
          seven

    reported_within : among numbers 4 ≡ true → (ceiling ttl : ℕ) (x : Option Request) → RefusedBy Is (report_reply ceiling ttl x)
    reported_within four ceiling ttl None = four
    reported_within four ceiling ttl (Some r) = tt

    received_within : among numbers 4 ≡ true → among numbers 7 ≡ true → (reach ceiling room : ℕ) (packet : List ℕ) → RefusedBy Is (received reach ceiling room packet)
    received_within four seven reach ceiling room packet =
        chosen_by Is (receiver_in_range ceiling room) _ _ (then_by Is (view reach packet) _ (view_by Is one two three five reach packet) (λ v. reported_within four ceiling v.ttl v.request)) seven

  -- the number of such a reply, where those of what was done are among the numbers too
  router_among : {A : Type 0} → among numbers 0 ≡ true → (r : Reply A) → RefusedBy Is r → among numbers (router_result (done r)) ≡ true
  router_among zeroth (answer a) w = zeroth
  router_among zeroth (refuse n) w = w

  receiver_among : among numbers 0 ≡ true → among numbers 40 ≡ true → (r : Reply Report) → RefusedBy Is r → among numbers (receiver_result (reaction_in r)) ≡ true
  receiver_among zeroth forty (answer unanswered) w = forty
  receiver_among zeroth forty (answer (reported r)) w = zeroth
  receiver_among zeroth forty (refuse n) w = w

  mark_among : among numbers 0 ≡ true → among numbers 41 ≡ true → (r : Reply Marking) → RefusedBy Is r → among numbers (mark_result r) ≡ true
  mark_among zeroth more (answer Marked) w = zeroth
  mark_among zeroth more (answer Dropped) w = more
  mark_among zeroth more (refuse n) w = w

pub possible : Possible
possible = record {
  router = λ ceiling fresh packet.
      let l : List ℕ = 0 ∷ 1 ∷ 2 ∷ 3 ∷ 5 ∷ 6 ∷ 7 ∷ [] in
      router_among l refl (routed (length packet) ceiling fresh packet) (routed_within l refl refl refl refl refl refl (length packet) ceiling fresh packet);
  router_ledger = λ ceiling fresh tick p.
      let l : List ℕ = 0 ∷ 1 ∷ 2 ∷ 3 ∷ 5 ∷ 6 ∷ 7 ∷ 8 ∷ 9 ∷ [] in
      router_among l refl (routed_by_ledger (length p.packet) ceiling fresh tick p) (ledger_within l refl refl refl refl refl refl refl refl (length p.packet) ceiling fresh tick p);
  silent_router = λ packet.
      let l : List ℕ = 0 ∷ 1 ∷ 2 ∷ 6 ∷ [] in
      router_among l refl (silently_routed (length packet) packet) (forwarded_by (Is l) refl refl refl (length packet) packet);
  receiver = λ ceiling room packet.
      let l : List ℕ = 0 ∷ 1 ∷ 2 ∷ 3 ∷ 4 ∷ 5 ∷ 7 ∷ 40 ∷ [] in
      receiver_among l refl refl (received (length packet) ceiling room packet) (received_within l refl refl refl refl refl refl (length packet) ceiling room packet);
  mark = λ packet.
      let l : List ℕ = 0 ∷ 1 ∷ 2 ∷ 41 ∷ [] in
      mark_among l refl refl (mark_reply packet) (then_by (Is l) (header_checked (length packet) packet) _ (checked_by (Is l) refl refl (length packet) packet) (λ h. tt));
}

-- ---- behind the header

-- what is said of a forwarded packet, where the reach is its own length
forwards_alike : (p q : List ℕ) (call : ℕ → List ℕ → Reply (List ℕ)) → SameHeader p q → Alike p q (call (length p) p) (call (length p) q)
    → (router_result (done (call (length q) q)) ≡ router_result (done (call (length p) p))) × LeftAlike p q (leaves p (call (length p) p)) (leaves q (call (length q) q))
forwards_alike p q call s a =
    subst (λ (n : ℕ). (router_result (done (call n q)) ≡ router_result (done (call (length p) p))) × LeftAlike p q (leaves p (call (length p) p)) (leaves q (call n q)))
    (sym s.long) (ap router_result a.0, a.1)

pub header_only : HeaderOnly
header_only = record {
  router = λ ceiling fresh p q s. forwards_alike p q (λ n packet. routed n ceiling fresh packet) s ((routers.behind_header).router (length p) ceiling fresh p q s);
  router_ledger = λ ceiling fresh present p q row tick allowance s.
      let a = (routers.behind_header).with_ledger_lem ceiling fresh present p q (lent_by_c p row tick allowance).link s in
      (ap router_result a.said_is, a.link_is, a.packets);
  silent_router = λ p q s. forwards_alike p q silently_routed s ((routers.behind_header).silent (length p) p q s);
  receiver = λ ceiling response p q s.
      let e : received (length q) ceiling (length response) q ≡ received (length p) ceiling (length response) p =
      ap (λ (n : ℕ). received n ceiling (length response) q) s.long ∙ receivers.behind_header (length p) ceiling (length response) p q s in
      (ap (λ (r : Reply Report). receiver_result (reaction_in r)) e, ap (response_after response) e);
  mark = λ p q s. let m = (packets.behind_header).marks p q s in (ap mark_result m.0, m.1);
}
