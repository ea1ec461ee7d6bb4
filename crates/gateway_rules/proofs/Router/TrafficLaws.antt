-- The allowance in the packets: each packet that a router with a ledger passes on is one call of its ledger or none, and carries the code
-- that was granted or 0; so what the history theorem says of approvals holds of packets. Assumes nothing.
use Prim.Native.Nat.{ℕ, zero, suc, ◌+◌, ◌≤◌, min}
use mathlib.Core.Bool.{Bool, true, false}
use mathlib.Core.List.{List, [], ◌∷◌, ◌++◌}
use Rattle.std.specs.Prelude.{Option, None, Some}
use mathlib.Core.Path.{◌≡◌, refl, sym, ap, ap₂, subst, ◌∙◌}
use native.Mathlib.Nat.{zero-add}
use native.Mathlib.Omega.{arith}
use lib.Dec.{eqb}
use borrow.Author.Tests.{eqb-true}
use lib.ListN.{length}
use Rattle.common.specs.Choice.{pick}
use Rattle.common.specs.Lists.{Bytes}
use Rattle.common.proofs.Choice.{by_test}
use Rattle.refusals.specs.Reply.{Reply, answer, refuse, leaves, done}
use Rattle.refusals.proofs.ReplyLaws.{same_answer}
use Rattle.wire_rules.specs.Rates.Steps.{rate_of}
use Rattle.wire_rules.specs.declared.Request.{Request}
use Rattle.wire_rules.specs.Ipv4.Views.{View, view, put}
use Rattle.wire_rules.proofs.Ipv4.OptionLaws.{view_place}
use Rattle.gateway_rules.specs.Ledgers.Rows.{total}
use Rattle.gateway_rules.specs.Ledgers.Calls.{Link, lent, Granted, ask_reply, code_in, link_in}
use Rattle.gateway_rules.specs.Ledgers.History.{ledger_calls, Call, asking, Past, begun, after_asking, after, after_all, in_last, approved_last}
use Rattle.gateway_rules.proofs.Ledgers.Claims.{accepting}
use Rattle.gateway_rules.proofs.Ledgers.Claims as ledgers
use Rattle.gateway_rules.specs.declared.Decision.{Decision}
use Rattle.gateway_rules.specs.Router.Decisions.{decided, written_by, over, request_after}
use Rattle.gateway_rules.specs.Router.Routers.{routed_view, wish_of, ceiling_from, Passage, passage, routed_by_ledger, ledger_router}
use Rattle.gateway_rules.specs.Router.Traffic.{Arrival, OfBytes, Traffic, after_saying, after_arrival, after_arrivals, code_of, code_seen, code_left, left_last}
use Rattle.gateway_rules.specs.Router.Claims.{opened, AllowanceTheorem}
use Rattle.gateway_rules.proofs.Router.CallLaws.{LedgerBy, ledger_by_lem}
use Rattle.gateway_rules.proofs.Router.HopLaws.{routed_changed}

-- ---- the code that is left

-- the rate that a decision leaves is the lesser of rate and ceiling, whatever it is
pub code_after : (ceiling fresh : ℕ) (x : Option Request) → code_of (request_after ceiling fresh x) ≡ wish_of ceiling x
unfolding decided
code_after ceiling fresh None = refl
code_after ceiling fresh (Some r) =
    by_test (λ (d : Decision). code_of (over (written_by d) (Some r)) ≡ min r.rate ceiling) (eqb r.rate 0)
    (λ e. let z = eqb-true r.rate 0 e in omega arith)
    (λ e.
    by_test (λ (d : Decision). code_of (over (written_by d) (Some r)) ≡ min r.rate ceiling) (eqb (min r.rate ceiling) 0) (λ m. sym (eqb-true (min r.rate ceiling) 0 m)) (λ m. refl))

-- what a router leaves in a packet is viewed there
code_put : (ceiling fresh : ℕ) (packet : List ℕ) (v : View) → Bytes packet → view (length packet) packet ≡ answer v
    → code_left (put packet (routed_view ceiling fresh v)) ≡ wish_of ceiling v.request
code_put ceiling fresh packet v b e =
    let l = view_place (length packet) packet v e in
    let c = routed_changed (length packet) ceiling fresh packet l.0 v b l.1 e in
    ap (λ (n : ℕ). code_seen (view n (put packet (routed_view ceiling fresh v)))) c.long ∙ ap code_seen c.viewed ∙ code_after ceiling fresh v.request

-- a grant at most the lesser of rate and ceiling is what is left at that ceiling
grant_left : (ceiling grant : ℕ) (x : Option Request) → grant ≤ wish_of ceiling x → wish_of grant x ≡ grant
grant_left ceiling grant None h = omega arith
grant_left ceiling grant (Some r) h = omega arith

-- ---- packets follow calls

-- what has gone through a router, and what its ledger was asked and granted
record Follows (slots : ℕ) (past : Past) (traffic : Traffic) : Type 0 where
  pub link_is : past.link ≡ traffic.link
  pub sums : (t : ℕ) → left_last slots t traffic.sent ≡ approved_last slots t past.approvals

nothing_added : (t : Bool) (n : ℕ) → n ≡ 0 → pick t (rate_of n) 0 ≡ 0
unfolding rate_of
nothing_added true n e = ap rate_of e
nothing_added false n e = refl

module _ (slots : ℕ) (past : Past) (traffic : Traffic) (f : Follows slots past traffic) (a : Arrival) (b : Bytes a.packet) where
  abbrev before : Passage
  before = passage a.packet traffic.link

  -- the ledger was not asked: nothing is left in the packet
  unasked : (new : Passage) → new.link ≡ traffic.link → code_left new.packet ≡ 0
      → (calls : List Call) × Follows slots (after_all ledger_calls past calls) (after_saying traffic a.tick (answer tt) new)
  unasked new l z = (
    [],
    record {
      link_is = f.link_is ∙ sym l;
      sums = λ t. ap (λ (k : ℕ). k + left_last slots t traffic.sent) (nothing_added (in_last slots t a.tick) (code_left new.packet) z) ∙ zero-add (left_last slots t traffic.sent) ∙ f.sums t;
    },
  )

  -- it was asked, and what it granted is left in the packet
  was_asked : (wish : ℕ) (new : Passage) (g : Granted) → ask_reply traffic.link a.tick wish ≡ answer g → new.link ≡ g.link → code_left new.packet ≡ g.code
      → (calls : List Call) × Follows slots (after_all ledger_calls past calls) (after_saying traffic a.tick (answer tt) new)
  was_asked wish new g e l z =
      let reply : ask_reply past.link a.tick wish ≡ answer g = ap (λ (k : Link). ask_reply k a.tick wish) f.link_is ∙ e in
      let next : after ledger_calls past (asking a.tick wish) ≡ record { link = g.link; tick = a.tick; approvals = record { tick = a.tick; code = g.code } ∷ past.approvals } =
      ap (λ (r : Reply Granted). after_asking a.tick past (code_in r) (leaves past.link (link_in r))) reply in (
        asking a.tick wish ∷ [],
        subst (λ (q : Past). Follows slots q (after_saying traffic a.tick (answer tt) new)) (sym next) (record {
          link_is = sym l;
          sums = λ t. ap₂ (λ (k n : ℕ). pick (in_last slots t a.tick) (rate_of k) 0 + n) z (f.sums t);
        }),
      )

  by_wish : (new : Passage) (k : LedgerBy (length a.packet) a.ceiling a.fresh a.tick before new) (wish : ℕ) → wish_of a.ceiling k.seen.request ≡ wish
      → (calls : List Call) × Follows slots (after_all ledger_calls past calls) (after_saying traffic a.tick (answer tt) new)
  by_wish new k zero w =
      let is : record { code = a.ceiling; link = traffic.link } ≡ k.grant = same_answer (sym (ap (ceiling_from a.ceiling traffic.link a.tick) w) ∙ k.granted) in
      unasked new (ap (λ (p : Passage). p.link) k.is ∙ sym (ap (λ (g : Granted). g.link) is))
      (ap (λ (p : Passage). code_left p.packet) k.is ∙ code_put k.grant.code a.fresh a.packet k.seen b k.viewed
      ∙ ap (λ (g : Granted). wish_of g.code k.seen.request) (sym is) ∙ w)
  by_wish new k (suc wish) w =
      let e : ask_reply traffic.link a.tick (suc wish) ≡ answer k.grant = sym (ap (ceiling_from a.ceiling traffic.link a.tick) w) ∙ k.granted in
      let low = (accepting.ask traffic.link a.tick (suc wish) k.grant e).2.rule.up_to in
      was_asked (suc wish) new k.grant e (ap (λ (p : Passage). p.link) k.is)
      (ap (λ (p : Passage). code_left p.packet) k.is ∙ code_put k.grant.code a.fresh a.packet k.seen b k.viewed
      ∙ grant_left a.ceiling k.grant.code k.seen.request (rw w low))

  one_arrival : (calls : List Call) × Follows slots (after_all ledger_calls past calls) (after_arrival ledger_router traffic a)
  one_arrival = go (routed_by_ledger (length a.packet) a.ceiling a.fresh a.tick before) refl
    where
      go : (reply : Reply Passage) → routed_by_ledger (length a.packet) a.ceiling a.fresh a.tick before ≡ reply
          → (calls : List Call) × Follows slots (after_all ledger_calls past calls) (after_saying traffic a.tick (done reply) (leaves before reply))
      go (refuse n) e = ([], record { link_is = f.link_is; sums = f.sums })
      go (answer new) e =
          let k = ledger_by_lem (length a.packet) a.ceiling a.fresh a.tick before new e in
          by_wish new k (wish_of a.ceiling k.seen.request) refl

-- ---- any packets

after_both : (past : Past) (first more : List Call) → after_all ledger_calls past (first ++ more) ≡ after_all ledger_calls (after_all ledger_calls past first) more
after_both past [] more = refl
after_both past (call ∷ first) more = after_both (after ledger_calls past call) first more

all_arrivals : (slots : ℕ) (arrivals : List Arrival) (past : Past) (traffic : Traffic) → OfBytes arrivals → Follows slots past traffic
    → (calls : List Call) × Follows slots (after_all ledger_calls past calls) (after_arrivals ledger_router traffic arrivals)
all_arrivals slots [] past traffic b f = ([], f)
all_arrivals slots (a ∷ rest) past traffic b f =
    let first = one_arrival slots past traffic f a b.0 in
    let others = all_arrivals slots rest (after_all ledger_calls past first.0) (after_arrival ledger_router traffic a) b.1 first.1 in
    (first.0 ++ others.0, subst (λ (q : Past). Follows slots q (after_arrivals ledger_router traffic (a ∷ rest))) (sym (after_both past first.0 others.0)) others.1)

pub allowance_theorem : AllowanceTheorem
allowance_theorem row tick allowance ledger e arrivals b =
    let start = lent (ledger_calls.set_up row tick allowance).left ledger in
    let run = all_arrivals (length row) arrivals (begun start tick) (opened row tick allowance ledger) b (record { link_is = refl; sums = λ t. refl }) in
    let h = ledgers.history_theorem row tick allowance ledger e run.0 in
    let f = run.1 in
    record {
      left_most = λ t. rw (f.sums t) (h.last_most t);
      total_is =
          ap (λ (k : Link). total k.row) (sym f.link_is) ∙ h.total_is ∙ sym (f.sums _)
          ∙ ap (λ (n : ℕ). left_last (length row) n (after_arrivals ledger_router (opened row tick allowance ledger) arrivals).sent) (sym h.tick_is ∙ ap (λ (k : Link). k.ledger.tick) f.link_is);
    }
