-- The claims of specs/Ledgers/Claims.antt, from the laws of rows and calls; and ledgers that the history theorem shuts out, each by a short
-- run that it would have to account for. Assumes nothing.
use Prim.Native.Nat.{ℕ, ◌+◌, ◌-◌, ◌%◌, ◌≤◌}
use mathlib.Core.Bool.{Bool, true, false}
use mathlib.Core.List.{List, [], ◌∷◌, ◌++◌}
use mathlib.Core.Logic.{⊎_elim}
use mathlib.Core.Path.{◌≡◌, refl, sym, ap, subst, ◌∙◌}
use native.Mathlib.Nat.{le_refl, mod-lt}
use native.Mathlib.Omega.{arith}
use borrow.Author.Tests.{eq-eqb, ne_eqb}
use lib.ListN.{length, get_or, set, length-replicate}
use Rattle.common.specs.Choice.{pick, within}
use Rattle.common.proofs.Choice.{chosen, untrue, within_low, within_high, in_within}
use Rattle.common.proofs.Lists.{zeros_hold}
use Rattle.refusals.specs.Reply.{Reply, answer, refuse, leaves, done, and_then}
use Rattle.wire_rules.specs.Rates.Steps.{top_code, rate_of, greatest_up_to}
use Rattle.wire_rules.proofs.Rates.StepLaws.{greatest_only}
use Rattle.gateway_rules.specs.declared.Ledger.{Ledger}
use Rattle.gateway_rules.specs.Ledgers.Rows.{passed, moved_on, charged}
use Rattle.gateway_rules.specs.Ledgers.Calls.{Link, lent, link_in_range, set_up_reply, moved_to, move_reply, grant_of, Granted, granted, ask_reply, ledger_in, row_in, code_in, link_in}
use Rattle.gateway_rules.specs.Ledgers.History.{Calls, ledger_calls, Call, Approval, Past, after, after_all, approved_at, in_last, approved_last}
use Rattle.gateway_rules.specs.Ledgers.History as histories
use Rattle.gateway_rules.specs.Ledgers.Claims.{Totals, Approving, Moving, InRange, Tested, Testing, IsSetUp, Moves, Grants, Accepting, Saying, Accepts, Continuing, Accounted, HistoryTheorem, held, own_sum, ShutOut}
use Rattle.gateway_rules.proofs.Ledgers.RowLaws.{total_zeros, total_set, passed_slot, other_slot, length_moved, passed_all, passed_more, length_charged, charged_same, charged_other, charged_none}
use Rattle.gateway_rules.proofs.Ledgers.CallLaws.{ranged, in_ranges, Sound, zeroed, set_up_sound, set_up_answered, set_up_link, moved_sound, grant_rule, granted_sound, move_seven, move_eight, move_nine, move_done, move_answered, moved_same, ask_seven, ask_after, ask_answered}
use Rattle.gateway_rules.proofs.Ledgers.HistoryLaws.{in_last_lem, gone, to_come}
use Rattle.gateway_rules.proofs.Ledgers.History.{history}

-- ---- sums

pub totals : Totals
totals = record { zeros = total_zeros; change = total_set }

pub approving : Approving
approving = record {
  at_own = λ t a e. rw (eq-eqb a.tick t e) (omega arith);
  at_other = λ t a other. rw (ne_eqb a.tick t other) (omega arith);
  at_joined = at_joined;
  last_own = λ slots t a l h. rw (in_last_lem slots t a.tick l h) (omega arith);
  last_other = λ slots t a. ⊎_elim (λ l. rw (to_come slots t a.tick l) (omega arith)) (λ h. rw (gone slots t a.tick h) (omega arith));
  last_joined = last_joined;
}
  where
    at_joined : (t : ℕ) (some more : List Approval) → approved_at t (some ++ more) ≡ approved_at t some + approved_at t more
    at_joined t [] more = omega arith
    at_joined t (a ∷ rest) more = let ih = at_joined t rest more in omega arith

    last_joined : (slots t : ℕ) (some more : List Approval) → approved_last slots t (some ++ more) ≡ approved_last slots t some + approved_last slots t more
    last_joined slots t [] more = omega arith
    last_joined slots t (a ∷ rest) more = let ih = last_joined slots t rest more in omega arith

-- ---- moving on

pub moving : Moving
unfolding moved_on passed
moving = record {
  zeroed = λ old new t row s l h.
      subst (λ (k : ℕ). get_or (passed (new - old) old row) (k % length row) 0 ≡ 0) {x = old + (t - old)} {y = t} (omega arith)
      (passed_slot (new - old) old (t - old) row s (omega arith) (omega arith));
  stays = λ old new slot row f. other_slot (new - old) old slot row (λ j l h. f (old + j) (omega arith) (omega arith));
  long = length_moved;
  all = λ old new row h. passed_all (new - old) old row (omega arith);
  same = λ tick row. ap (λ (k : ℕ). passed k tick row) {x = tick - tick} {y = 0} (omega arith);
  two_steps = λ old between new row l h.
      ap (λ (t : ℕ). passed (new - between) t (passed (between - old) old row)) {x = between} {y = old + (between - old)} (omega arith)
      ∙ passed_more (between - old) (new - between) old row
      ∙ ap (λ (k : ℕ). passed k old row) {x = between - old + (new - between)} {y = new - old} (omega arith);
}

-- ---- which refusal is given

out_of_range : (slots allowance : ℕ) → (InRange slots allowance → ⊥) → link_in_range slots allowance ≡ false
out_of_range slots allowance out = untrue (link_in_range slots allowance) (λ e. out (ranged slots allowance e))

move_tested : (link : Link) (tick : ℕ) → Tested (InRange (length link.row) link.ledger.allowance) link tick (move_reply link tick)
move_tested link tick = record {
  seven = λ out. move_seven link tick (out_of_range _ _ out);
  eight = λ r a. move_eight link tick (in_ranges _ _ r) a;
  nine = λ r b t. move_nine link tick (record { ranges = r; below = b }) t;
  accepted = λ r b t. (moved_to tick link, move_done link tick (record { ranges = r; below = b }) t);
}

ask_tested : (link : Link) (tick asked : ℕ) → Tested (InRange (length link.row) link.ledger.allowance × (1 ≤ asked) × (asked ≤ 15)) link tick (ask_reply link tick asked)
ask_tested link tick asked = record {
  seven = λ out. go out (within 1 asked top_code) refl;
  eight = λ r a. ask_after link tick asked (refuse 8) (in_within 1 asked top_code r.1 r.2) (move.eight r.0 a);
  nine = λ r b t. ask_after link tick asked (refuse 9) (in_within 1 asked top_code r.1 r.2) (move.nine r.0 b t);
  accepted = λ r b t.
      (granted asked (moved_to tick link), ask_after link tick asked (answer (moved_to tick link)) (in_within 1 asked top_code r.1 r.2) (move_done link tick (record { ranges = r.0; below = b }) t));
}
  where
    move : Tested (InRange (length link.row) link.ledger.allowance) link tick (move_reply link tick)
    move = move_tested link tick

    go : (InRange (length link.row) link.ledger.allowance × (1 ≤ asked) × (asked ≤ 15) → ⊥) → (t : Bool) → within 1 asked top_code ≡ t → ask_reply link tick asked ≡ refuse 7
    go out true e = ask_after link tick asked (refuse 7) e (move_seven link tick (out_of_range _ _ (λ r. out (r, within_low 1 asked top_code e, within_high 1 asked top_code e))))
    go out false e = ask_seven link tick asked e

pub testing : Testing
testing = record {
  set_up_seven = λ row tick allowance out. let e = out_of_range (length row) allowance out in simp e;
  set_up_accepted = λ row tick allowance r. (zeroed row tick allowance, chosen _ _ (refuse 7) (in_ranges (length row) allowance r));
  move = move_tested;
  ask = ask_tested;
}

-- ---- what an accepted call answers and leaves

grant_facts : (moved : Link) (asked : ℕ) → Sound moved → Grants moved moved.ledger.tick asked (granted asked moved)
unfolding rate_of
grant_facts moved asked s =
    let tick = moved.ledger.tick in
    let code = grant_of moved asked in
    record {
      rule = grant_rule moved asked;
      only = λ c g. greatest_only g (grant_rule moved asked);
      present = charged_same tick (rate_of code) moved.row s.ranges.slots_low;
      others = λ slot other. charged_other tick (rate_of code) slot moved.row other;
      long = length_charged tick (rate_of code) moved.row;
      nothing = λ none. ap (λ (c : ℕ). charged tick (rate_of c) moved.row) none ∙ charged_none tick moved.row;
      ledger_is = refl;
    }

pub accepting : Accepting
accepting = record {
  set_up_lem = λ row tick allowance link e.
      subst (IsSetUp row tick allowance) (sym (set_up_answered row tick allowance link e).1)
      (record { zeros = zeros_hold (length row); long = length-replicate (length row) 0; tick_is = refl; allowance_is = refl });
  move = λ link tick next e.
      subst (Moves link tick) (sym (move_answered link tick next e).2) (record { row_is = refl; tick_is = refl; allowance_is = refl });
  move_same = λ link next e. (move_answered link link.ledger.tick next e).2 ∙ moved_same link;
  ask = λ link tick asked g e.
      let a = ask_answered link tick asked g e in (
        moved_to tick link,
        record { row_is = refl; tick_is = refl; allowance_is = refl },
        subst (Grants (moved_to tick link) tick asked) (sym a.4) (grant_facts (moved_to tick link) asked (moved_sound link tick a.2)),
      );
}

-- ---- what is said and left

pub saying : Saying
saying = record {
  lends = λ row ledger. refl;
  set_up_refused = λ row tick allowance n e. set_up_lem row tick allowance (refuse n) e;
  set_up_done = λ row tick allowance link e. set_up_lem row tick allowance (answer link) e;
  move_refused = λ link tick n e. move link tick (refuse n) e;
  move_done = λ link tick next e. move link tick (answer next) e;
  ask_refused = λ link tick asked n e. ask link tick asked (refuse n) e;
  ask_done = λ link tick asked g e. ask link tick asked (answer g) e;
}
  where
    set_up_lem : (row : List ℕ) (tick allowance : ℕ) (r : Reply Link) → set_up_reply row tick allowance ≡ r → ledger_calls.set_up row tick allowance ≡ record { said = ledger_in r; left = leaves row (row_in r) }
    set_up_lem row tick allowance r e = ap (λ (r : Reply Link). record { said = ledger_in r; left = leaves row (row_in r) }) e

    move : (link : Link) (tick : ℕ) (r : Reply Link) → move_reply link tick ≡ r → ledger_calls.move link tick ≡ record { said = done r; left = leaves link r }
    move link tick r e = ap (λ (r : Reply Link). record { said = done r; left = leaves link r }) e

    ask : (link : Link) (tick asked : ℕ) (r : Reply Granted) → ask_reply link tick asked ≡ r → ledger_calls.ask link tick asked ≡ record { said = code_in r; left = leaves link (link_in r) }
    ask link tick asked r e = ap (λ (r : Reply Granted). record { said = code_in r; left = leaves link (link_in r) }) e

-- ---- after an accepted call

accepts : (link : Link) → Sound link → Accepts link
accepts link s = record {
  move = λ tick l. (moved_to tick link, move_done link tick s l);
  ask = λ tick code l a b. (granted code (moved_to tick link), ask_after link tick code (answer (moved_to tick link)) (in_within 1 code top_code a b) (move_done link tick s l));
}

pub continuing : Continuing
continuing = record {
  after_set_up = λ row tick allowance link e.
      let s = set_up_answered row tick allowance link e in
      subst Accepts (sym s.1) (accepts _ (set_up_sound row tick allowance s.0));
  after_move = λ link tick next e.
      let m = move_answered link tick next e in
      subst Accepts (sym m.2) (accepts _ (moved_sound link tick m.0));
  after_ask = λ link tick code g e.
      let a = ask_answered link tick code g e in
      subst (λ (g : Granted). Accepts g.link) (sym a.4) (accepts _ (granted_sound (moved_to tick link) code (moved_sound link tick a.2)));
}

-- ---- the history

pub history_theorem : HistoryTheorem
history_theorem = history

-- calls, and one more
after_one : (calls : Calls) (past : Past) (list : List Call) (call : Call) → after_all calls past (list ++ (call ∷ [])) ≡ after calls (after_all calls past list) call
after_one calls past [] call = refl
after_one calls past (c ∷ rest) call = after_one calls (after calls past c) rest call

-- where the history holds before and after an asking at the tick of the link, what is stored is what the slot held and the rate of what is
-- granted
stored : (made : Link → ℕ → ℕ) (slots allowance asked : ℕ) (past : Past) → within 1 asked top_code ≡ true → InRange slots allowance
    → Accounted slots allowance past → Accounted slots allowance (after (own_sum made) past (histories.asking past.tick asked))
    → made past.link (grant_of past.link asked) ≡ held past.link + rate_of (grant_of past.link asked)
stored made slots allowance asked past in_range_lem ranges before then =
    let link = past.link in
    let t = past.tick in
    let code = grant_of link asked in
    let long = before.long in
    let same_allowance = before.allowance_is in
    let same_tick = before.tick_is in
    let most = before.total_most in
    let sound : Sound link = record { ranges = record { slots_low = omega (arith, ranges.slots_low); slots_high = omega (arith, ranges.slots_high); allowance_high = omega (arith, ranges.allowance_high) }; below = omega arith } in
    let moved : move_reply link t ≡ answer link =
    move_done link t sound (omega arith) ∙ ap (λ (u : ℕ). answer (moved_to u link)) (sym same_tick) ∙ ap answer (moved_same link) in
    let grant : ℕ → Link → Granted = λ asked link. record { code = grant_of link asked; link = lent (set link.row (link.ledger.tick % length link.row) (made link (grant_of link asked))) link.ledger } in
    let reply = pick (within 1 asked top_code) (and_then (move_reply link t) (λ moved. answer (grant asked moved))) (refuse 7) in
    let granted_so : reply ≡ answer (grant asked link) = chosen (within 1 asked top_code) _ (refuse 7) in_range_lem ∙ ap (λ (r : Reply Link). and_then r (λ moved. answer (grant asked moved))) moved in
    let afterwards : Accounted slots allowance (histories.after_asking t past (answer code) (grant asked link).link) =
    subst (λ (r : Reply Granted). Accounted slots allowance (histories.after_asking t past (code_in r) (leaves link (link_in r)))) granted_so then in
    let sum = rw (in_last_lem slots t t (le_refl t) (omega (arith, ranges.slots_low))) at afterwards.total_is in
    omega (arith, sum, before.total_is, total_set link.row (link.ledger.tick % length link.row) (made link code) (mod-lt link.ledger.tick sound.ranges.slots_low))

-- the record of a row set up at tick 0
abbrev at_0 : ℕ → Ledger
at_0 allowance = record { tick = 0; allowance = allowance }

-- of each other ledger: calls after which a total, a sum or a tick would have to be another number than it is
pub shut_out : ShutOut
unfolding link_in_range within moved_on passed charged in_last grant_of greatest_up_to rate_of
shut_out = record {
  otherwise_ours = refl;
  own_sum_ours = refl;
  own_sum_lem = λ made row tick allowance ledger e list asked l h other claim.
      let past = after_all (own_sum made) (histories.begun (lent (leaves row (row_in (set_up_reply row tick allowance))) ledger) tick) list in
      other (stored made (length row) allowance asked past (in_within 1 asked top_code l h) (set_up_link row tick allowance ledger e).0 (claim row tick allowance ledger e list)
      (subst (Accounted (length row) allowance) (after_one (own_sum made) _ list (histories.asking past.tick asked)) (claim row tick allowance ledger e (list ++ (histories.asking past.tick asked ∷ [])))));
  adds_nothing = λ claim.
      let a = claim (0 ∷ []) 0 80000 (at_0 80000) refl (histories.asking 0 1 ∷ []) in
      let e : ◌≡◌ {A = ℕ} 0 80000 = a.total_is in omega arith;
  overwrites = λ claim.
      let a = claim (0 ∷ []) 0 160000 (at_0 160000) refl (histories.asking 0 1 ∷ histories.asking 0 1 ∷ []) in
      let e : ◌≡◌ {A = ℕ} 80000 160000 = a.total_is in omega arith;
  forgets_moving = λ claim.
      let a = claim (0 ∷ 0 ∷ []) 0 80000 (at_0 80000) refl (histories.asking 0 1 ∷ histories.moving 1 ∷ []) in
      let e : ◌≡◌ {A = ℕ} 0 80000 = a.total_is in omega arith;
  forgets_asking = λ claim.
      let a = claim (0 ∷ 0 ∷ []) 0 80000 (at_0 80000) refl (histories.asking 0 1 ∷ histories.asking 1 1 ∷ []) in
      let e : 160000 ≤ 80000 = a.last_most 1 in omega arith;
  forgets_both = λ claim.
      let a = claim (0 ∷ 0 ∷ []) 0 80000 (at_0 80000) refl (histories.asking 0 1 ∷ histories.asking 1 1 ∷ []) in
      let e : 160000 ≤ 80000 = a.last_most 1 in omega arith;
  zeroes_present = λ claim.
      let a = claim (0 ∷ []) 0 80000 (at_0 80000) refl (histories.asking 0 1 ∷ histories.moving 0 ∷ []) in
      let e : ◌≡◌ {A = ℕ} 0 80000 = a.total_is in omega arith;
  keeps_all = λ claim.
      let a = claim (0 ∷ []) 0 80000 (at_0 80000) refl (histories.asking 0 1 ∷ histories.moving 1 ∷ []) in
      let e : ◌≡◌ {A = ℕ} 80000 0 = a.total_is in omega arith;
  zeroes_new = λ claim.
      let a = claim (0 ∷ 0 ∷ []) 0 80000 (at_0 80000) refl (histories.asking 0 1 ∷ histories.moving 3 ∷ []) in
      let e : ◌≡◌ {A = ℕ} 80000 0 = a.total_is in omega arith;
  grants_all = λ claim.
      let a = claim (0 ∷ []) 0 0 (at_0 0) refl (histories.asking 0 1 ∷ []) in
      let e : 80000 ≤ 0 = a.total_most in omega arith;
  stays_behind = λ claim.
      let a = claim (0 ∷ []) 0 0 (at_0 0) refl (histories.asking 1 1 ∷ []) in
      let e : ◌≡◌ {A = ℕ} 0 1 = a.tick_is in omega arith;
  stores_moving = λ claim.
      let a = claim (0 ∷ []) 1 0 (record { tick = 1; allowance = 0 }) refl (histories.moving 0 ∷ []) in
      let e : ◌≡◌ {A = ℕ} 0 1 = a.tick_is in omega arith;
  stores_asking = λ claim.
      let a = claim (0 ∷ []) 1 0 (record { tick = 1; allowance = 0 }) refl (histories.asking 0 1 ∷ []) in
      let e : ◌≡◌ {A = ℕ} 0 1 = a.tick_is in omega arith;
}
