-- The history theorem: what holds of a link's past after any calls. The invariant is that the row is the one that the approvals make.
-- Assumes nothing.
use Prim.Native.Nat.{ℕ, ◌≤◌, ◌<◌}
use mathlib.Core.List.{List, [], ◌∷◌}
use mathlib.Core.Logic.{⊎_elim}
use mathlib.Core.Path.{◌≡◌, refl, sym, ap, ap₂, subst, ◌∙◌}
use native.Mathlib.Nat.{le_refl, le_trans}
use native.Mathlib.Omega.{arith}
use lib.ListN.{length}
use Rattle.common.proofs.Choice.{le_or_gt}
use Rattle.refusals.specs.Reply.{Reply, answer, refuse, leaves, done}
use Rattle.wire_rules.specs.Rates.Steps.{rate_of}
use Rattle.gateway_rules.specs.Ledgers.Rows.{total, moved_on, charged}
use Rattle.gateway_rules.specs.Ledgers.Calls.{Link, moved_to, move_reply, grant_of, Granted, granted, ask_reply, code_in, link_in}
use Rattle.gateway_rules.specs.Ledgers.History.{ledger_calls, Call, moving, asking, Approval, Past, begun, after_moving, after_asking, after, after_all, approved_last}
use Rattle.gateway_rules.specs.Ledgers.Claims.{InRange, Accounted, History}
use Rattle.gateway_rules.proofs.Ledgers.CallLaws.{Sound, zeroed, set_up_sound, set_up_link, moved_sound, granted_sound, move_answered, ask_answered}
use Rattle.gateway_rules.proofs.Ledgers.HistoryLaws.{in_last_lem, row_at, Until, until_later, length_row_at, moved_row, total_row_at, slot_row_at, early_row_at, approved_later, approved_before}

record Kept (slots allowance : ℕ) (past : Past) : Type 0 where
  made : past.link.row ≡ row_at slots past.tick past.approvals
  until : Until past.tick past.approvals
  sound : Sound past.link
  tick_is : past.link.ledger.tick ≡ past.tick
  allowance_is : past.link.ledger.allowance ≡ allowance
  last_most : (t : ℕ) → approved_last slots t past.approvals ≤ allowance

module _ (slots allowance : ℕ) where
  long : (past : Past) → Kept slots allowance past → length past.link.row ≡ slots
  long past k = ap length k.made ∙ length_row_at slots past.tick past.approvals

  accounted : (past : Past) → Kept slots allowance past → Accounted slots allowance past
  accounted past k =
      let n = long past k in
      let some : 0 < slots = let s = k.sound.ranges in omega arith in
      let below = k.sound.below in
      let a = k.allowance_is in
      record {
        total_is = ap total k.made ∙ total_row_at slots past.tick past.approvals some;
        total_most = omega arith;
        last_most = k.last_most;
        slot_is = λ t l h. rw k.made (slot_row_at slots past.tick some t past.approvals l h k.until);
        slot_early = λ slot l h. rw k.made (early_row_at slots past.tick slot past.approvals l h k.until);
        long = n;
        allowance_is = a;
        tick_is = k.tick_is;
      }

  -- the link moves on
  kept_moved : (past : Past) (tick : ℕ) → Kept slots allowance past → past.link.ledger.tick ≤ tick
      → Kept slots allowance (record { link = moved_to tick past.link; tick = tick; approvals = past.approvals })
  kept_moved past tick k h =
      let later : past.tick ≤ tick = subst (λ (t : ℕ). t ≤ tick) k.tick_is h in
      record {
        made = ap₂ (λ (t : ℕ) (row : List ℕ). moved_on t tick row) k.tick_is k.made ∙ moved_row slots past.tick tick past.approvals later k.until;
        until = until_later past.tick tick past.approvals later k.until;
        sound = moved_sound past.link tick k.sound;
        tick_is = refl;
        allowance_is = k.allowance_is;
        last_most = k.last_most;
      }

  -- a code is granted at the tick that the link stands at
  kept_granted : (past : Past) (asked : ℕ) → Kept slots allowance past
      → Kept slots allowance (record {
        link = (granted asked past.link).link;
        tick = past.tick;
        approvals = record { tick = past.tick; code = grant_of past.link asked } ∷ past.approvals;
      })
  kept_granted past asked k =
      let tick = past.tick in
      let code = grant_of past.link asked in
      let approval : Approval = record { tick = tick; code = code } in
      let n = long past k in
      let some : 0 < slots = let s = k.sound.ranges in omega arith in
      let sound = granted_sound past.link asked k.sound in
      let until : Until tick (approval ∷ past.approvals) = (le_refl tick, k.until) in
      let made : (granted asked past.link).link.row ≡ row_at slots tick (approval ∷ past.approvals) =
      rw (in_last_lem slots tick tick (le_refl tick) (omega arith)) (ap₂ (λ (t : ℕ) (row : List ℕ). charged t (rate_of code) row) k.tick_is k.made) in
      let all : approved_last slots tick (approval ∷ past.approvals) ≤ allowance =
      let t = ap total made ∙ total_row_at slots tick (approval ∷ past.approvals) some in
      let a = k.allowance_is in omega (arith, sound.below) in
      record {
        made = made;
        until = until;
        sound = sound;
        tick_is = k.tick_is;
        allowance_is = k.allowance_is;
        last_most = λ t. ⊎_elim
            (λ (l : tick ≤ t). le_trans (approved_later slots tick t (approval ∷ past.approvals) l until) all)
            (λ (l : t < tick). rw (approved_before slots t approval past.approvals l) (k.last_most t))
            (le_or_gt tick t);
      }

  -- any call, by its reply; a refused one leaves all that is kept
  kept_refused : (past : Past) → Kept slots allowance past → Kept slots allowance (record { link = past.link; tick = past.tick; approvals = past.approvals })
  kept_refused past k = record { made = k.made; until = k.until; sound = k.sound; tick_is = k.tick_is; allowance_is = k.allowance_is; last_most = k.last_most }

  kept_moving : (past : Past) (tick : ℕ) → Kept slots allowance past → (r : Reply Link) → move_reply past.link tick ≡ r
      → Kept slots allowance (after_moving tick past (done r) (leaves past.link r))
  kept_moving past tick k (refuse n) e = kept_refused past k
  kept_moving past tick k (answer next) e =
      let m = move_answered past.link tick next e in
      subst (λ (link : Link). Kept slots allowance (record { link = link; tick = tick; approvals = past.approvals })) (sym m.2) (kept_moved past tick k m.1)

  kept_asking : (past : Past) (tick asked : ℕ) → Kept slots allowance past → (r : Reply Granted) → ask_reply past.link tick asked ≡ r
      → Kept slots allowance (after_asking tick past (code_in r) (leaves past.link (link_in r)))
  kept_asking past tick asked k (refuse n) e = kept_refused past k
  kept_asking past tick asked k (answer g) e =
      let m = ask_answered past.link tick asked g e in
      subst (λ (g : Granted). Kept slots allowance (after_asking tick past (answer g.code) g.link)) (sym m.4) (kept_granted _ asked (kept_moved past tick k m.3))

  kept_after : (past : Past) (call : Call) → Kept slots allowance past → Kept slots allowance (after ledger_calls past call)
  kept_after past (moving tick) k = kept_moving past tick k _ refl
  kept_after past (asking tick code) k = kept_asking past tick code k _ refl

  kept_all : (past : Past) (list : List Call) → Kept slots allowance past → Kept slots allowance (after_all ledger_calls past list)
  kept_all past [] k = k
  kept_all past (call ∷ rest) k = kept_all (after ledger_calls past call) rest (kept_after past call k)

kept_begun : (row : List ℕ) (tick allowance : ℕ) → InRange (length row) allowance → Kept (length row) allowance (begun (zeroed row tick allowance) tick)
kept_begun row tick allowance r = record {
  made = refl;
  until = tt;
  sound = set_up_sound row tick allowance r;
  tick_is = refl;
  allowance_is = refl;
  last_most = λ t. omega arith;
}

pub history : History ledger_calls
history row tick allowance ledger e list =
    let s = set_up_link row tick allowance ledger e in
    accounted (length row) allowance _ (kept_all (length row) allowance _ list
    (subst (λ (link : Link). Kept (length row) allowance (begun link tick)) (sym s.1) (kept_begun row tick allowance s.0)))
