-- Laws of a run under way: the routers met so far, the end of the row, and what the sender takes. Assumes nothing.
use Prim.Native.Nat.{ℕ, ◌+◌, ◌-◌, ◌≤◌, ◌<◌}
use mathlib.Core.List.{List}
use Rattle.std.specs.Prelude.{None, Some}
use mathlib.Core.Path.{◌≡◌, refl, sym, ap, ap₂, ◌∙◌}
use native.Mathlib.Omega.{arith}
use lib.ListN.{length, drop, length-drop}
use Rattle.common.proofs.Choice.{clash}
use Rattle.refusals.specs.Reply.{Reply, answer, refuse, leaves, done, Outcome}
use Rattle.refusals.proofs.ReplyLaws.{went, stayed}
use Rattle.gateway_rules.specs.Receiver.Reports.{Report, unanswered, reported, response_after, reaction_in}
use Rattle.gateway_rules.specs.declared.Reaction.TheVariants.{Answered}
use Rattle.sender_rules.specs.declared.Connection.{Connection}
use Rattle.wire_rules.specs.declared.Transport.{Transport}
use Rattle.path_rules.specs.declared.Router.{Router}
use Rattle.path_rules.specs.Hops.Rows.{most_routers, front_of, length_of, Hops, no_hops, hops_from}
use Rattle.path_rules.specs.Hops.Verdicts.{Verdict}
use Rattle.path_rules.proofs.Hops.RowLaws.{hops_end}
use Rattle.hops.proofs.RowLaws.{front_fits, hops_on}
use Rattle.path_rules.specs.Path.Runs.{Calls, onward, travel_by, ran, said_of, blank, concluded}

-- ---- the hops' travel

abbrev Step : Type 0
Step = Router → List ℕ → Reply (List ℕ)

-- a travel over a row, lent a packet, has met so many routers, and has come to a place in the row with a packet
pub record Underway (step : Step) (row lent : List ℕ) (met at : ℕ) (packet : List ℕ) : Type 0 where
  pub inside : at ≤ length row
  pub alike : travel_by step (hops_from most_routers row).routers lent ≡ travel_by step (hops_from (most_routers - met) (drop at row)).routers packet

pub sets_out : (step : Step) (row lent : List ℕ) → Underway step row lent 0 0 lent
sets_out step row lent = record { inside = omega arith; alike = refl }

-- what a call says and leaves is this travel's end
abbrev pub EndsWith : Step → List ℕ → List ℕ → Reply (Unit {0}) → List ℕ → Type 0
EndsWith step row lent said left =
    let whole = travel_by step (hops_from most_routers row).routers lent in (said ≡ whole.said) × (left ≡ whole.left)

module _ (step : Step) (row lent : List ℕ) (met at : ℕ) (packet : List ℕ) (u : Underway step row lent met at packet) where
  ends_as : (o : Outcome (Unit {0}) (List ℕ)) → travel_by step (hops_from (most_routers - met) (drop at row)).routers packet ≡ o → EndsWith step row lent o.said o.left
  ends_as o e =
      let f = u.alike ∙ e in (ap (λ (x : Outcome (Unit {0}) (List ℕ)). x.said) (sym f), ap (λ (x : Outcome (Unit {0}) (List ℕ)). x.left) (sym f))

  arrives : hops_from (most_routers - met) (drop at row) ≡ no_hops (drop at row) → EndsWith step row lent (answer tt) packet
  arrives e = ends_as _ (ap (λ (h : Hops). travel_by step h.routers packet) e)

  pub at_end : None ≡ front_of (drop at row) → EndsWith step row lent (answer tt) packet
  at_end e = arrives (hops_end (most_routers - met) (drop at row) (sym e))

  pub at_limit : most_routers ≤ met → EndsWith step row lent (answer tt) packet
  unfolding hops_from
  at_limit h = arrives (ap (λ (n : ℕ). hops_from n (drop at row)) {x = most_routers - met} {y = 0} (omega arith))

  module _ (router : Router) (front : Some router ≡ front_of (drop at row)) where
    pub fits_behind : at + length_of router ≤ length row
    fits_behind = omega (arith, front_fits (drop at row) router (sym front), length-drop at row, u.inside)

    module _ (more : met < most_routers) (new : List ℕ) (left : new ≡ leaves packet (step router packet)) where
      abbrev behind : List Router
      behind = (hops_from (most_routers - (met + 1)) (drop (at + length_of router) row)).routers

      next : (reply : Reply (List ℕ)) → step router packet ≡ reply
          → travel_by step (hops_from (most_routers - met) (drop at row)).routers packet ≡ onward packet reply (travel_by step behind)
      next reply e =
          ap (λ (h : Hops). travel_by step h.routers packet) (hops_on most_routers met row at router more (sym front))
          ∙ ap (λ (r : Reply (List ℕ)). onward packet r (travel_by step behind)) e

      pub goes_on : (size : ℕ) → size ≡ length_of router → answer tt ≡ done (step router packet) → Underway step row lent (met + 1) (at + size) new
      goes_on size e d = rw e record { inside = fits_behind; alike = u.alike ∙ next (answer new) (went packet new (step router packet) d left) }

      pub ends_refused : (n : ℕ) → refuse n ≡ done (step router packet) → EndsWith step row lent (refuse n) new
      ends_refused n d =
          let s = stayed packet new (step router packet) n d left in
          let e = ends_as _ (next (refuse n) s.0) in (e.0, s.1 ∙ e.1)

-- ---- receiver and sender

module _ (calls : Calls) (c : Connection) (t : Transport) (packet : List ℕ) where
  -- by the bytes that the receiver left
  pub was_answered : (r : Reply Report) (bytes : List ℕ) (verdict : Verdict) (said : Reply ℕ) (after : Connection) → answer Answered ≡ reaction_in r → bytes ≡ response_after blank r
      → said ≡ (calls.take_response c bytes t).said → verdict ≡ said_of said → after ≡ (calls.take_response c bytes t).left → ran verdict packet after ≡ concluded calls c t packet r
  was_answered (answer unanswered) bytes verdict said after e b s v a = absurd (clash (cc))
  was_answered (answer (reported r)) bytes verdict said after e b s v a =
      ap₂ (λ (x : Verdict) (y : Connection). ran x packet y) (v ∙ ap said_of s) a
      ∙ ap (λ (l : List ℕ). ran (said_of (calls.take_response c l t).said) packet (calls.take_response c l t).left) b
  was_answered (refuse m) bytes verdict said after e b s v a = absurd (clash (cc))
