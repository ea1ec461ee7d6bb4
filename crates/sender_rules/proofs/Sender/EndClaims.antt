-- The claims on first acknowledgement, loss and giving up. Assumes nothing.
use Prim.Native.Nat.{ℕ, ◌≤◌, ◌<◌}
use mathlib.Core.Bool.{false}
use mathlib.Core.Logic.{◌⊎◌, ⊎_elim}
use mathlib.Core.Path.{◌≡◌, refl, sym, ap, ◌∙◌}
use native.Mathlib.Omega.{arith}
use Rattle.common.proofs.Choice.{not_both, untrue, tested, le_or_gt}
use Rattle.refusals.specs.Reply.{Reply, refuse, outcome_of, refusing}
use Rattle.sender_rules.specs.declared.State.{State}
use Rattle.sender_rules.specs.declared.State.TheVariants.{Idle, Asked, Quick}
use Rattle.sender_rules.specs.declared.Connection.{Connection}
use Rattle.sender_rules.specs.Connections.Records.{most_bytes, in_range}
use Rattle.sender_rules.specs.Connections.Claims.{InRange}
use Rattle.sender_rules.proofs.Connections.Claims.{ranges}
use Rattle.sender_rules.specs.Sender.Calls.{acknowledged_reply, loss_reply, give_up_reply, Sender, sender_calls}
use Rattle.sender_rules.specs.Sender.Claims.{Ends}
use Rattle.sender_rules.proofs.Sender.CallLaws.{ack_out, ack_flight_out, ack_in, loss_out, loss_in, give_up_out, give_up_in}

-- a record is in range, or the test says that it is not
either_in : (c : Connection) → InRange c ⊎ (in_range c ≡ false)
either_in c = tested (in_range c) (ranges.tested c)

not_in : (c : Connection) → (InRange c → ⊥) → in_range c ≡ false
not_in c n = untrue (in_range c) (λ e. n (ranges.tested c e))

out_not_in : (c : Connection) → in_range c ≡ false → InRange c → ⊥
out_not_in c e i = not_both (in_range c) (ranges.suffices c i) e

module _ (c : Connection) where
  by_loss : (x : Reply Connection) → x ≡ loss_reply c → sender_calls.lost c ≡ outcome_of c x
  by_loss x e = ap (outcome_of c) (sym e)

  by_give_up : (x : Reply Connection) → x ≡ give_up_reply c → sender_calls.gave_up c ≡ outcome_of c x
  by_give_up x e = ap (outcome_of c) (sym e)

  module _ (flight : ℕ) where
    by_ack : (x : Reply Connection) → x ≡ acknowledged_reply c flight → sender_calls.acknowledged c flight ≡ outcome_of c x
    by_ack x e = ap (outcome_of c) (sym e)

    ack_sevens : (InRange c × (flight ≤ most_bytes) → ⊥) → sender_calls.acknowledged c flight ≡ refusing 7 c
    ack_sevens n =
        ⊎_elim
        (λ (l : flight ≤ most_bytes). by_ack (refuse 7) (ack_out c flight (not_in c (λ i. n (i, l)))))
        (λ (h : most_bytes < flight).
        ⊎_elim
        (λ (i : InRange c). by_ack (refuse 7) (ack_flight_out c (ranges.suffices c i) flight h))
        (λ (e : in_range c ≡ false). by_ack (refuse 7) (ack_out c flight e))
        (either_in c))
        (le_or_gt flight most_bytes)

pub ends : Ends sender_calls
ends = record {
  ack_seven = ack_sevens;
  ack_idle = λ c flight i l f. by_ack c flight (refuse 11) (ack_in c (ranges.suffices c i) Idle f flight l);
  ack_asked = λ c flight q i l f. by_ack c flight (refuse 11) (ack_in c (ranges.suffices c i) (Asked q) f flight l);
  ack_quick = λ c flight b i l f. by_ack c flight _ (ack_in c (ranges.suffices c i) (Quick b) f flight l);
  loss_seven = λ c n. by_loss c (refuse 7) (loss_out c (not_in c n));
  loss_idle = λ c i f. by_loss c (refuse 11) (loss_in c (ranges.suffices c i) Idle f);
  loss_asked = λ c q i f. by_loss c (refuse 11) (loss_in c (ranges.suffices c i) (Asked q) f);
  loss_quick = λ c b i f. by_loss c _ (loss_in c (ranges.suffices c i) (Quick b) f);
  give_up_seven = λ c n. by_give_up c (refuse 7) (give_up_out c (not_in c n));
  give_up_idle = λ c i f. by_give_up c (refuse 11) (give_up_in c (ranges.suffices c i) Idle f);
  give_up_quick = λ c b i f. by_give_up c (refuse 11) (give_up_in c (ranges.suffices c i) (Quick b) f);
  give_up_asked = λ c q i f. by_give_up c _ (give_up_in c (ranges.suffices c i) (Asked q) f);
}

-- ---- no other sender has them

module _ (s : Sender) (a : Ends s) (c : Connection) where
  ack_states : (flight : ℕ) → InRange c → flight ≤ most_bytes → (st : State) → c.state ≡ st → s.acknowledged c flight ≡ sender_calls.acknowledged c flight
  ack_states flight i l Idle f = a.ack_idle c flight i l f ∙ sym (ends.ack_idle c flight i l f)
  ack_states flight i l (Asked q) f = a.ack_asked c flight q i l f ∙ sym (ends.ack_asked c flight q i l f)
  ack_states flight i l (Quick b) f = a.ack_quick c flight b i l f ∙ sym (ends.ack_quick c flight b i l f)

  ack_out_both : (flight : ℕ) → (InRange c × (flight ≤ most_bytes) → ⊥) → s.acknowledged c flight ≡ sender_calls.acknowledged c flight
  ack_out_both flight n = a.ack_seven c flight n ∙ sym (ends.ack_seven c flight n)

  pub ack_only : (flight : ℕ) → s.acknowledged c flight ≡ sender_calls.acknowledged c flight
  ack_only flight =
      ⊎_elim
      (λ (i : InRange c).
      ⊎_elim
      (λ (l : flight ≤ most_bytes). ack_states flight i l c.state refl)
      (λ (h : most_bytes < flight). ack_out_both flight (λ p. absurd (omega (arith, p.1))))
      (le_or_gt flight most_bytes))
      (λ (e : in_range c ≡ false). ack_out_both flight (λ p. out_not_in c e p.0))
      (either_in c)

  loss_states : InRange c → (st : State) → c.state ≡ st → s.lost c ≡ sender_calls.lost c
  loss_states i Idle f = a.loss_idle c i f ∙ sym (ends.loss_idle c i f)
  loss_states i (Asked q) f = a.loss_asked c q i f ∙ sym (ends.loss_asked c q i f)
  loss_states i (Quick b) f = a.loss_quick c b i f ∙ sym (ends.loss_quick c b i f)

  pub loss_only : s.lost c ≡ sender_calls.lost c
  loss_only =
      ⊎_elim
      (λ (i : InRange c). loss_states i c.state refl)
      (λ (e : in_range c ≡ false). a.loss_seven c (out_not_in c e) ∙ sym (ends.loss_seven c (out_not_in c e)))
      (either_in c)

  give_up_states : InRange c → (st : State) → c.state ≡ st → s.gave_up c ≡ sender_calls.gave_up c
  give_up_states i Idle f = a.give_up_idle c i f ∙ sym (ends.give_up_idle c i f)
  give_up_states i (Asked q) f = a.give_up_asked c q i f ∙ sym (ends.give_up_asked c q i f)
  give_up_states i (Quick b) f = a.give_up_quick c b i f ∙ sym (ends.give_up_quick c b i f)

  pub give_up_only : s.gave_up c ≡ sender_calls.gave_up c
  give_up_only =
      ⊎_elim
      (λ (i : InRange c). give_up_states i c.state refl)
      (λ (e : in_range c ≡ false). a.give_up_seven c (out_not_in c e) ∙ sym (ends.give_up_seven c (out_not_in c e)))
      (either_in c)
