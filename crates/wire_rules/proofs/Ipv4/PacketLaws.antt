-- Laws of marking, by what the header's check answered and by the ECN bits. Assumes nothing.
use Prim.Native.Nat.{ℕ, ◌/◌, ◌%◌}
use mathlib.Core.List.{List}
use mathlib.Core.Path.{◌≡◌, sym, ap, ◌∙◌}
use borrow.Author.Tests.{eq-eqb, ne_eqb}
use lib.ListN.{length, get_or, set}
use Rattle.common.specs.Choice.{pick}
use Rattle.refusals.specs.Reply.{Reply, answer, refuse, and_then}
use Rattle.wire_rules.specs.Ipv4.Headers.{ecn_place}
use Rattle.wire_rules.specs.Ipv4.Checksums.{sealed}
use Rattle.wire_rules.specs.Ipv4.Checks.{header_checked}
use Rattle.wire_rules.specs.Ipv4.Marks.{ect_set, with_ce, mark_reply, after_mark, marked_packet}
use Rattle.wire_rules.specs.declared.Marking.{Marking}
use Rattle.wire_rules.specs.declared.Marking.TheVariants.{Marked, Dropped}

-- ---- marking

module _ (packet : List ℕ) where
  abbrev decided : Reply ℕ → Reply Marking
  decided checked = and_then checked (λ header. answer (pick (ect_set (get_or packet ecn_place 0)) Marked Dropped))

  pub mark_refused : (n : ℕ) → refuse n ≡ header_checked (length packet) packet → (refuse n ≡ mark_reply packet) × (packet ≡ marked_packet packet)
  mark_refused n e = (ap decided e, ap (λ (r : Reply ℕ). after_mark packet (decided r)) e)

  pub mark_drop : (h : ℕ) → answer h ≡ header_checked (length packet) packet → (get_or packet ecn_place 0 / 2 % 2 ≡ 1 → ⊥)
      → (answer Dropped ≡ mark_reply packet) × (packet ≡ marked_packet packet)
  unfolding ect_set
  mark_drop h e t =
      let d : decided (answer h) ≡ answer Dropped = simp (ne_eqb _ _ t) in
      let m = sym d ∙ ap decided e in
      (m, ap (after_mark packet) m)

  pub mark_marked : (h : ℕ) → answer h ≡ header_checked (length packet) packet → get_or packet ecn_place 0 / 2 % 2 ≡ 1
      → (answer Marked ≡ mark_reply packet) × (sealed (set packet ecn_place (with_ce (get_or packet ecn_place 0))) ≡ marked_packet packet)
  unfolding ect_set
  mark_marked h e t =
      let d : decided (answer h) ≡ answer Marked = simp (eq-eqb _ _ t) in
      let m = sym d ∙ ap decided e in
      (m, ap (after_mark packet) m)
