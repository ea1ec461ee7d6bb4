-- Which refusals the check of a header, forwarding, the walk and the view can be: stated for any property that holds of their numbers.
-- Assumes nothing.
use Prim.Native.Nat.{ℕ}
use mathlib.Core.List.{List}
use mathlib.Core.Path.{◌≡◌, refl}
use lib.Dec.{leb, eqb}
use Rattle.refusals.specs.Reply.{Reply, answer, refuse}
use Rattle.refusals.proofs.ReplyLaws.{RefusedBy, chosen_by, then_by}
use Rattle.wire_rules.specs.Walk.Walks.{walk, Place}
use Rattle.wire_rules.specs.Walk.Claims.{Faulty, bad_length, other_length, second}
use Rattle.wire_rules.proofs.Walk.Claims.{walking_theorem}
use Rattle.wire_rules.specs.Ipv4.Headers.{ip_ttl, header_of, options_of}
use Rattle.wire_rules.specs.Ipv4.Checksums.{all_ones, ones_sum}
use Rattle.wire_rules.specs.Ipv4.Checks.{well_formed, header_checked}
use Rattle.wire_rules.specs.Ipv4.Packets.{located, forwarded}
use Rattle.wire_rules.specs.Ipv4.Views.{view}

module _ (P : ℕ → Type 0) (one : P 1) (two : P 2) where
  pub checked_by : (reach : ℕ) (packet : List ℕ) → RefusedBy P (header_checked reach packet)
  checked_by reach packet = chosen_by P (well_formed reach packet) _ _ (chosen_by P (eqb (ones_sum (header_of packet)) all_ones) _ _ tt two) one

  pub forwarded_by : P 6 → (reach : ℕ) (packet : List ℕ) → RefusedBy P (forwarded reach packet)
  forwarded_by six reach packet =
      then_by P (header_checked reach packet) _ (checked_by reach packet) (λ h. chosen_by P (well_formed reach packet) _ _ (chosen_by P (leb (ip_ttl packet) 1) _ _ six tt) one)

  module _ (three : P 3) (five : P 5) where
    fault_by : (n : ℕ) (area : List ℕ) → Faulty n area → P n
    fault_by n area (bad_length a b c d e f) = three
    fault_by n area (other_length a b c d e f g) = five
    fault_by n area (second a b c d e f g h i j) = five

    walked_by : (area : List ℕ) (r : Reply Place) → walk area ≡ r → RefusedBy P r
    walked_by area (answer place) e = tt
    walked_by area (refuse n) e = fault_by n area (walking_theorem.fault_sound area n e)

    pub view_by : (reach : ℕ) (packet : List ℕ) → RefusedBy P (view reach packet)
    view_by reach packet =
        then_by P (located reach packet) _
        (then_by P (header_checked reach packet) _ (checked_by reach packet) (λ h. then_by P (walk (options_of packet)) _ (walked_by (options_of packet) (walk (options_of packet)) refl) (λ place. tt)))
        (λ place. tt)
