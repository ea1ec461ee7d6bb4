-- Laws of a well-formed header: what it says of the lengths, and which bytes it depends on. Assumes nothing.
use Prim.Native.Nat.{ℕ, ◌*◌, ◌%◌, ◌≤◌}
use mathlib.Core.Bool.{true, ◌&&◌}
use mathlib.Core.List.{List}
use mathlib.Core.Path.{◌≡◌, ap}
use native.Mathlib.Omega.{arith}
use borrow.Author.Tests.{le-leb, eq-eqb, leb-true, eqb-true}
use lib.Dec.{leb, eqb}
use lib.ListN.{length, set}
use lib.Seq.{get_or-set_other}
use Rattle.common.specs.Choice.{within}
use Rattle.common.proofs.Choice.{both_true, within_low, within_high, in_within}
use Rattle.refusals.specs.Reply.{answer}
use Rattle.refusals.proofs.ReplyLaws.{passed, answered}
use Rattle.wire_rules.specs.Ipv4.Headers.{least_header, version_in, length_field, header_length, total_length, header_of}
use Rattle.wire_rules.specs.Ipv4.Checksums.{all_ones, ones_sum}
use Rattle.wire_rules.specs.Ipv4.Checks.{well_formed, header_checked}
use Rattle.wire_rules.specs.Ipv4.Claims.{HeaderForm}

pub form : (reach : ℕ) (packet : List ℕ) → well_formed reach packet ≡ true → HeaderForm reach packet
unfolding well_formed
form reach packet e =
    let h = header_length packet in
    let n = length packet in
    let first = leb least_header n && eqb (version_in packet) 4 in
    let t4 = both_true (first && within 5 (length_field packet) 15 && leb h n) (within h (total_length packet) reach) e in
    let t3 = both_true (first && within 5 (length_field packet) 15) (leb h n) t4.0 in
    let t2 = both_true first (within 5 (length_field packet) 15) t3.0 in
    let t1 = both_true (leb least_header n) (eqb (version_in packet) 4) t2.0 in
    record {
      long = leb-true least_header n t1.0;
      version = eqb-true (version_in packet) 4 t1.1;
      words = within_low 5 (length_field packet) 15 t2.1;
      inside = leb-true h n t3.1;
      total_low = within_low h (total_length packet) reach t4.1;
      total_high = within_high h (total_length packet) reach t4.1;
    }

pub formed : (reach : ℕ) (packet : List ℕ) → HeaderForm reach packet → well_formed reach packet ≡ true
unfolding well_formed
formed reach packet f =
    simp (
      le-leb least_header (length packet) f.long,
      eq-eqb (version_in packet) 4 f.version,
      in_within 5 (length_field packet) 15 f.words (omega arith),
      le-leb (header_length packet) (length packet) f.inside,
      in_within (header_length packet) (total_length packet) reach f.total_low f.total_high,
    )

-- the header has at least 20 bytes, and whole words
pub least : (reach : ℕ) (packet : List ℕ) → HeaderForm reach packet → least_header ≤ header_length packet
unfolding header_length
least reach packet f = omega (arith, f.words)

-- ---- a header that passed its check

pub record Good (reach : ℕ) (packet : List ℕ) : Type 0 where
  pub well : well_formed reach packet ≡ true
  pub form_is : HeaderForm reach packet
  pub sum : ones_sum (header_of packet) ≡ all_ones
  pub header : least_header ≤ header_length packet

pub good : (reach h : ℕ) (packet : List ℕ) → answer h ≡ header_checked reach packet → Good reach packet × (h ≡ header_length packet)
good reach h packet e =
    let outer = passed (well_formed reach packet) h _ 1 e in
    let inner = answered (eqb (ones_sum (header_of packet)) all_ones) h (header_length packet) 2 outer.1 in
    let f = form reach packet outer.0 in
    (record { well = outer.0; form_is = f; sum = eqb-true _ _ inner.0; header = least reach packet f }, inner.1)

pub checked_when : (reach : ℕ) (packet : List ℕ) → well_formed reach packet ≡ true → ones_sum (header_of packet) ≡ all_ones
    → header_checked reach packet ≡ answer (header_length packet)
checked_when reach packet w s = simp (w, eq-eqb (ones_sum (header_of packet)) all_ones s)

-- a store behind the first byte leaves the header's length
pub length_kept : (packet : List ℕ) (i a : ℕ) → 1 ≤ i → header_length (set packet i a) ≡ header_length packet
unfolding header_length
length_kept packet i a h = ap (λ (k : ℕ). k % 16 * 4) (get_or-set_other packet i 0 a 0 (λ e. absurd (omega arith)))
