-- The claims of specs/Ipv4/Claims.antt, from the laws of sums, of sealed packets, of options and of views. Assumes nothing.
use Rattle.wire_rules.specs.Ipv4.Packets.{walked}
use Rattle.refusals.specs.Reply.{Reply, and_then}
use Prim.Native.Nat.{ℕ, zero, suc, ◌+◌, ◌-◌, ◌*◌, ◌/◌, ◌%◌}
use mathlib.Core.Bool.{true}
use mathlib.Core.List.{List}
use mathlib.Core.Path.{◌≡◌, refl, sym, ap, ap₂, ◌∙◌}
use native.Mathlib.Omega.{arith}
use borrow.Author.Tests.{ne_eqb}
use lib.ListN.{set, length-set}
use lib.Seq.{get_or-set_same, get_or-set_other}
use Rattle.std.specs.Prelude.{None, Some}
use Rattle.wire_rules.proofs.Walk.Claims.{walking_theorem}
use Rattle.wire_rules.specs.Ipv4.Headers.{checksum_in, header_of, options_of}
use Rattle.wire_rules.specs.Ipv4.Checksums.{all_ones, ones_sum, with_checksum, checksum_of, sealed}
use Rattle.wire_rules.specs.Ipv4.Checks.{well_formed}
use Rattle.wire_rules.specs.Ipv4.Claims.{word_total, Summing, Sealing, Reading, Locating, Viewing, Forwarding, MarkingTheorem, MarkingOnly, MarkedStill, BehindHeader}
use Rattle.wire_rules.proofs.Ipv4.ChecksumLaws.{folded, folded_limit, sum_folded, length_sealed}
use Rattle.wire_rules.proofs.Ipv4.HeaderLaws.{form, good, checked_when}
use Rattle.wire_rules.proofs.Ipv4.SealLaws.{sealed_others, bytes_sealed, sum_sealed, which, which_pass, passes}
use Rattle.wire_rules.proofs.Ipv4.OptionLaws.{located_of, found, located_fault, made_of, made_clear, made_faulty}
use Rattle.wire_rules.proofs.Ipv4.SealLaws as seals
use Rattle.wire_rules.proofs.Ipv4.ReadLaws as reads
use Rattle.wire_rules.proofs.Ipv4.PutLaws as puts
use Rattle.wire_rules.proofs.Ipv4.MarkLaws as marks
use Rattle.wire_rules.proofs.Ipv4.UnreadLaws as behind

-- ---- the checksum

folded_remainder : (n : ℕ) → folded n % all_ones ≡ n % all_ones
folded_remainder zero = refl
folded_remainder (suc n) = omega arith

folded_zero : (n : ℕ) → folded n ≡ 0 → n ≡ 0
folded_zero zero e = refl
folded_zero (suc n) e = absurd (omega arith)

pub summing : Summing
summing = record {
  limit = λ l b. rw (sum_folded l b) (folded_limit (word_total l));
  remainder = λ l b. ap (λ (k : ℕ). k % all_ones) (sum_folded l b) ∙ folded_remainder (word_total l);
  zero = λ l b e. sum_folded l b ∙ ap folded e;
  only_zero = λ l b e. folded_zero (word_total l) (sym (sum_folded l b) ∙ e);
}

-- the checksum that is written, in the paper's numbers, and that it then stands in its field
complement : (header : List ℕ) → checksum_of header ≡ 65535 - ones_sum (set (set header 10 0) 11 0)
unfolding checksum_of with_checksum
complement header = refl

field_is : (reach : ℕ) (packet : List ℕ) → well_formed reach packet ≡ true → checksum_in (sealed packet) ≡ checksum_of (header_of packet)
unfolding sealed with_checksum
field_is reach packet w =
    let c = checksum_of (header_of packet) in
    let f = (form reach packet w).long in
    let high = get_or-set_other (set packet 10 (c / 256)) 11 10 (c % 256) 0 (λ e. absurd (omega arith)) ∙ get_or-set_same packet 10 (c / 256) 0 (omega (arith, f)) in
    let low = get_or-set_same (set packet 10 (c / 256)) 11 (c % 256) 0 (rw (length-set packet 10 (c / 256)) (omega (arith, f))) in
    ap₂ (λ (x y : ℕ). x * 256 + y) high low ∙ omega arith

pub sealing : Sealing
sealing = record {
  sum = λ reach p b w. sum_sealed reach p (form reach p w) b;
  passes = passes;
  others = sealed_others;
  long = length_sealed;
  bytes = bytes_sealed;
  again = λ reach p w. seals.again reach p (form reach p w);
  writes = λ reach p w. simp w;
  right = checked_when;
  wrong = λ reach p w n. simp (w, ne_eqb (ones_sum (header_of p)) 65535 n);
  complement = complement;
  field_is = field_is;
  one = λ reach p w. simp w;
  valid = λ reach h p b e. let g = (good reach h p (sym e)).0 in which reach p g.form_is b g.sum;
  accepted = λ reach p b w v. checked_when reach p w (which_pass reach p (form reach p w) b v);
}

-- ---- packets

pub reading : Reading
reading = reads.reading

pub locating : Locating
locating = record {
  inside = puts.at_place;
  refused = λ reach n packet e. ap (λ (r : Reply ℕ). and_then r (λ header. walked packet)) e;
  complete = λ reach h offset packet e holds. located_of reach h packet (Some offset) e (walking_theorem.complete (options_of packet) offset holds);
  none_complete = λ reach h packet e clear. located_of reach h packet None e (walking_theorem.none_complete (options_of packet) clear);
  fault_complete = λ reach h n packet e fault. located_fault reach h n packet e (walking_theorem.fault_complete (options_of packet) n fault);
  sound = λ reach place packet e. let f = found reach packet (Some place) e in made_of packet place f.inner f.by_walk f.moved;
  none_sound = λ reach packet e. let f = found reach packet None e in made_clear packet f.inner f.by_walk f.moved;
  fault_sound = made_faulty;
}

pub viewing : Viewing
viewing = puts.viewing

pub forwarding : Forwarding
forwarding = puts.forwarding

pub marking_theorem : MarkingTheorem
marking_theorem = marks.marking_theorem

pub marking_only : MarkingOnly
marking_only = marks.marking_only

pub marked_still : MarkedStill
marked_still = marks.marked_still

pub behind_header : BehindHeader
behind_header = behind.behind_header
