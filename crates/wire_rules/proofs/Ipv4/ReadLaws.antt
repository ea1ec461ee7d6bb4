-- Laws of what is read of a packet: how far the total length may reach, and the header by itself. Assumes nothing.
use Rattle.common.specs.Lists.{Bytes}
use Prim.Native.Nat.{ℕ, ◌-◌, ◌<◌, ◌*◌, ◌%◌, ◌+◌}
use mathlib.Core.Bool.{Bool, true, false, ◌&&◌}
use mathlib.Core.List.{List}
use mathlib.Core.Path.{◌≡◌, refl, sym, ap, ap₂, ◌∙◌}
use native.Mathlib.Nat.{le_refl}
use native.Mathlib.Omega.{arith}
use borrow.Author.Tests.{le-leb, lt-leb, leb-false, ne_eqb}
use lib.Dec.{leb, eqb}
use lib.ListN.{length, set, take, drop, length-set, get_or, length-drop}
use lib.Seq.{get_or-set_other, take-set-lt, get_or-drop, get_or-take, length-take-le}
use Rattle.common.specs.Choice.{pick, within}
use Rattle.refusals.specs.Reply.{Reply, answer, refuse, and_then}
use Rattle.refusals.proofs.ReplyLaws.{passed, let_through, same_answer}
use Rattle.wire_rules.specs.Walk.Walks.{walk}
use Rattle.wire_rules.specs.Ipv4.Headers.{least_header, options_place, version_in, length_field, total_length, ttl_place, ip_ttl, header_length, header_of}
use Rattle.wire_rules.specs.Ipv4.Checksums.{all_ones, ones_sum, sealed}
use Rattle.wire_rules.specs.Ipv4.Checks.{well_formed, header_checked}
use Rattle.wire_rules.specs.Ipv4.Packets.{in_packet, walked, passed_on}
use Rattle.wire_rules.specs.Ipv4.Claims.{Reading, ValidChecksum}
use Rattle.wire_rules.proofs.Ipv4.HeaderLaws.{form, least, formed}
use Rattle.wire_rules.proofs.Ipv4.SealLaws.{same_form, length_alone, alone, form_alone, ttl_alone, sealed_alone, which}

regroup : (a x y : Bool) → a && (x && y) ≡ (a && (x && true)) && y
regroup true true y = refl
regroup true false y = refl
regroup false x y = refl

reach_only : (reach : ℕ) (packet : List ℕ) → well_formed reach packet ≡ (well_formed (total_length packet) packet && leb (total_length packet) reach)
unfolding well_formed within
reach_only reach packet =
    let h = header_length packet in
    let total = total_length packet in
    let a = leb least_header (length packet) && eqb (version_in packet) 4 && (leb 5 (length_field packet) && leb (length_field packet) 15) && leb h (length packet) in
    regroup a (leb h total) (leb total reach) ∙ ap (λ (t : Bool). (a && (leb h total && t)) && leb total reach) (sym (le-leb total total (le_refl total)))

pub checked_of : (reach : ℕ) (packet : List ℕ) → well_formed reach packet ≡ true
    → header_checked reach packet ≡ pick (eqb (ones_sum (header_of packet)) all_ones) (answer (header_length packet)) (refuse 2)
checked_of reach packet w = simp w

checked_alike : (reach : ℕ) (packet : List ℕ) → well_formed reach packet ≡ true → header_checked reach (header_of packet) ≡ header_checked reach packet
checked_alike reach packet w =
    let f = form reach packet w in
    checked_of reach (header_of packet) (form_alone reach packet f)
    ∙ ap₂ (λ (l : List ℕ) (h : ℕ). pick {A = Reply ℕ} (eqb (ones_sum l) all_ones) (answer h) (refuse 2)) (alone reach packet f) (length_alone reach packet f)
    ∙ sym (checked_of reach packet w)

pub passed_of : (reach : ℕ) (packet : List ℕ) → well_formed reach packet ≡ true → 1 < ip_ttl packet → passed_on reach packet ≡ answer (sealed (set packet ttl_place (ip_ttl packet - 1)))
passed_of reach packet w h = simp (w, lt-leb (ip_ttl packet) 1 h)

-- what a packet that was passed on says of the one before
pub passed_is : (reach : ℕ) (packet new : List ℕ) → passed_on reach packet ≡ answer new
    → (well_formed reach packet ≡ true) × (1 < ip_ttl packet) × (new ≡ sealed (set packet ttl_place (ip_ttl packet - 1)))
passed_is reach packet new e =
    let outer = passed (well_formed reach packet) new _ 1 (sym e) in
    let inner = let_through (leb (ip_ttl packet) 1) new _ 6 outer.1 in
    (outer.0, leb-false (ip_ttl packet) 1 inner.0, same_answer inner.1)

-- the store of a byte that no well-formed header depends on
pub set_form : (reach : ℕ) (packet : List ℕ) (i a : ℕ) → (i ≡ 0 → ⊥) → (i ≡ 2 → ⊥) → (i ≡ 3 → ⊥)
    → (well_formed reach (set packet i a) ≡ well_formed reach packet) × (header_length (set packet i a) ≡ header_length packet)
set_form reach packet i a x y z =
    same_form reach packet (set packet i a) (length-set packet i a)
    (get_or-set_other packet i 0 a 0 (λ e. x (sym e))) (get_or-set_other packet i 2 a 0 (λ e. y (sym e))) (get_or-set_other packet i 3 a 0 (λ e. z (sym e)))

pub ttl_form : (reach : ℕ) (packet : List ℕ) (ttl : ℕ) → (well_formed reach (set packet ttl_place ttl) ≡ well_formed reach packet) × (header_length (set packet ttl_place ttl) ≡ header_length packet)
ttl_form reach packet ttl = set_form reach packet ttl_place ttl (λ x. absurd (omega arith)) (λ x. absurd (omega arith)) (λ x. absurd (omega arith))

passed_alike : (reach : ℕ) (packet new : List ℕ) → passed_on reach packet ≡ answer new → passed_on reach (header_of packet) ≡ answer (header_of new)
passed_alike reach packet new e =
    let p = passed_is reach packet new e in
    let f = form reach packet p.0 in
    let ttl = ip_ttl packet - 1 in
    let aged = set packet ttl_place ttl in
    let t = ttl_alone reach packet f in
    let header : set (header_of packet) ttl_place ttl ≡ header_of aged =
    sym (take-set-lt (header_length packet) packet ttl_place ttl (omega (arith, least reach packet f))) ∙ ap (λ (h : ℕ). take h aged) (sym (ttl_form reach packet ttl).1) in
    passed_of reach (header_of packet) (form_alone reach packet f) (rw t p.1)
    ∙ ap (λ (k : ℕ). answer (sealed (set (header_of packet) ttl_place (k - 1)))) t
    ∙ ap (λ (l : List ℕ). answer (sealed l)) header
    ∙ ap answer (sealed_alone reach aged (form reach aged ((ttl_form reach packet ttl).0 ∙ p.0)) ∙ ap header_of (sym p.2))

header_length_lem : (packet : List ℕ) → header_length packet ≡ get_or packet 0 0 % 16 * 4
unfolding header_length
header_length_lem packet = refl

damaged : (reach : ℕ) (packet : List ℕ) → Bytes packet → well_formed reach packet ≡ true → (ValidChecksum packet → ⊥) → header_checked reach packet ≡ refuse 2
damaged reach packet b w n = simp (w, ne_eqb (ones_sum (header_of packet)) all_ones (λ s. n (which reach packet (form reach packet w) b s)))

pub reading : Reading
reading = record {
  header_length_lem = header_length_lem;
  well_formed_lem = form;
  form_suffices = formed;
  malformed = λ reach packet w. simp w;
  damaged = damaged;
  ttl_read = λ reach packet w. simp w;
  ttl_refused = λ reach packet w. simp w;
  header_long = λ reach packet w. length-take-le (header_length packet) packet (form reach packet w).inside ∙ header_length_lem packet;
  header_at = λ packet i h. get_or-take (header_length packet) packet i 0 (rw (header_length_lem packet) h);
  area_long = λ reach packet w.
      length-drop options_place (header_of packet)
      ∙ ap (λ (n : ℕ). n - options_place) (length-take-le (header_length packet) packet (form reach packet w).inside);
  area_at = λ packet i h. get_or-drop options_place (header_of packet) i 0 ∙ get_or-take (header_length packet) packet (options_place + i) 0 h;
  reach_only = reach_only;
  checked_alike = checked_alike;
  located_alike = λ reach packet w.
      ap (λ (r : Reply ℕ). and_then r (λ header. walked (header_of packet))) (checked_alike reach packet w)
      ∙ ap (λ (h : List ℕ). and_then (header_checked reach packet) (λ header. and_then (walk (drop options_place h)) (λ place. answer (in_packet place)))) (alone reach packet (form reach packet w));
  passed_alike = passed_alike;
}
