-- Two packets that differ behind the header alone are read alike, and alike in the header is what is left of them. Assumes nothing.
use Prim.Native.Nat.{ℕ, ◌+◌, ◌-◌, ◌≤◌, ◌<◌}
use mathlib.Core.Bool.{Bool, true, false}
use mathlib.Core.List.{List}
use mathlib.Core.Logic.{inl, inr}
use Rattle.std.specs.Prelude.{Option, None, Some}
use mathlib.Core.Path.{◌≡◌, refl, sym, ap, ap₂, subst, ◌∙◌}
use native.Mathlib.Omega.{arith}
use lib.Dec.{leb, eqb}
use lib.ListN.{length, get_or, set, take, drop, length-set, length-take, length-drop}
use lib.Seq.{take-take, length-take-le, get_or-take, get_or-set_other, take-set-lt, sets, length-sets}
use Rattle.common.specs.Choice.{pick}
use Rattle.common.proofs.Choice.{by_test}
use Rattle.common.proofs.Lists.{drop-take, take-sets, get_or-sets_other}
use Rattle.refusals.specs.Reply.{Reply, answer, refuse, leaves, and_then}
use Rattle.refusals.proofs.ReplyLaws.{through}
use Rattle.wire_rules.specs.declared.Request.{Request}
use Rattle.wire_rules.specs.Options.Wire.{option_length, option_bytes, fields_fit}
use Rattle.wire_rules.specs.Options.Requests.{is_request, request_read, request_rewritten}
use Rattle.wire_rules.specs.Walk.Walks.{walk, Place}
use Rattle.wire_rules.specs.Ipv4.Headers.{least_header, options_place, ecn_place, ttl_place, ip_ttl, header_length, header_of}
use Rattle.wire_rules.specs.Ipv4.Checksums.{all_ones, ones_sum, sealed}
use Rattle.wire_rules.specs.Ipv4.Checks.{well_formed, header_checked}
use Rattle.wire_rules.specs.Ipv4.Packets.{in_packet, walked, located, passed_on, forwarded}
use Rattle.wire_rules.specs.Ipv4.Marks.{ect_set, with_ce, mark_reply, after_mark, marked_packet}
use Rattle.wire_rules.specs.declared.Marking.{Marking}
use Rattle.wire_rules.specs.declared.Marking.TheVariants.{Marked, Dropped}
use Rattle.wire_rules.specs.Ipv4.Views.{View, option_at, as_request, request_at, view, put_request, put}
use Rattle.wire_rules.specs.Ipv4.Claims.{HeaderForm, SameHeader, KeptBehind, LeftAlike, Alike, BehindHeader}
use Rattle.wire_rules.proofs.Ipv4.ChecksumLaws.{length_sealed}
use Rattle.wire_rules.proofs.Ipv4.HeaderLaws.{form, least, Good, good}
use Rattle.wire_rules.proofs.Ipv4.SealLaws.{same_form, sealed_form, sealed_others, no_checksum, sealed_alone}
use Rattle.wire_rules.proofs.Ipv4.OptionLaws.{found, viewed_by}
use Rattle.wire_rules.proofs.Ipv4.ReadLaws.{checked_of, set_form}
use Rattle.wire_rules.proofs.Ipv4.PutLaws.{put_at, at_place}

-- ---- what is read

-- an option that lies in the header is there when the header is by itself
option_header : (place h : ℕ) (l : List ℕ) → place + option_length ≤ h → option_at place (take h l) ≡ option_at place l
option_header place h l room = ap (take option_length) (drop-take place h l) ∙ take-take option_length (h - place) (drop place l) (omega arith)

-- the first twenty bytes of a packet whose header holds them stand in any other packet with that header
first_bytes : (p q : List ℕ) → header_of q ≡ header_of p → least_header ≤ header_length p → header_length p ≤ length p → (i : ℕ) → i < least_header → get_or q i 0 ≡ get_or p i 0
first_bytes p q e size inside i h =
    let long : length (take (header_length q) q) ≡ header_length p = ap length e ∙ length-take-le (header_length p) p inside in
    sym (get_or-take (header_length q) q i 0 (omega (arith, length-take (header_length q) q)))
    ∙ ap (λ (l : List ℕ). get_or l i 0) e
    ∙ get_or-take (header_length p) p i 0 (omega arith)

formed_too : (reach : ℕ) (p q : List ℕ) → SameHeader p q → well_formed reach p ≡ true → (well_formed reach q ≡ well_formed reach p) × (header_length q ≡ header_length p)
formed_too reach p q s w =
    let f = form reach p w in
    let at = first_bytes p q s.header (least reach p f) f.inside in
    same_form reach p q s.long (at 0 (omega arith)) (at 2 (omega arith)) (at 3 (omega arith))

turned : (p q : List ℕ) → SameHeader p q → SameHeader q p
turned p q s = record { long = sym s.long; header = sym s.header }

module _ (p q : List ℕ) (s : SameHeader p q) where
  formed_alike : (reach : ℕ) → well_formed reach q ≡ well_formed reach p
  formed_alike reach = by_own (well_formed reach p) refl
    where
      by_other : well_formed reach p ≡ false → (t : Bool) → well_formed reach q ≡ t → well_formed reach q ≡ false
      by_other e true f = sym (formed_too reach q p (turned p q s) f).0 ∙ e
      by_other e false f = f

      by_own : (t : Bool) → well_formed reach p ≡ t → well_formed reach q ≡ well_formed reach p
      by_own true e = (formed_too reach p q s e).0
      by_own false e = by_other e (well_formed reach q) refl ∙ sym e

  -- of a well-formed packet
  module _ (reach : ℕ) (w : well_formed reach p ≡ true) where
    pub at_first : (i : ℕ) → i < least_header → get_or q i 0 ≡ get_or p i 0
    at_first = let f = form reach p w in first_bytes p q s.header (least reach p f) f.inside

    pub size_alike : header_length q ≡ header_length p
    size_alike = (formed_too reach p q s w).1

    checks_well : header_checked reach q ≡ header_checked reach p
    checks_well =
        checked_of reach q (formed_alike reach ∙ w)
        ∙ ap₂ (λ (h : List ℕ) (n : ℕ). pick {A = Reply ℕ} (eqb (ones_sum h) all_ones) (answer n) (refuse 2)) s.header size_alike
        ∙ sym (checked_of reach p w)

    -- the request of an option that lies in the header
    requests : (place : ℕ) → place + option_length ≤ header_length p → request_at (Some place) q ≡ request_at (Some place) p
    requests place room =
        ap (λ (l : List ℕ). as_request (request_read l))
        (sym (option_header place (header_length q) q (rw size_alike room)) ∙ ap (option_at place) s.header ∙ option_header place (header_length p) p room)

  pub checks : (reach : ℕ) → header_checked reach q ≡ header_checked reach p
  checks reach = by_form (well_formed reach p) refl
    where
      by_form : (t : Bool) → well_formed reach p ≡ t → header_checked reach q ≡ header_checked reach p
      by_form true e = checks_well reach e
      by_form false e = malformed q (formed_alike reach ∙ e) ∙ sym (malformed p e)
        where
          malformed : (l : List ℕ) → well_formed reach l ≡ false → header_checked reach l ≡ refuse 1
          malformed l e = simp e

  walks : walked q ≡ walked p
  walks = ap (λ (h : List ℕ). and_then (walk (drop options_place h)) (λ place. answer (in_packet place))) s.header

  pub locates : (reach : ℕ) → located reach q ≡ located reach p
  locates reach = ap₂ (λ (c : Reply ℕ) (w : Reply Place). and_then c (λ header. w)) (checks reach) walks

  pub views : (reach : ℕ) → view reach q ≡ view reach p
  views reach = by_place (located reach p) refl
    where
      seen : List ℕ → Reply Place → Reply View
      seen l r = and_then r (λ place. answer (record { ttl = ip_ttl l; request = request_at place l }))

      shown : (place : Place) → located reach p ≡ answer place → request_at place q ≡ request_at place p
      shown None e = refl
      shown (Some place) e = requests reach (found reach p (Some place) e).is_good.well place (at_place reach place p e).room

      by_place : (r : Reply Place) → located reach p ≡ r → view reach q ≡ view reach p
      by_place (refuse n) e = ap (seen q) (locates reach ∙ e) ∙ sym (ap (seen p) e)
      by_place (answer place) e =
          viewed_by reach q place (locates reach ∙ e)
          ∙ ap₂ (λ (t : ℕ) (x : Option Request). answer (record { ttl = t; request = x })) (at_first reach (found reach p place e).is_good.well ttl_place (omega arith)) (shown place e)
          ∙ sym (viewed_by reach p place e)

-- ---- what is sealed

sealed_same : (reach : ℕ) (l m : List ℕ) → HeaderForm reach l → HeaderForm reach m → length m ≡ length l → header_of m ≡ header_of l → SameHeader (sealed l) (sealed m)
sealed_same reach l m f g long e = record {
  long = length_sealed m ∙ long ∙ sym (length_sealed l);
  header = sym (sealed_alone reach m g) ∙ ap sealed e ∙ sealed_alone reach l f;
}

sealed_kept : (p l : List ℕ) → least_header ≤ header_length p → KeptBehind p l → KeptBehind p (sealed l)
sealed_kept p l h k = record {
  size = (sealed_form 0 l).1 ∙ k.size;
  bytes = λ i low. sealed_others l i (no_checksum i (inr (omega arith))) ∙ k.bytes i low;
}

-- ---- a byte among the first twenty stored, and the packet sealed

module _ (reach : ℕ) (p q : List ℕ) (s : SameHeader p q) (w : well_formed reach p ≡ true) (i a : ℕ) (low : i < least_header) (no_0 : i ≡ 0 → ⊥) (no_2 : i ≡ 2 → ⊥) (no_3 : i ≡ 3 → ⊥) where
  pub size : least_header ≤ header_length p
  size = least reach p (form reach p w)

  header_set : (l : List ℕ) → least_header ≤ header_length l → header_of (set l i a) ≡ set (header_of l) i a
  header_set l h = ap (λ (n : ℕ). take n (set l i a)) (set_form reach l i a no_0 no_2 no_3).1 ∙ take-set-lt (header_length l) l i a (omega arith)

  formed_set : (l : List ℕ) → well_formed reach l ≡ true → HeaderForm reach (set l i a)
  formed_set l v = form reach (set l i a) ((set_form reach l i a no_0 no_2 no_3).0 ∙ v)

  kept_set : (l : List ℕ) → least_header ≤ header_length l → KeptBehind l (sealed (set l i a))
  kept_set l h =
      sealed_kept l (set l i a) h (record {
        size = (set_form reach l i a no_0 no_2 no_3).1;
        bytes = λ j k. get_or-set_other l i j a 0 (λ e. absurd (omega arith));
      })

  pub set_alike : LeftAlike p q (sealed (set p i a)) (sealed (set q i a))
  set_alike =
      let wide : least_header ≤ header_length q = rw (size_alike p q s reach w) size in
      record {
        same_header =
            sealed_same reach (set p i a) (set q i a) (formed_set p w) (formed_set q (formed_alike p q s reach ∙ w))
            (length-set q i a ∙ s.long ∙ sym (length-set p i a))
            (header_set q wide ∙ ap (λ (h : List ℕ). set h i a) s.header ∙ sym (header_set p size));
        kept = kept_set p size;
        other_kept = kept_set q wide;
      }

-- ---- a view put

-- an option behind the first twenty bytes that lies in the header
abbrev Room : Place → ℕ → Type 0
Room None h = Unit {0}
Room (Some o) h = (least_header ≤ o) × (o + option_length ≤ h)

room_of : (reach : ℕ) (p : List ℕ) (place : Place) → located reach p ≡ answer place → Room place (header_length p)
room_of reach p None e = tt
room_of reach p (Some o) e = let f = at_place reach o p e in (f.behind, f.room)

-- the eight bytes that are stored over an option
module _ (r : Request) where
  abbrev eight_of : List ℕ → List ℕ
  eight_of option = leaves option (request_rewritten option r.rate r.qs_ttl r.nonce)

  length_eight : (option : List ℕ) → length option ≡ option_length → length (eight_of option) ≡ option_length
  unfolding option_bytes
  length_eight option e =
      by_test (λ (x : Reply (List ℕ)). length (leaves option x) ≡ option_length) (fields_fit (length option) r.rate r.nonce)
      (λ _. by_test (λ (x : Reply (List ℕ)). length (leaves option x) ≡ option_length) (is_request option) (λ _. refl) (λ _. e))
      (λ _. e)

module _ (h : ℕ) (l : List ℕ) (inside : h ≤ length l) where
  eight_long : (o : ℕ) (r : Request) → o + option_length ≤ h → length (eight_of r (option_at o l)) ≡ option_length
  eight_long o r room = length_eight r (option_at o l) (length-take-le option_length (drop o l) (rw (length-drop o l) (omega arith)))

  stored_header : (place : Place) (request : Option Request) → Room place h → take h (put_request place request l) ≡ put_request place request (take h l)
  stored_header None request room = refl
  stored_header (Some o) None room = refl
  stored_header (Some o) (Some r) room =
      take-sets h l o (eight_of r (option_at o l)) (rw (eight_long o r room.1) room.1)
      ∙ ap (λ (option : List ℕ). sets (take h l) o (eight_of r option)) (sym (option_header o h l room.1))

  stored_low : (place : Place) (request : Option Request) → Room place h → (i : ℕ) → i < least_header → get_or (put_request place request l) i 0 ≡ get_or l i 0
  stored_low None request room i low = refl
  stored_low (Some o) None room i low = refl
  stored_low (Some o) (Some r) room i low = get_or-sets_other l o (eight_of r (option_at o l)) i (inl (omega (arith, room.0)))

  stored_behind : (place : Place) (request : Option Request) → Room place h → (i : ℕ) → h ≤ i → get_or (put_request place request l) i 0 ≡ get_or l i 0
  stored_behind None request room i high = refl
  stored_behind (Some o) None room i high = refl
  stored_behind (Some o) (Some r) room i high = get_or-sets_other l o (eight_of r (option_at o l)) i (inr (rw (eight_long o r room.1) (omega (arith, room.1))))

stored_long : (place : Place) (request : Option Request) (l : List ℕ) → length (put_request place request l) ≡ length l
stored_long None request l = refl
stored_long (Some o) None l = refl
stored_long (Some o) (Some r) l = length-sets l o (eight_of r (option_at o l))

-- put writes where the option is located
put_where : (reach : ℕ) (p : List ℕ) (place : Place) (v : View) → located reach p ≡ answer place → put p v ≡ sealed (put_request place v.request (set p ttl_place v.ttl))
put_where reach p place v e =
    let f = found reach p place e in
    put_at p f.inner v f.by_walk ∙ ap (λ (x : Place). sealed (put_request x v.request (set p ttl_place v.ttl))) (sym f.moved)

module _ (reach : ℕ) (p : List ℕ) (place : Place) (v : View) (e : located reach p ≡ answer place) where
  abbrev aged : List ℕ
  aged = set p ttl_place v.ttl

  abbrev stored : List ℕ
  stored = put_request place v.request aged

  good_header : Good reach p
  good_header = (found reach p place e).is_good

  inside_aged : header_length p ≤ length aged
  inside_aged = rw (length-set p ttl_place v.ttl) good_header.form_is.inside

  low_kept : (i : ℕ) → i < ttl_place → get_or stored i 0 ≡ get_or p i 0
  low_kept i h =
      stored_low (header_length p) aged inside_aged place v.request (room_of reach p place e) i (omega arith)
      ∙ get_or-set_other p ttl_place i v.ttl 0 (λ x. absurd (omega arith))

  stored_form : (well_formed reach stored ≡ well_formed reach p) × (header_length stored ≡ header_length p)
  stored_form =
      same_form reach p stored (stored_long place v.request aged ∙ length-set p ttl_place v.ttl)
      (low_kept 0 (omega arith)) (low_kept 2 (omega arith)) (low_kept 3 (omega arith))

  formed_stored : HeaderForm reach stored
  formed_stored = form reach stored (stored_form.0 ∙ good_header.well)

  -- by the header alone
  header_stored : header_of stored ≡ put_request place v.request (set (header_of p) ttl_place v.ttl)
  header_stored =
      ap (λ (n : ℕ). take n stored) stored_form.1
      ∙ stored_header (header_length p) aged inside_aged place v.request (room_of reach p place e)
      ∙ ap (put_request place v.request) (take-set-lt (header_length p) p ttl_place v.ttl (omega (arith, good_header.header)))

  kept_put : KeptBehind p (put p v)
  kept_put =
      subst (KeptBehind p) (sym (put_where reach p place v e))
      (sealed_kept p stored good_header.header (record {
        size = stored_form.1;
        bytes = λ j k.
            stored_behind (header_length p) aged inside_aged place v.request (room_of reach p place e) j k
            ∙ get_or-set_other p ttl_place j v.ttl 0 (λ x. absurd (omega (arith, good_header.header)));
      }))

pub put_alike : (reach : ℕ) (p q : List ℕ) (s : SameHeader p q) (place : Place) (v : View) → located reach p ≡ answer place → LeftAlike p q (put p v) (put q v)
put_alike reach p q s place v e =
    let f = locates p q s reach ∙ e in
    record {
      same_header =
          subst (λ (l : List ℕ). SameHeader (put p v) l) (sym (put_where reach q place v f))
          (subst (λ (l : List ℕ). SameHeader l (sealed (stored reach q place v f))) (sym (put_where reach p place v e))
          (sealed_same reach (stored reach p place v e) (stored reach q place v f) (formed_stored reach p place v e) (formed_stored reach q place v f)
          (stored_long place v.request (set q ttl_place v.ttl)
          ∙ length-set q ttl_place v.ttl ∙ s.long ∙ sym (length-set p ttl_place v.ttl)
          ∙ sym (stored_long place v.request (set p ttl_place v.ttl)))
          (header_stored reach q place v f ∙ ap (λ (h : List ℕ). put_request place v.request (set h ttl_place v.ttl)) s.header ∙ sym (header_stored reach p place v e))));
      kept = kept_put reach p place v e;
      other_kept = kept_put reach q place v f;
    }

-- ---- what two such packets get

-- both as they came
pub same_left : (p q : List ℕ) → SameHeader p q → LeftAlike p q p q
same_left p q s = record { same_header = s; kept = as_it_came p; other_kept = as_it_came q }
  where
    as_it_came : (l : List ℕ) → KeptBehind l l
    as_it_came l = record { size = refl; bytes = λ i h. refl }

module _ (p q : List ℕ) (s : SameHeader p q) where
  pub alike_refused : (n : ℕ) → Alike p q (refuse n) (refuse n)
  alike_refused n = (refl, same_left p q s)

  -- the same test of both
  pub alike_chosen : (t : Bool) (x y x' y' : Reply (List ℕ)) → (t ≡ true → Alike p q x y) → (t ≡ false → Alike p q x' y') → Alike p q (pick t x x') (pick t y y')
  alike_chosen true x y x' y' f g = f refl
  alike_chosen false x y x' y' f g = g refl

  passes_on : (reach : ℕ) → well_formed reach p ≡ true → Alike p q (passed_on reach p) (passed_on reach q)
  passes_on reach w =
      subst (λ (y : Reply (List ℕ)). Alike p q (passed_on reach p) y)
      (sym (ap₂ (λ (f : Bool) (t : ℕ). pick f (pick (leb t 1) (refuse 6) (answer (sealed (set q ttl_place (t - 1))))) (refuse 1)) (formed_alike p q s reach) (at_first p q s reach w ttl_place (omega arith))))
      (alike_chosen (well_formed reach p) _ _ _ _
      (λ _. alike_chosen (leb (ip_ttl p) 1) _ _ _ _ (λ _. alike_refused 6) (λ _.
      (refl, set_alike reach p q s w ttl_place (ip_ttl p - 1) (omega arith) (λ e. absurd (omega arith)) (λ e. absurd (omega arith)) (λ e. absurd (omega arith)))))
      (λ _. alike_refused 1))

  forwards : (reach : ℕ) → Alike p q (forwarded reach p) (forwarded reach q)
  forwards reach = by_check (header_checked reach p) refl
    where
      by_check : (r : Reply ℕ) → header_checked reach p ≡ r → Alike p q (forwarded reach p) (forwarded reach q)
      by_check r e =
          subst (λ (c : Reply ℕ). Alike p q (forwarded reach p) (and_then c (λ header. passed_on reach q))) (sym (checks p q s reach ∙ e))
          (subst (λ (c : Reply ℕ). Alike p q (and_then c (λ header. passed_on reach p)) (and_then r (λ header. passed_on reach q))) (sym e) (by_answer r e))
        where
          by_answer : (r : Reply ℕ) → header_checked reach p ≡ r → Alike p q (and_then r (λ header. passed_on reach p)) (and_then r (λ header. passed_on reach q))
          by_answer (refuse n) e = alike_refused n
          by_answer (answer h) e = passes_on reach (good reach h p (sym e)).0.well

  -- marking, whose reach is the packet's own length
  abbrev decided : List ℕ → Reply ℕ → Reply Marking
  decided l checked = and_then checked (λ header. answer (pick (ect_set (get_or l ecn_place 0)) Marked Dropped))

  mark_says : mark_reply q ≡ mark_reply p
  mark_says = ap (decided q) (ap (λ (n : ℕ). header_checked n q) s.long ∙ checks p q s (length p)) ∙ by_check (header_checked (length p) p) refl
    where
      by_check : (r : Reply ℕ) → header_checked (length p) p ≡ r → decided q (header_checked (length p) p) ≡ decided p (header_checked (length p) p)
      by_check (refuse n) e = ap (decided q) e ∙ sym (ap (decided p) e)
      by_check (answer h) e =
          ap (λ (b : ℕ). and_then (header_checked (length p) p) (λ header. answer (pick (ect_set b) Marked Dropped)))
          (at_first p q s (length p) (good (length p) h p (sym e)).0.well ecn_place (omega arith))

  mark_leaves : (r : Reply Marking) → mark_reply p ≡ r → LeftAlike p q (after_mark p r) (after_mark q r)
  mark_leaves (answer Marked) e =
      let c = through (header_checked (length p) p) _ Marked e in
      let w = (good (length p) c.0 p (sym c.1)).0.well in
      rw (at_first p q s (length p) w ecn_place (omega arith))
      (set_alike (length p) p q s w ecn_place (with_ce (get_or p ecn_place 0)) (omega arith) (λ x. absurd (omega arith)) (λ x. absurd (omega arith)) (λ x. absurd (omega arith)))
  mark_leaves (answer Dropped) e = same_left p q s
  mark_leaves (refuse n) e = same_left p q s

  pub marks : (mark_reply q ≡ mark_reply p) × LeftAlike p q (marked_packet p) (marked_packet q)
  marks = (mark_says, subst (λ (r : Reply Marking). LeftAlike p q (marked_packet p) (after_mark q r)) (sym mark_says) (mark_leaves (mark_reply p) refl))

pub behind_header : BehindHeader
behind_header = record {
  checks = λ reach p q s. checks p q s reach;
  locates = λ reach p q s. locates p q s reach;
  views = λ reach p q s. views p q s reach;
  forwards = λ reach p q s. forwards p q s reach;
  marks = marks;
}
