-- One packet only: two packets that were passed on from the same one, and carry the same four numbers, are equal byte by byte. Assumes
-- nothing.
use Prim.Native.Nat.{ℕ, suc, ◌+◌, ◌*◌, ◌/◌, ◌%◌, ◌≤◌, ◌<◌}
use mathlib.Core.Bool.{Bool, true, false}
use mathlib.Core.List.{List}
use mathlib.Core.Logic.{◌⊎◌, inl, inr, ⊎_elim}
use Rattle.std.specs.Prelude.{Some}
use mathlib.Core.Path.{◌≡◌, refl, sym, ap, ◌∙◌}
use native.Mathlib.Omega.{arith}
use borrow.Author.Tests.{eqb-true, eqb-false}
use lib.Dec.{eqb}
use lib.ListN.{length, get_or}
use Rattle.common.specs.Lists.{Bytes}
use Rattle.common.proofs.Choice.{clash, le_or_gt}
use Rattle.refusals.specs.Reply.{answer}
use Rattle.refusals.proofs.ReplyLaws.{same_answer}
use Rattle.wire_rules.specs.declared.Request.{Request}
use Rattle.wire_rules.specs.Options.Wire.{reserved_in}
use Rattle.wire_rules.specs.Ipv4.Headers.{word_at, header_length}
use Rattle.wire_rules.specs.Ipv4.Packets.{located}
use Rattle.wire_rules.specs.Ipv4.Views.{View, option_at, view}
use Rattle.wire_rules.specs.Ipv4.Claims.{OutsideChecksum, nonce_at}
use Rattle.wire_rules.proofs.Ipv4.SealLaws.{sealed_alike}
use Rattle.wire_rules.proofs.Ipv4.OptionLaws.{word_of_lem}
use Rattle.wire_rules.proofs.Ipv4.Claims.{reading, locating, viewing}
use Rattle.gateway_rules.specs.Router.Claims.{PassedOn}

-- ---- packets passed on from the same one

module _ (reach : ℕ) (packet new ours : List ℕ) (A B : ℕ → Type 0) (theirs : PassedOn reach packet new A) (own : PassedOn reach packet ours B) (room : 20 ≤ length packet)
    (header : 20 ≤ header_length packet) (a_low : A 0) (b_low : B 0) where
  first_kept : (l : List ℕ) (Out : ℕ → Type 0) → PassedOn reach packet l Out → Out 0 → header_length l ≡ header_length packet
  first_kept l Out p o =
      reading.header_length_lem l ∙ ap (λ (b : ℕ). b % 16 * 4) (p.others 0 (λ e. absurd (omega arith)) (λ e. absurd (omega arith)) (λ e. absurd (omega arith)) o) ∙ sym (reading.header_length_lem packet)

  pub same_packet : ((i : ℕ) → (i ≡ 8 → ⊥) → OutsideChecksum i → get_or new i 0 ≡ get_or ours i 0) → new ≡ ours
  same_packet agree =
      let h = first_kept new A theirs a_low in
      let k = first_kept ours B own b_low in
      let l = theirs.long in
      let m = own.long in
      let t = theirs.lowered in
      let u = own.lowered in
      sym theirs.written
      ∙ sealed_alike new ours (l ∙ sym m) (omega arith) (omega arith) (h ∙ sym k) (λ i o. by_ttl (eqb i 8) i refl o)
      ∙ own.written
    where
      by_ttl : (t : Bool) (i : ℕ) → eqb i 8 ≡ t → OutsideChecksum i → get_or new i 0 ≡ get_or ours i 0
      by_ttl true i e o =
          let s : 8 ≡ i = sym (eqb-true i 8 e) in
          let a = theirs.lowered in
          let b = own.lowered in
          rw (sym s) (omega arith)
      by_ttl false i e o = agree i (eqb-false i 8 e) o

-- ---- a request's bytes, by what is viewed

record Bytewise (place : ℕ) (l : List ℕ) (q : Request) : Type 0 where
  pub rate_is : get_or l (place + 2) 0 ≡ q.rate
  pub ttl_is : get_or l (place + 3) 0 ≡ q.qs_ttl
  pub nonce_is : nonce_at place l ≡ q.nonce

bytewise : (reach place ttl : ℕ) (l : List ℕ) (q : Request) → located reach l ≡ answer (Some place) → view reach l ≡ answer (record { ttl = ttl; request = Some q }) → Bytewise place l q
bytewise reach place ttl l q e v = by_function (eqb (get_or l (place + 2) 0 / 16) 0) refl
  where
    by_function : (t : Bool) → eqb (get_or l (place + 2) 0 / 16) 0 ≡ t → Bytewise place l q
    by_function true z =
        let zero_half = eqb-true (get_or l (place + 2) 0 / 16) 0 z in
        let same = same_answer (sym (viewing.shows reach place l e zero_half) ∙ v) in
        let request : record { rate = get_or l (place + 2) 0 % 16; qs_ttl = get_or l (place + 3) 0; nonce = nonce_at place l } ≡ q = let r = ap (λ (x : View). x.request) same in cc in
        let rate : get_or l (place + 2) 0 % 16 ≡ q.rate = ap (λ (x : Request). x.rate) request in
        record { rate_is = omega arith; ttl_is = ap (λ (x : Request). x.qs_ttl) request; nonce_is = ap (λ (x : Request). x.nonce) request }
    by_function false z = absurd (clash (let x = ap (λ (x : View). x.request) (same_answer (sym (viewing.shows_other reach place l e (eqb-false (get_or l (place + 2) 0 / 16) 0 z)) ∙ v)) in cc))

-- two options with the same numbers and reserved bits have the same six bytes
module _ (reach place ttl : ℕ) (new ours : List ℕ) (q : Request) (b : Bytes new) (c : Bytes ours) (e : located reach new ≡ answer (Some place)) (f : located reach ours ≡ answer (Some place))
    (v : view reach new ≡ answer (record { ttl = ttl; request = Some q })) (w : view reach ours ≡ answer (record { ttl = ttl; request = Some q }))
    (reserved : reserved_in (option_at place new) ≡ reserved_in (option_at place ours)) where
  abbrev word : List ℕ → ℕ
  word l = word_at l (place + 4) * 65536 + word_at l (place + 6)

  same_word : word new ≡ word ours
  same_word =
      let n = (bytewise reach place ttl new q e v).nonce_is in
      let m = (bytewise reach place ttl ours q f w).nonce_is in
      let r : word new % 4 ≡ word ours % 4 =
      sym (ap (λ (k : ℕ). k % 4) (word_of_lem place new (locating.inside reach place new e))) ∙ reserved ∙ ap (λ (k : ℕ). k % 4) (word_of_lem place ours (locating.inside reach place ours f)) in
      omega arith

  -- the four bytes of that word
  word_bytes : (get_or new (place + 4) 0 ≡ get_or ours (place + 4) 0) × (get_or new (suc (place + 4)) 0 ≡ get_or ours (suc (place + 4)) 0)
      × (get_or new (place + 6) 0 ≡ get_or ours (place + 6) 0) × (get_or new (suc (place + 6)) 0 ≡ get_or ours (suc (place + 6)) 0)
  word_bytes =
      let w = same_word in
      let n5 = b (suc (place + 4)) in
      let n6 = b (place + 6) in
      let n7 = b (suc (place + 6)) in
      let o5 = c (suc (place + 4)) in
      let o6 = c (place + 6) in
      let o7 = c (suc (place + 6)) in
      (omega arith, omega arith, omega arith, omega arith)

  pub six_alike : (k : ℕ) → 2 ≤ k → k < 8 → get_or new (place + k) 0 ≡ get_or ours (place + k) 0
  six_alike k l h = by_two (le_or_gt k 3)
    where
      at : (i j : ℕ) → j ≡ i → get_or new i 0 ≡ get_or ours i 0 → get_or new j 0 ≡ get_or ours j 0
      at i j e s = ap (λ (x : ℕ). get_or new x 0) e ∙ s ∙ sym (ap (λ (x : ℕ). get_or ours x 0) e)

      rate : get_or new (place + 2) 0 ≡ get_or ours (place + 2) 0
      rate = (bytewise reach place ttl new q e v).rate_is ∙ sym (bytewise reach place ttl ours q f w).rate_is

      qs_ttl : get_or new (place + 3) 0 ≡ get_or ours (place + 3) 0
      qs_ttl = (bytewise reach place ttl new q e v).ttl_is ∙ sym (bytewise reach place ttl ours q f w).ttl_is

      by_two : (k ≤ 3) ⊎ (3 < k) → get_or new (place + k) 0 ≡ get_or ours (place + k) 0
      by_two (inl m) = ⊎_elim (λ (z : k ≤ 2). at (place + 2) (place + k) (omega arith) rate) (λ (g : 2 < k). at (place + 3) (place + k) (omega arith) qs_ttl) (le_or_gt k 2)
      by_two (inr m) =
          ⊎_elim
          (λ (s : k ≤ 5). ⊎_elim (λ (z : k ≤ 4). at (place + 4) (place + k) (omega arith) word_bytes.0) (λ (g : 4 < k). at (suc (place + 4)) (place + k) (omega arith) word_bytes.1) (le_or_gt k 4))
          (λ (t : 5 < k). ⊎_elim (λ (z : k ≤ 6). at (place + 6) (place + k) (omega arith) word_bytes.2) (λ (g : 6 < k). at (suc (place + 6)) (place + k) (omega arith) word_bytes.3) (le_or_gt k 6))
          (le_or_gt k 5)
