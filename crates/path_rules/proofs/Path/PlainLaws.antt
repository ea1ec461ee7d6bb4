-- There is always something to run: every accepted asking's request stands in a plain packet without fault. Assumes nothing.
use Prim.Native.Nat.{ℕ, ◌<◌}
use mathlib.Core.Bool.{true}
use mathlib.Core.List.{List, [], ◌∷◌}
use mathlib.Core.Path.{◌≡◌, refl, sym, ap₂, subst, ◌∙◌}
use native.Mathlib.Omega.{arith}
use lib.ListN.{length, get_or}
use Rattle.common.specs.Lists.{Bytes}
use Rattle.common.proofs.Lists.{written_out, bytes_each}
use Rattle.refusals.specs.Reply.{answer}
use Rattle.std.specs.Prelude.{Some}
use Rattle.wire_rules.specs.Walk.Claims.{none, last}
use Rattle.wire_rules.specs.Ipv4.Headers.{header_length, options_of}
use Rattle.wire_rules.specs.Ipv4.Checksums.{with_checksum, sealed}
use Rattle.wire_rules.specs.Ipv4.Checks.{well_formed}
use Rattle.wire_rules.specs.Ipv4.Packets.{located}
use Rattle.wire_rules.proofs.Ipv4.Claims.{sealing, reading, locating}
use Rattle.wire_rules.proofs.Options.Claims.{request_is}
use Rattle.sender_rules.specs.declared.Connection.{Connection}
use Rattle.sender_rules.specs.declared.Wish.{Wish}
use Rattle.sender_rules.proofs.Sender.AskClaims.{sent_only}
use Rattle.path_rules.specs.Path.Runs.{path_calls}
use Rattle.path_rules.specs.Path.Demands.{header_with, plain}
use Rattle.path_rules.specs.Path.Claims.{Carried}

-- an option of type 25 and length 8, in a header without any other
module _ (ttl c d e f g h : ℕ) (bound : (ttl < 256) × (c < 256) × (d < 256) × (e < 256) × (f < 256) × (g < 256) × (h < 256)) where
  abbrev option : List ℕ
  option = 25 ∷ 8 ∷ c ∷ d ∷ e ∷ f ∷ g ∷ h ∷ []

  abbrev unsealed : List ℕ
  unsealed = 71 ∷ 0 ∷ 0 ∷ 28 ∷ 0 ∷ 0 ∷ 0 ∷ 0 ∷ ttl ∷ 6 ∷ 0 ∷ 0 ∷ 10 ∷ 0 ∷ 0 ∷ 1 ∷ 10 ∷ 0 ∷ 0 ∷ 2 ∷ option

  bytes : Bytes unsealed
  bytes = bytes_each unsealed (omega (arith, bound))

  size : header_length unsealed ≡ 28
  size = reading.header_length_lem unsealed

  well : well_formed 28 unsealed ≡ true
  well =
      reading.form_suffices 28 unsealed
      (record { long = omega arith; version = refl; words = omega arith; inside = omega (arith, size); total_low = omega (arith, size); total_high = omega arith })

  area : options_of (sealed unsealed) ≡ option
  unfolding sealed with_checksum header_length
  area = refl

  found : located 28 (sealed unsealed) ≡ answer (Some 20)
  found =
      locating.complete 28 (header_length unsealed) 0 (sealed unsealed) (sealing.passes 28 unsealed bytes well)
      (record {
        before = [];
        six = c ∷ d ∷ e ∷ f ∷ g ∷ h ∷ [];
        rest = [];
        whole = area;
        place = refl;
        full = refl;
        skips = none;
        clear = record { skipped = []; rest = []; whole = refl; skips = none; ends = last };
      })

  pub plain_carries : Carried option ttl (sealed unsealed)
  unfolding sealed with_checksum
  plain_carries = record {
    bytes = sealing.bytes unsealed bytes;
    place = 20;
    faultless = found;
    written = refl;
    starts = refl;
  }

-- what an accepted asking wrote is such an option
module _ (c : Connection) (w : Wish) (buffer : List ℕ) (q : w.qs_ttl < 256) (e : (path_calls.ask c w buffer).said ≡ answer tt) where
  abbrev wrote : List ℕ
  wrote = (path_calls.ask c w buffer).left.request

  written_so : wrote ≡ 25 ∷ 8 ∷ get_or wrote 2 0 ∷ get_or wrote 3 0 ∷ get_or wrote 4 0 ∷ get_or wrote 5 0 ∷ get_or wrote 6 0 ∷ get_or wrote 7 0 ∷ []
  written_so =
      let is = request_is wrote _ (sent_only c w buffer q e).3.reads in
      written_out 8 wrote is.len
      ∙ ap₂ (λ (x y : ℕ). x ∷ y ∷ get_or wrote 2 0 ∷ get_or wrote 3 0 ∷ get_or wrote 4 0 ∷ get_or wrote 5 0 ∷ get_or wrote 6 0 ∷ get_or wrote 7 0 ∷ []) is.kind is.second

  all_bytes_lem : (w.ttl < 256) × (get_or wrote 2 0 < 256) × (get_or wrote 3 0 < 256) × (get_or wrote 4 0 < 256) × (get_or wrote 5 0 < 256) × (get_or wrote 6 0 < 256) × (get_or wrote 7 0 < 256)
  all_bytes_lem =
      let sent = (sent_only c w buffer q e).3 in
      (omega (arith, (sent_only c w buffer q e).0.ttl_high), sent.bytes 2, sent.bytes 3, sent.bytes 4, sent.bytes 5, sent.bytes 6, sent.bytes 7)

  pub carried : Carried wrote w.ttl (plain w.ttl wrote)
  carried =
      subst (λ (l : List ℕ). Carried l w.ttl (plain w.ttl l)) (sym written_so)
      (plain_carries w.ttl (get_or wrote 2 0) (get_or wrote 3 0) (get_or wrote 4 0) (get_or wrote 5 0) (get_or wrote 6 0) (get_or wrote 7 0) all_bytes_lem)

  -- and its header is well formed before the checksum is written
  pub formed : well_formed (length (header_with w.ttl wrote)) (header_with w.ttl wrote) ≡ true
  formed =
      subst (λ (l : List ℕ). well_formed (length (header_with w.ttl l)) (header_with w.ttl l) ≡ true) (sym written_so)
      (well w.ttl (get_or wrote 2 0) (get_or wrote 3 0) (get_or wrote 4 0) (get_or wrote 5 0) (get_or wrote 6 0) (get_or wrote 7 0) all_bytes_lem)
