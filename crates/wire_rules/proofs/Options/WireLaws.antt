-- Laws of the eight bytes: what their ranges say, and that what stands in them reads back. Assumes nothing.
use Prim.Native.Nat.{ℕ, ◌+◌, ◌*◌, ◌/◌, ◌%◌, ◌^◌, ◌≤◌, ◌<◌}
use mathlib.Core.Bool.{true, ◌&&◌}
use mathlib.Core.List.{List}
use mathlib.Core.Path.{◌≡◌, sym}
use native.Mathlib.Omega.{arith}
use borrow.Author.Tests.{eqb-true, leb-true, ltb-true}
use lib.Dec.{leb, ltb, eqb}
use lib.ListN.{length, get_or}
use Rattle.common.specs.Lists.{Bytes}
use Rattle.common.proofs.Choice.{both_true}
use Rattle.common.proofs.Lists.{written_out, bytes_each}
use Rattle.wire_rules.specs.Rates.Steps.{top_code}
use Rattle.wire_rules.specs.Options.Wire.{option_length, nonce_limit, fields_fit, option_bytes, kind_in, length_in, ttl_in, word_from, word_of, nonce_in, reserved_in}

pub record Fit (len code nonce : ℕ) : Type 0 where
  pub len_is : len ≡ option_length
  pub code_high : code ≤ top_code
  pub nonce_small : nonce < nonce_limit

pub fit_facts : (len code nonce : ℕ) → fields_fit len code nonce ≡ true → Fit len code nonce
unfolding fields_fit
fit_facts len code nonce e =
    let outer = both_true (eqb len option_length && leb code top_code) (ltb nonce nonce_limit) e in
    let inner = both_true (eqb len option_length) (leb code top_code) outer.0 in
    record { len_is = eqb-true len option_length inner.0; code_high = leb-true code top_code inner.1; nonce_small = ltb-true nonce nonce_limit outer.1 }

-- the word reads back
pub word_again : (nonce reserved : ℕ) → word_from (nonce / 4194304) (nonce / 16384 % 256) (nonce / 64 % 256) (nonce % 64 * 4 + reserved) ≡ nonce * 4 + reserved
word_again nonce reserved = omega arith

pub word_back : (kind rate ttl nonce reserved : ℕ) → word_of (option_bytes kind rate ttl nonce reserved) ≡ nonce * 4 + reserved
unfolding word_of option_bytes
word_back kind rate ttl nonce reserved = word_again nonce reserved

-- four bytes make a word, and the bytes of its nonce and reserved bits are those four
word_bytes : (a b c d : ℕ) → b < 256 → c < 256 → d < 256
    → let w = word_from a b c d in
    (w / 4 / 4194304 ≡ a) × (w / 4 / 16384 % 256 ≡ b) × (w / 4 / 64 % 256 ≡ c) × (w / 4 % 64 * 4 + w % 4 ≡ d)
word_bytes a b c d hb hc hd = (omega arith, omega arith, omega arith, omega arith)

pub word_small : (option : List ℕ) → Bytes option → word_of option < 2 ^ 32
unfolding word_of
word_small option bytes = omega (arith, bytes 4, bytes 5, bytes 6, bytes 7)

-- what is written is bytes
pub bytes_of : (kind rate ttl nonce reserved : ℕ) → kind < 256 → rate < 256 → ttl < 256 → nonce < nonce_limit → reserved < 4 → Bytes (option_bytes kind rate ttl nonce reserved)
unfolding option_bytes
bytes_of kind rate ttl nonce reserved k r t n d =
    bytes_each (option_bytes kind rate ttl nonce reserved) (k, (omega arith, (r, (t, (omega arith, (omega arith, (omega arith, (omega arith, tt))))))))

-- eight bytes whose second is 8 are what is written of their own fields
pub bytes_back : (option : List ℕ) → length option ≡ option_length → length_in option ≡ 8 → Bytes option
    → option_bytes (kind_in option) (get_or option 2 0) (ttl_in option) (nonce_in option) (reserved_in option) ≡ option
unfolding option_bytes word_of
bytes_back option len second bytes =
    let w = word_bytes (get_or option 4 0) (get_or option 5 0) (get_or option 6 0) (get_or option 7 0) (bytes 5) (bytes 6) (bytes 7) in
    simp (w.0, w.1, w.2, w.3, ← second) (sym (written_out 8 option len))
