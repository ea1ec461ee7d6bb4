-- The fifteen steps of speed (document 01, "Steps of speed"): the rate of a code, and the two roundings. Assumes nothing.
use Rattle.std.specs.Prelude.{ℕ, zero, suc, ◌-◌, ◌*◌, ◌^◌, leb}
use Rattle.common.specs.Choice.{pick}
use Rattle.refusals.specs.Reply.{Reply, answer, refuse}

-- the highest code
abbrev pub top_code : ℕ
top_code = 15

-- "Code 0 means nothing. Code N from 1 to 15 means 40,000 times 2 to the N bits a second."
unfoldable pub rate_of : ℕ → ℕ
rate_of zero = 0
rate_of (suc n) = 40000 * 2 ^ suc n

-- "codes written or read .. 0 to 15", and 7 for "a number .. outside its range"
abbrev pub rate_reply : ℕ → Reply ℕ
rate_reply code = pick (leb code top_code) (answer (rate_of code)) (refuse 7)

-- of the codes 0 to n the greatest whose rate is at most `bits`: n is tried first, then the codes below it
unfoldable pub greatest_up_to : ℕ → ℕ → ℕ
greatest_up_to zero bits = 0
greatest_up_to (suc n) bits =
    let below = greatest_up_to n bits in
    pick (leb (rate_of (suc n)) bits) (suc n) below

-- "A router rounds down: the greatest code whose rate is at most the number."
unfoldable pub rounded_down : ℕ → ℕ
rounded_down bits = greatest_up_to top_code bits

-- the first of the codes from `code` on whose rate is at least `wish`; only `tries` of them are tried, and the next is taken after those
unfoldable pub least_from : ℕ → ℕ → ℕ → ℕ
least_from zero code wish = code
least_from (suc tries) code wish =
    let above = least_from tries (suc code) wish in
    pick (leb wish (rate_of code)) code above

-- "A sender rounds up: the least code whose rate is at least the wish, and 15 above the top": the codes from 1 on are tried, and after the
-- last but one the highest is left
unfoldable pub rounded_up : ℕ → ℕ
rounded_up wish = least_from (top_code - 1) 1 wish

-- "a wish of 0 is refused with 7"
abbrev pub rounded_up_reply : ℕ → Reply ℕ
rounded_up_reply wish = pick (leb 1 wish) (answer (rounded_up wish)) (refuse 7)
