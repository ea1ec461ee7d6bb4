-- Laws of a line's text: a byte more, and a number's digits one by one. Assumes nothing.
use Prim.Native.Nat.{ℕ, suc, ◌+◌, ◌/◌, ◌%◌, ◌≤◌, ◌<◌}
use mathlib.Core.List.{List, [], ◌∷◌, ◌++◌, append_assoc}
use mathlib.Core.Path.{◌≡◌, sym, ap, ◌∙◌}
use Rattle.path_rules.specs.Plan.Lines.{last_digits, decimal}
use Rattle.path_rules.proofs.Plan.DecimalLaws.{digit_last, digits_2, digits_3, digits_4}

-- a word in front of a number and the line's end
pub in_front : (word number : List ℕ) → (word ++ number) ++ (10 ∷ []) ≡ word ++ (number ++ (10 ∷ []))
in_front word number = append_assoc word number (10 ∷ [])

-- ---- a text, and the digits of a number put behind it one by one

pub one_digit : (text : List ℕ) (k n : ℕ) → n < 10 → text ++ ((48 + n) ∷ []) ≡ text ++ last_digits (suc k) n
one_digit text k n h = ap (λ (t : List ℕ). text ++ t) (sym (digit_last k n h))

pub two_digits : (text : List ℕ) (k n : ℕ) → 10 ≤ n → n < 100 → (text ++ ((48 + n / 10) ∷ [])) ++ ((48 + n % 10) ∷ []) ≡ text ++ last_digits (suc (suc k)) n
two_digits text k n l h = append_assoc text ((48 + n / 10) ∷ []) ((48 + n % 10) ∷ []) ∙ ap (λ (t : List ℕ). text ++ t) (sym (digits_2 k n l h))

three : (text : List ℕ) (a b c : ℕ) → ((text ++ (a ∷ [])) ++ (b ∷ [])) ++ (c ∷ []) ≡ text ++ (a ∷ b ∷ c ∷ [])
three text a b c = append_assoc (text ++ (a ∷ [])) (b ∷ []) (c ∷ []) ∙ append_assoc text (a ∷ []) (b ∷ c ∷ [])

pub three_digits : (text : List ℕ) (k n : ℕ) → 100 ≤ n → n < 1000
    → ((text ++ ((48 + n / 100) ∷ [])) ++ ((48 + n / 10 % 10) ∷ [])) ++ ((48 + n % 10) ∷ []) ≡ text ++ last_digits (suc (suc (suc k))) n
three_digits text k n l h = three text (48 + n / 100) (48 + n / 10 % 10) (48 + n % 10) ∙ ap (λ (t : List ℕ). text ++ t) (sym (digits_3 k n l h))

pub four_digits : (text : List ℕ) (n : ℕ) → 1000 ≤ n
    → (((text ++ ((48 + n / 1000 % 10) ∷ [])) ++ ((48 + n / 100 % 10) ∷ [])) ++ ((48 + n / 10 % 10) ∷ [])) ++ ((48 + n % 10) ∷ []) ≡ text ++ decimal n
four_digits text n l =
    three (text ++ ((48 + n / 1000 % 10) ∷ [])) (48 + n / 100 % 10) (48 + n / 10 % 10) (48 + n % 10)
    ∙ append_assoc text ((48 + n / 1000 % 10) ∷ []) ((48 + n / 100 % 10) ∷ (48 + n / 10 % 10) ∷ (48 + n % 10) ∷ [])
    ∙ ap (λ (t : List ℕ). text ++ t) (sym (digits_4 n l))
