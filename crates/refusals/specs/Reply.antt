-- What a call replies: the papers' value, or the number of a refusal. The contracts of all crates speak through it. Assumes nothing.
use Rattle.std.specs.Prelude.{ℕ}

pub data Reply (A : Type 0) : Type 0 where
  answer : A → Reply A
  refuse : ℕ → Reply A

-- what a lent buffer is after a call whose refusals change nothing: the new one that the reply holds, or the old one
abbrev pub leaves : {A : Type 0} → A → Reply A → A
leaves old (answer new) = new
leaves old (refuse n) = old

-- the reply without its value: that it was done, or the refusal
abbrev pub done : {A : Type 0} → Reply A → Reply (Unit {0})
done (answer a) = answer tt
done (refuse n) = refuse n

-- what a call says, and what it leaves behind in what it was given
pub record Outcome (A B : Type 0) : Type 0 where
  pub said : Reply A
  pub left : B

-- a call that says a refusal, or an answer, and leaves this
abbrev pub refusing : {A B : Type 0} → ℕ → B → Outcome A B
refusing n left = record { said = refuse n; left = left }

abbrev pub answering : {A B : Type 0} → A → B → Outcome A B
answering a left = record { said = answer a; left = left }

-- a call whose refusals change nothing, by its reply
abbrev pub outcome_of : {A : Type 0} → A → Reply A → Outcome (Unit {0}) A
outcome_of old reply = record { said = done reply; left = leaves old reply }

-- what follows an answer; a refusal stays what is replied
abbrev pub and_then : {A B : Type 0} → Reply A → (A → Reply B) → Reply B
and_then (answer a) next = next a
and_then (refuse n) next = refuse n
