-- `plan::push_number` meets its contract: the digits one by one, by how many there are. Assumes nothing.
use Prim.Native.Nat.{ℕ, ◌+◌, ◌/◌, ◌%◌}
use mathlib.Core.List.{List, [], ◌∷◌, ◌++◌}
use mathlib.Core.Path.{ap, ◌∙◌}
use Rattle.plan.proofs.TextLaws.{two_digits, three_digits}
use Rattle.plan.proofs.push_number.Goals as goal

pub returns-then-n-lt100-clause-number : goal.returns-then-n-lt100-clause-number
returns-then-n-lt100-clause-number c =
    let n = c.args.n in
    c.push_digit-then-n-lt100-2.ensures
    ∙ ap (λ (l : List ℕ). l ++ ((48 + n % 10) ∷ [])) c.push_digit-then-n-lt100.ensures
    ∙ two_digits _ 2 n c.if-n-lt10.false c.if-n-lt100.true

pub returns-then-n-lt1000-clause-number : goal.returns-then-n-lt1000-clause-number
returns-then-n-lt1000-clause-number c =
    let n = c.args.n in
    c.push_digit-then-n-lt1000-3.ensures
    ∙ ap (λ (l : List ℕ). l ++ ((48 + n % 10) ∷ [])) (
    c.push_digit-then-n-lt1000-2.ensures ∙ ap (λ (l : List ℕ). l ++ ((48 + n / 10 % 10) ∷ [])) c.push_digit-then-n-lt1000.ensures
    )
    ∙ three_digits _ 1 n c.if-n-lt100.false c.if-n-lt1000.true
