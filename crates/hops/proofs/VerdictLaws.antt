-- A law of a call that says a verdict. Assumes nothing.
use mathlib.Core.Bool.{true, false}
use mathlib.Core.Path.{◌≡◌, ap}
use Rattle.std.specs.Prelude.{Result, Ok, Err, IsErr, IsErrAnd}
use Rattle.common.proofs.Choice.{clash}
use Rattle.refusals.specs.declared.Refusal.{Refusal}
use Rattle.refusals.specs.Numbers.{number_of}
use Rattle.refusals.specs.Reply.{refuse}
use Rattle.hops.specs.declared.Verdict as code
use Rattle.hops.specs.Replies.{verdict_reply_told}

-- what a `?` hands up says the refusal that it met
pub verdict_handed_up : (r : Result code.Verdict Refusal) (why : Refusal) → IsErr r × IsErrAnd r (λ e. e ≡ why) → verdict_reply_told r ≡ refuse (number_of why)
verdict_handed_up (Ok v) why h = let e : false ≡ true = h.0 in absurd (clash (cc))
verdict_handed_up (Err e) why h = ap (λ (w : Refusal). refuse (number_of w)) h.1
