-- What a verdict of this crate means, and what a call that gives one says: the papers' verdict, or the refusal's number. Assumes nothing.
use Rattle.std.specs.Prelude.{Result, Ok, Err}
use Rattle.refusals.specs.declared.Refusal.{Refusal}
use Rattle.refusals.specs.Numbers.{number_of}
use Rattle.refusals.specs.Reply.{Reply, answer, refuse}
use Rattle.hops.specs.declared.Verdict as code
use Rattle.hops.specs.declared.Verdict.TheVariants as CodeVerdicts
use Rattle.path_rules.specs.Hops.Verdicts.{Verdict, lost, unanswered, not_accepted, accepted}

abbrev pub verdict_told : code.Verdict → Verdict
verdict_told CodeVerdicts.Lost = lost
verdict_told CodeVerdicts.Unanswered = unanswered
verdict_told (CodeVerdicts.NotAccepted why) = not_accepted (number_of why)
verdict_told (CodeVerdicts.Accepted rate) = accepted rate

abbrev pub verdict_reply_told : Result code.Verdict Refusal → Reply Verdict
verdict_reply_told (Ok v) = answer (verdict_told v)
verdict_reply_told (Err why) = refuse (number_of why)
