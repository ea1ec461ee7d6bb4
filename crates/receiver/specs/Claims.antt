-- What is claimed of the receiver's answers, beyond the contracts. Assumes nothing.
use Rattle.std.specs.Prelude.{ℕ, Ok, ◌≡◌}
use Rattle.refusals.specs.Reply.{answer, refuse}
use Rattle.refusals.specs.Replies.{told}
use Rattle.wire_rules.specs.declared.Response.{Response}
use Rattle.gateway_rules.specs.Receiver.Reports.{unanswered, reported, reaction_in}
use Rattle.gateway_rules.specs.declared.Reaction.TheVariants.{Answered, Unanswered}

-- what an answer says of a report: `Saying` of gateway_rules, in the answers of the code
pub record Saying : Type 0 where
  pub answered : (r : Response) → reaction_in (answer (reported r)) ≡ told (Ok Answered)
  pub silent : reaction_in (answer unanswered) ≡ told (Ok Unanswered)
  pub refused : (n : ℕ) → reaction_in (refuse n) ≡ refuse n
