-- What the functions for C answer with and leave. A refusal of the table, 1 to 15, says that nothing was changed; the summary's 0, and
-- every verdict's number, that the call was made. Assumes nothing.
use Rattle.std.specs.Prelude.{ℕ, ◌+◌, ◌%◌, List, [], ◌∷◌, eqb, length}
use Rattle.common.specs.Choice.{pick}
use Rattle.refusals.specs.Reply.{Reply, answer, refuse, and_then}
use Rattle.sender_rules.specs.declared.State.TheVariants.{Asked}
use Rattle.sender_rules.specs.declared.Connection.{Connection}
use Rattle.sender_rules.specs.Connections.Records.{fresh_with, with_state}
use Rattle.path_rules.specs.declared.Summary.{Summary}
use Rattle.path_rules.specs.Hops.Verdicts.{Verdict, lost, unanswered, not_accepted, accepted}
use Rattle.path_rules.specs.Path.OwnSender.{window, ssthresh}

-- ---- the summary of a row

-- a buffer for exactly three numbers: routers, silent ones, least ceiling; else 7
abbrev pub summary_lent : List ℕ → Reply Summary → Reply (List ℕ)
summary_lent numbers reply = pick (eqb (length numbers) 3) (and_then reply (λ s. answer (s.routers ∷ s.silent ∷ s.least ∷ []))) (refuse 7)

abbrev pub summary_result : Reply (Unit {0}) → ℕ
summary_result (answer _) = 0
summary_result (refuse n) = n

-- ---- the run of a path

-- the program's own connection, with this request open; the T, MSS and H are the program's too (`own_transport`)
abbrev pub open_for : ℕ → ℕ → ℕ → Connection
open_for code diff nonce = with_state (fresh_with window ssthresh) (Asked (record { code = code; ttl_diff = diff; nonce = nonce }))

-- 42 for lost, 40 for unanswered, 200 more than the sender's refusal, 100 more than the rate accepted; a refused run its refusal. A rate
-- that arises is at most 15, its own remainder
abbrev pub verdict_result : Reply Verdict → ℕ
verdict_result (answer lost) = 42
verdict_result (answer unanswered) = 40
verdict_result (answer (not_accepted n)) = 200 + n
verdict_result (answer (accepted rate)) = 100 + rate % 100
verdict_result (refuse n) = n
