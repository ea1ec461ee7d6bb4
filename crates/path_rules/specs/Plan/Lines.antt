-- The line that the program writes (document 01, "Path, program and callers"). Assumes nothing.
use Rattle.std.specs.Prelude.{ℕ, zero, suc, ◌+◌, ◌/◌, ◌%◌, List, [], ◌∷◌, ◌++◌, ltb}
use Rattle.common.specs.Choice.{pick}
use Rattle.sender_rules.specs.Connections.Records.{fresh_with}
use Rattle.sender_rules.specs.Sender.Calls.{wish, Sending}
use Rattle.sender_rules.specs.declared.Wish.{Wish}
use Rattle.path_rules.specs.Hops.Verdicts.{Verdict, lost, unanswered, not_accepted, accepted}
use Rattle.path_rules.specs.Path.Runs.{path_calls, blank}
use Rattle.path_rules.specs.Path.OwnSender.{window, ssthresh, round_trip, own_transport}
use Rattle.path_rules.specs.Path.Demands.{Setting, verdict_by, plain}
use Rattle.path_rules.specs.Plan.Records.{Plan, Reading, good, bad, read_plan}

-- ---- the run

-- what it asks for, and what that asking leaves
abbrev pub wish_for : ℕ → ℕ → ℕ → ℕ → Wish
wish_for code ttl qs nonce = wish code ttl qs nonce round_trip 0

abbrev pub asked_for : ℕ → ℕ → ℕ → ℕ → Sending
asked_for code ttl qs nonce = (path_calls.ask (fresh_with window ssthresh) (wish_for code ttl qs nonce) blank).left

-- what the run of a plan is given: a fresh record that asks, and the plain packet with what it wrote
abbrev pub given_for : Plan → Setting
given_for p =
    let left = asked_for p.code p.ttl p.qs p.nonce in
    record {
      connection = fresh_with window ssthresh;
      wish = wish_for p.code p.ttl p.qs p.nonce;
      buffer = blank;
      packet = plain p.ttl left.request;
      waiting = left.connection;
      transport = own_transport;
      ceiling = p.ceiling;
      routers = p.routers;
    }

abbrev pub verdict_for : Plan → Verdict
verdict_for p = verdict_by path_calls (given_for p)

-- ---- the line

-- a number in decimal digits, the last k of them if there are more
unfoldable pub last_digits : ℕ → ℕ → List ℕ
last_digits zero n = []
last_digits (suc k) n = pick (ltb n 10) ((48 + n) ∷ []) (last_digits k (n / 10) ++ ((48 + n % 10) ∷ []))

-- with a limit of at most 1664 routers no number of a line has more than four digits
abbrev pub decimal : ℕ → List ℕ
decimal n = last_digits 4 n

-- a word with a space behind it, a number and the line's end
abbrev pub numbered : List ℕ → ℕ → List ℕ
numbered word n = word ++ (decimal n ++ (10 ∷ []))

-- "rate ", "none ", "bad ", in ASCII
abbrev pub rate_word : List ℕ
rate_word = 114 ∷ 97 ∷ 116 ∷ 101 ∷ 32 ∷ []

abbrev pub none_word : List ℕ
none_word = 110 ∷ 111 ∷ 110 ∷ 101 ∷ 32 ∷ []

abbrev pub bad_word : List ℕ
bad_word = 98 ∷ 97 ∷ 100 ∷ 32 ∷ []

-- "`rate N`, `lost`, `unanswered`, `none R` (sender's refusal)"
unfoldable pub verdict_line : Verdict → List ℕ
verdict_line (accepted rate) = numbered rate_word rate
verdict_line lost = 108 ∷ 111 ∷ 115 ∷ 116 ∷ 10 ∷ []
verdict_line unanswered = 117 ∷ 110 ∷ 97 ∷ 110 ∷ 115 ∷ 119 ∷ 101 ∷ 114 ∷ 101 ∷ 100 ∷ 10 ∷ []
verdict_line (not_accepted n) = numbered none_word n

-- "or, before all these, `bad AT`"
unfoldable pub bad_line : ℕ → List ℕ
bad_line at = numbered bad_word at

abbrev pub line_for : Reading → List ℕ
line_for (good p) = verdict_line (verdict_for p)
line_for (bad at) = bad_line at

abbrev pub line_of : ℕ → List ℕ → List ℕ
line_of limit input = line_for (read_plan limit input)
