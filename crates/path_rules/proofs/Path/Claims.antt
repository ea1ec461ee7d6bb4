-- The claims of specs/Path/Claims.antt, each under its own name; `running`, `call_law` and `leaving` stand in RunClaims.antt. Assumes
-- nothing.
use Rattle.sender_rules.proofs.Sender.AskClaims.{fresh_asks}
use Rattle.path_rules.specs.Path.Runs.{path_calls}
use Rattle.path_rules.specs.Hops.Rows.{row_of}
use Rattle.path_rules.specs.Path.Claims.{PathLaw, NotEmpty, BehindHeader, ShutOut}
use Rattle.path_rules.proofs.Path.PathLaws.{summary_law, accepting, cutting, ordered, by_6}
use Rattle.path_rules.proofs.Path.PlainLaws.{carried}
use Rattle.path_rules.proofs.Path.ShutOutLaws.{shut_out_lem}
use Rattle.path_rules.proofs.Path.UnreadLaws.{call_alike}

pub not_empty : NotEmpty path_calls
not_empty = record { asks = fresh_asks; packets = carried }

pub path_law : PathLaw
path_law = record { not_empty_lem = not_empty; summary = summary_law; accepting = accepting; cutting = cutting; order = ordered; lost_by_6 = by_6 }

pub behind_header : BehindHeader
behind_header c p q row ceiling t s = call_alike (row_of 64 row) c p q ceiling t s

pub shut_out : ShutOut
shut_out = shut_out_lem not_empty
