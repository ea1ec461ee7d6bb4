-- The claim of specs/Table.antt, by computing the test. Assumes nothing.
use mathlib.Core.Path.{refl}
use Rattle.common.specs.Choice.{within}
use Rattle.wire_rules.specs.Rates.Steps.{rate_of, greatest_up_to, rounded_down}
use Rattle.wire_rules.specs.Rates.Window.{transport_in_range, window_segments}
use Rattle.wire_rules.specs.Options.Wire.{fields_fit, option_bytes, word_of}
use Rattle.wire_rules.specs.Options.Nonces.{fields_up_to, lowered, agree}
use Rattle.wire_rules.specs.Options.Requests.{is_request}
use Rattle.wire_rules.specs.Options.Responses.{ttl_diff, is_response}
use Rattle.wire_rules.specs.Walk.Walks.{length_fits, look, walk_on}
use Rattle.wire_rules.specs.Ipv4.Headers.{header_length}
use Rattle.wire_rules.specs.Ipv4.Checksums.{ones_add, ones_sum, with_checksum, checksum_of, sealed}
use Rattle.wire_rules.specs.Ipv4.Checks.{well_formed}
use Rattle.gateway_rules.specs.Router.Decisions.{one_less, decided}
use Rattle.gateway_rules.specs.Router.Routers.{router_in_range}
use Rattle.gateway_rules.specs.Receiver.Reports.{report_on, receiver_in_range}
use Rattle.sender_rules.specs.Connections.Records.{is_before, state_in_range, bytes_in_range, in_range}
use Rattle.sender_rules.specs.Sender.Calls.{ask_in_range, is_busy, is_soon, judged}
use Rattle.sender_rules.specs.Congestion.Echoes.{halved}
use Rattle.sender_rules.specs.Congestion.Phases.{is_early, phase_in_range, is_recent, or_greater, pipe_ack, validated, is_validated, is_over, started_at, run_on}
use Rattle.cases.specs.Table.{same_figures, holds, WTable}

pub w_table : WTable
unfolding same_figures holds within rate_of greatest_up_to rounded_down transport_in_range window_segments fields_fit option_bytes word_of fields_up_to lowered agree is_request ttl_diff is_response
    length_fits look walk_on header_length ones_add ones_sum with_checksum checksum_of sealed well_formed one_less decided router_in_range report_on receiver_in_range
    is_before state_in_range bytes_in_range in_range ask_in_range is_busy is_soon judged halved is_early phase_in_range is_recent or_greater pipe_ack validated is_validated is_over started_at run_on
w_table = refl
