-- Laws of the call of a run, by its tests. Assumes nothing.
use Prim.Native.Nat.{ℕ}
use mathlib.Core.Bool.{Bool, true, false}
use mathlib.Core.List.{List}
use mathlib.Core.Path.{◌≡◌, sym, ap, ◌∙◌}
use Rattle.common.proofs.Choice.{chosen}
use Rattle.common.specs.Choice.{pick}
use Rattle.refusals.specs.Reply.{Reply, answer, refuse, leaves, and_then}
use Rattle.sender_rules.specs.declared.Connection.{Connection}
use Rattle.wire_rules.specs.declared.Transport.{Transport}
use Rattle.path_rules.specs.declared.Router.{Router}
use Rattle.path_rules.specs.Hops.Rows.{row_of}
use Rattle.path_rules.specs.Path.Runs.{path_calls, journey, Run, run_by, run_in_range, run_reply, run_call, start_reply}

-- ---- the call

module _ (limit : ℕ) (c : Connection) (packet row : List ℕ) (ceiling : ℕ) (t : Transport) where
  abbrev Call : Reply Run → Type 0
  Call reply =
      let call = run_call limit c packet row ceiling t in
      (and_then reply (λ run. answer run.verdict) ≡ call.said) × (leaves (journey packet c) (and_then reply (λ run. answer run.left)) ≡ call.left)

  -- by another form of its reply
  call_by : (reply : Reply Run) → reply ≡ run_reply limit c packet row ceiling t → Call reply
  call_by reply e = (
    ap (λ (r : Reply Run). and_then r (λ run. answer run.verdict)) e,
    ap (λ (r : Reply Run). leaves (journey packet c) (and_then r (λ run. answer run.left))) e,
  )

  abbrev on_packet : List Router → Reply Run
  on_packet routers = and_then (start_reply c packet) (λ _. answer (run_by path_calls c t ceiling routers packet))

  abbrev on_row : List Router → Reply Run
  on_row routers = pick (run_in_range c ceiling t) (on_packet routers) (refuse 7)

  pub call_no_row : row_of limit row ≡ refuse 7 → Call (refuse 7)
  call_no_row e = call_by (refuse 7) (ap (λ (r : Reply (List Router)). and_then r on_row) (sym e))

  module _ (routers : List Router) (is_row : row_of limit row ≡ answer routers) where
    on_row_lem : on_row routers ≡ run_reply limit c packet row ceiling t
    on_row_lem = ap (λ (r : Reply (List Router)). and_then r on_row) (sym is_row)

    pub call_out : run_in_range c ceiling t ≡ false → Call (refuse 7)
    call_out e = call_by (refuse 7) (ap (λ (b : Bool). pick b (on_packet routers) (refuse 7)) (sym e) ∙ on_row_lem)

    module _ (ok : run_in_range c ceiling t ≡ true) where
      started : (s : Reply (Unit {0})) → s ≡ start_reply c packet → and_then s (λ _. answer (run_by path_calls c t ceiling routers packet)) ≡ run_reply limit c packet row ceiling t
      started s e =
          ap (λ (r : Reply (Unit {0})). and_then r (λ _. answer (run_by path_calls c t ceiling routers packet))) e
          ∙ sym (chosen (run_in_range c ceiling t) _ _ ok)
          ∙ on_row_lem

      pub call_refused : (n : ℕ) → refuse n ≡ start_reply c packet → Call (refuse n)
      call_refused n e = call_by (refuse n) (started (refuse n) e)

      pub call_ran : (run : Run) → answer tt ≡ start_reply c packet → run ≡ run_by path_calls c t ceiling routers packet → Call (answer run)
      call_ran run s e = call_by (answer run) (ap answer e ∙ started (answer tt) s)
