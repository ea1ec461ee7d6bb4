-- Rows of hops as bytes (document 01, "Path, program and callers"): the program's records of kinds 2 and 3. Assumes nothing.
use Rattle.std.specs.Prelude.{ℕ, zero, suc, ◌+◌, ◌/◌, Bool, ◌&&◌, List, [], ◌∷◌, leb, eqb, length, get_or, drop}
use Rattle.std.specs.Prelude.{Option, None, Some}
use Rattle.common.specs.Choice.{pick}
use Rattle.refusals.specs.Reply.{Reply, answer, refuse}
use Rattle.wire_rules.specs.Rates.Steps.{top_code}
use Rattle.wire_rules.specs.Options.Wire.{word_from, word_bytes}
use Rattle.path_rules.specs.declared.Router.{Router}
use Rattle.path_rules.specs.declared.Router.TheVariants.{Knowing, Silent}

-- "hop rows and a summary's routers, joined too, 0 to 64"
abbrev pub most_routers : ℕ
most_routers = 64

-- "one byte of kind, then a body whose length the kind fixes": "2 router that knows (ceiling, fresh word: 5); 3 silent router (0)"
abbrev pub knowing_kind : ℕ
knowing_kind = 2

abbrev pub knowing_length : ℕ
knowing_length = 1 + 5

abbrev pub silent_kind : ℕ
silent_kind = 3

abbrev pub silent_length : ℕ
silent_length = 1

unfoldable pub length_of : Router → ℕ
length_of (Knowing ceiling fresh) = knowing_length
length_of Silent = silent_length

-- the nonce in the word at a place
abbrev pub nonce_at : ℕ → List ℕ → ℕ
nonce_at place bytes = word_from (get_or bytes place 0) (get_or bytes (place + 1) 0) (get_or bytes (place + 2) 0) (get_or bytes (place + 3) 0) / 4

-- the record of a router, with reserved bits of 0
abbrev pub record_of : Router → List ℕ
record_of (Knowing ceiling fresh) = knowing_kind ∷ ceiling ∷ word_bytes fresh 0
record_of Silent = silent_kind ∷ []

-- a whole record of kind 2 whose ceiling is "at most 15"
unfoldable pub is_knowing : List ℕ → Bool
is_knowing bytes = eqb (get_or bytes 0 0) knowing_kind && leb knowing_length (length bytes) && leb (get_or bytes 1 0) top_code

-- the router whose record stands in front of some bytes, if a good one does; where there are no bytes, the kind reads as 0
unfoldable pub front_of : List ℕ → Option Router
front_of bytes =
    pick (eqb (get_or bytes 0 0) silent_kind) (Some Silent)
    (pick (is_knowing bytes) (Some (Knowing (get_or bytes 1 0) (nonce_at 2 bytes))) None)

-- the routers whose records stand in front of some bytes, and the bytes behind them
pub record Hops : Type 0 where
  pub routers : List Router
  pub rest : List ℕ

abbrev pub no_hops : List ℕ → Hops
no_hops bytes = record { routers = []; rest = bytes }

abbrev pub ahead : Router → Hops → Hops
ahead router hops = record { routers = router ∷ hops.routers; rest = hops.rest }

abbrev pub go_on : List ℕ → Option Router → (Router → Hops) → Hops
go_on bytes None next = no_hops bytes
go_on bytes (Some router) next = ahead router (next router)

-- as many as there are, but no more than `limit`
unfoldable pub hops_from : ℕ → List ℕ → Hops
hops_from zero bytes = no_hops bytes
hops_from (suc limit) bytes = go_on bytes (front_of bytes) (λ router. hops_from limit (drop (length_of router) bytes))

-- a row of hops: its routers, or 7 where anything stands behind them
abbrev pub row_of : ℕ → List ℕ → Reply (List Router)
row_of limit bytes = pick (eqb (length (hops_from limit bytes).rest) 0) (answer (hops_from limit bytes).routers) (refuse 7)
