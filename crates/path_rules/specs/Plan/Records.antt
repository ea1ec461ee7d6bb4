-- The program's input (document 01, "Path, program and callers"): records that spell one run, or the offset of the first that breaks it.
-- Assumes nothing.
use Rattle.std.specs.Prelude.{ℕ, ◌+◌, ◌-◌, Bool, ◌&&◌, List, leb, ltb, eqb, length, get_or, drop}
use Rattle.common.specs.Choice.{pick, within}
use Rattle.wire_rules.specs.Rates.Steps.{top_code}
use Rattle.path_rules.specs.declared.Router.{Router}
use Rattle.path_rules.specs.Hops.Rows.{nonce_at, Hops, hops_from}

-- one run: the request, the routers and the receiver's ceiling
pub record Plan : Type 0 where
  pub code : ℕ
  pub ttl : ℕ
  pub qs : ℕ
  pub nonce : ℕ
  pub routers : List Router
  pub ceiling : ℕ

-- what an input is: a run, or bad at an offset
pub data Reading : Type 0 where
  good : Plan → Reading
  bad : ℕ → Reading

-- "1 request (code, IP TTL, QS TTL, word: 7 bytes)", "4 receiver (ceiling: 1)": their kinds, and the lengths of the whole records
abbrev pub request_record : ℕ
request_record = 1

abbrev pub request_length : ℕ
request_length = 1 + 7

abbrev pub receiver_record : ℕ
receiver_record = 4

abbrev pub receiver_length : ℕ
receiver_length = 1 + 1

-- a whole request record whose numbers are in range stands in front of some bytes: "A code is 1 to 15 .., and IP TTL is not 0"; where a
-- byte is missing, it reads as 0
unfoldable pub starts_request : List ℕ → Bool
starts_request bytes =
    eqb (get_or bytes 0 0) request_record && leb request_length (length bytes) && within 1 (get_or bytes 1 0) top_code && ltb 0 (get_or bytes 2 0)

-- a whole receiver record: "a ceiling at most 15"
unfoldable pub starts_receiver : List ℕ → Bool
starts_receiver bytes = eqb (get_or bytes 0 0) receiver_record && leb receiver_length (length bytes) && leb (get_or bytes 1 0) top_code

-- the routers' records behind the request's
abbrev pub hops_of : ℕ → List ℕ → Hops
hops_of limit input = hops_from limit (drop request_length input)

abbrev pub plan_of : List ℕ → Hops → Plan
plan_of input hops = record {
  code = get_or input 1 0;
  ttl = get_or input 2 0;
  qs = get_or input 3 0;
  nonce = nonce_at 4 input;
  routers = hops.routers;
  ceiling = get_or hops.rest 1 0;
}

-- "One run is a 1, up to 64 of 2 and 3, and a 4, then end of input." Else "the offset of the first record that breaks this; a record cut
-- short counts at its kind byte, a missing record at the length". The limit on routers is an argument
unfoldable pub read_plan : ℕ → List ℕ → Reading
read_plan limit input =
    let hops = hops_of limit input in
    let behind = length input - length hops.rest in
    pick (starts_request input)
    (pick (starts_receiver hops.rest)
    (pick (eqb (length hops.rest) receiver_length) (good (plan_of input hops)) (bad (behind + receiver_length)))
    (bad behind))
    (bad 0)
