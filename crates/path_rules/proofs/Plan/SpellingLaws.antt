-- Every run in range can be spelled, and what bytes spell is in range: the claim Spelling. Assumes nothing.
use Prim.Native.Nat.{ℕ, ◌+◌, ◌*◌, ◌/◌, ◌%◌, ◌<◌}
use mathlib.Core.List.{List, [], ◌∷◌, ◌++◌}
use mathlib.Core.Path.{◌≡◌, refl, ap, subst, ◌∙◌}
use native.Mathlib.Omega.{arith}
use lib.ListN.{length}
use lib.Seq.{take-append_seam}
use Rattle.common.specs.Lists.{Bytes}
use Rattle.common.proofs.Lists.{bytes_each, bytes_append, bytes_part}
use Rattle.wire_rules.specs.Options.Wire.{word_bytes}
use Rattle.path_rules.specs.Hops.Claims.{spelled}
use Rattle.path_rules.proofs.Hops.SpellLaws.{nonce_back}
use Rattle.path_rules.proofs.Hops.Claims.{rows}
use Rattle.path_rules.specs.Plan.Records.{Plan}
use Rattle.path_rules.specs.Plan.Claims.{SpellsRun, PlanInRange, spelled_run, Spelling}

-- ---- a spelling of a run

written : (limit : ℕ) (p : Plan) → PlanInRange limit p → SpellsRun limit p (spelled_run p) × Bytes (spelled_run p)
written limit p r =
    let n = p.nonce in
    let request : List ℕ = 1 ∷ p.code ∷ p.ttl ∷ p.qs ∷ word_bytes n 0 in
    let receiver : List ℕ = 4 ∷ p.ceiling ∷ [] in
    let row = rows.written p.routers r.routers_in in (
      record {
        front = request ++ spelled p.routers;
        receiver = receiver;
        front_is = record {
          request = request;
          row = spelled p.routers;
          request_is = record {
            a = n / 4194304;
            b = n / 16384 % 256;
            c = n / 64 % 256;
            d = n % 64 * 4 + 0;
            code_low = r.code_low;
            code_high = r.code_high;
            ttl_low = r.ttl_low;
            nonce_is = nonce_back n;
            bytes_are = refl;
          };
          row_is = row.0;
          few = r.few;
          whole = refl;
        };
        receiver_is = record { ceiling_high = r.ceiling_high; bytes_are = refl };
        whole = refl;
      },
      bytes_append request (spelled p.routers ++ receiver) (bytes_each request (omega arith)) (bytes_append (spelled p.routers) receiver row.1 (bytes_each receiver (omega arith))),
    )

-- ---- the range of what is spelled

in_range_lem : (limit : ℕ) (p : Plan) (input : List ℕ) → Bytes input → SpellsRun limit p input → PlanInRange limit p
in_range_lem limit p input all s =
    let q = s.front_is.request_is in
    let row = s.front_is.row in
    let behind = row ++ s.receiver in
    let bytes : List ℕ = 1 ∷ p.code ∷ p.ttl ∷ p.qs ∷ q.a ∷ q.b ∷ q.c ∷ q.d ∷ behind in
    let is : input ≡ bytes =
    s.whole ∙ ap (λ (l : List ℕ). l ++ s.receiver) (s.front_is.whole ∙ ap (λ (l : List ℕ). l ++ row) q.bytes_are) in
    let each : Bytes bytes = subst Bytes is all in
    let at_2 : p.ttl < 256 = each 2 in
    let at_4 : q.a < 256 = each 4 in
    let at_5 : q.b < 256 = each 5 in
    let at_6 : q.c < 256 = each 6 in
    let at_7 : q.d < 256 = each 7 in
    let word = q.nonce_is in
    record {
      code_low = q.code_low;
      code_high = q.code_high;
      ttl_low = q.ttl_low;
      ttl_high = omega arith;
      qs_byte = each 3;
      nonce_high = omega arith;
      routers_in = rows.in_range_lem p.routers row (subst Bytes (take-append_seam row s.receiver) (bytes_part (length row) 8 bytes each)) s.front_is.row_is;
      few = s.front_is.few;
      ceiling_high = s.receiver_is.ceiling_high;
    }

-- ---- the claim

pub spelling : Spelling
spelling = record { written = written; in_range_lem = in_range_lem }
