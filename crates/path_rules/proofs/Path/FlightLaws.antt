-- Laws of a request on its way: what holds of it between two hops, one hop, and the hops' travel. Assumes nothing.
use Prim.Native.Nat.{ℕ, suc, ◌+◌, ◌-◌, ◌*◌, ◌%◌, ◌^◌, ◌≤◌, ◌<◌, min}
use mathlib.Core.List.{List, [], ◌∷◌}
use mathlib.Core.Logic.{◌⊎◌, inl, inr}
use mathlib.Core.Path.{◌≡◌, refl, sym, ap, subst, ◌∙◌}
use native.Mathlib.Nat.{mod-mod_of_dvd, dvd-mul_left, sub-zero}
use native.Mathlib.Omega.{arith}
use lib.ListN.{length}
use lib.Pow.{pow-add}
use Rattle.common.proofs.Choice.{le_or_gt}
use Rattle.refusals.specs.Reply.{Reply, refuse, answering, refusing}
use Rattle.wire_rules.specs.declared.Request.{Request}
use Rattle.wire_rules.specs.Options.Nonces.{fields_up_to}
use Rattle.gateway_rules.specs.Router.Claims.{Carries, Leaves}
use Rattle.gateway_rules.proofs.Router.Claims.{ours, silent_hop}
use Rattle.sender_rules.specs.declared.OpenRequest.{OpenRequest}
use Rattle.path_rules.specs.declared.Router.{Router}
use Rattle.path_rules.specs.declared.Router.TheVariants.{Knowing, Silent}
use Rattle.path_rules.specs.Hops.Summaries.{silent_ones, least_ceiling}
use Rattle.path_rules.specs.Hops.Claims.{RouterInRange, RoutersInRange}
use Rattle.path_rules.specs.Path.Runs.{hop, onward, travel_by}

-- ---- the nonce

-- nonces that agree up to a code agree up to any lower one
pub shorter : (k c n m : ℕ) → k ≤ c → fields_up_to c n ≡ fields_up_to c m → fields_up_to k n ≡ fields_up_to k m
unfolding fields_up_to
shorter k c n m h e =
    let d : 4 ^ c ≡ 4 ^ (c - k) * 4 ^ k = ap (λ (x : ℕ). 4 ^ x) {x = c} {y = c - k + k} (omega arith) ∙ pow-add 4 (c - k) k in
    let one_way : (x : ℕ) → x % 4 ^ c % 4 ^ k ≡ x % 4 ^ k = λ x. rw d (mod-mod_of_dvd (4 ^ k) x (dvd-mul_left (4 ^ k) (4 ^ (c - k)))) in
    sym (one_way n) ∙ ap (λ (x : ℕ). x % 4 ^ k) e ∙ one_way m

agree_0 : (n m : ℕ) → fields_up_to 0 n ≡ fields_up_to 0 m
unfolding fields_up_to
agree_0 n m = omega arith

-- ---- between two hops

-- what holds of a request with `s` silent routers behind it: its rate is at most the code asked, and unless it is denied its TTL Diff is
-- short by `s`; its nonce agrees with the sender's up to its rate. A denied request has all of this for nothing, so that it needs no case
-- of its own
pub record Flying (q : OpenRequest) (s ttl : ℕ) (r : Request) : Type 0 where
  pub below : r.rate ≤ q.code
  pub byte : r.qs_ttl < 256
  pub short : 1 ≤ r.rate → (ttl + s) % 256 ≡ (r.qs_ttl + q.ttl_diff) % 256
  pub agrees : fields_up_to r.rate r.nonce ≡ fields_up_to r.rate q.nonce

-- from one request to the next: its rate, and that it flies on with so many silent routers more
pub record Flown (ttl hops silent : ℕ) (r r' : Request) (rate : ℕ) : Type 0 where
  pub rate_is : r'.rate ≡ rate
  pub flies : (q : OpenRequest) (s : ℕ) → Flying q s ttl r → Flying q (s + silent) (ttl - hops) r'

-- ---- one hop

-- the rate behind a router, and how many silent ones it makes
abbrev pub rate_behind : Router → ℕ → ℕ
rate_behind (Knowing ceiling fresh) rate = min rate ceiling
rate_behind Silent rate = rate

abbrev pub silent_one : Router → ℕ
silent_one (Knowing ceiling fresh) = 0
silent_one Silent = 1

-- what a hop leaves of a packet that carries a request
pub record Hopped (packet : List ℕ) (place ttl : ℕ) (r : Request) (router : Router) : Type 0 where
  pub next : Request
  pub leaves_it : Leaves (length packet) packet place (ttl - 1) next (hop router packet)
  pub flown : Flown ttl 1 (silent_one router) r next (rate_behind router r.rate)

module _ (packet : List ℕ) (place ttl : ℕ) (r : Request) (c : Carries (length packet) packet place ttl r) where
  pub hop_six : (router : Router) → RouterInRange router → ttl ≤ 1 → hop router packet ≡ refuse 6
  hop_six (Knowing ceiling fresh) g h = ours.hops.expired (length packet) ceiling fresh place ttl packet r (record { ceiling_high = g.0; fresh_high = g.1 }) c h
  hop_six Silent g h = silent_hop.expired (length packet) place ttl packet r c h

  module _ (lives : 1 < ttl) where
    untouched : (ceiling fresh : ℕ) → ceiling ≤ 15 → fresh < 1073741824 → r.rate ≡ 0 → Hopped packet place ttl r (Knowing ceiling fresh)
    untouched ceiling fresh l k z = record {
      next = r;
      leaves_it = ours.hops.rate_0 (length packet) ceiling fresh place ttl packet r (record { ceiling_high = l; fresh_high = k }) c lives z;
      flown = record {
        rate_is = omega arith;
        flies = λ q s f. record { below = f.below; byte = f.byte; short = λ h. absurd (omega arith); agrees = f.agrees };
      };
    }

    denied : (fresh : ℕ) → fresh < 1073741824 → 1 ≤ r.rate → Hopped packet place ttl r (Knowing 0 fresh)
    denied fresh k h = record {
      next = record { rate = 0; qs_ttl = 0; nonce = 0 };
      leaves_it = ours.hops.denies (length packet) fresh place ttl packet r (record { ceiling_high = omega arith; fresh_high = k }) c lives h;
      flown = record {
        rate_is = omega arith;
        flies = λ q s f. record { below = omega arith; byte = omega arith; short = λ z. absurd (omega arith); agrees = agree_0 0 q.nonce };
      };
    }

    approved : (ceiling fresh : ℕ) → ceiling ≤ 15 → fresh < 1073741824 → 1 ≤ r.rate → 1 ≤ ceiling → Hopped packet place ttl r (Knowing ceiling fresh)
    approved ceiling fresh l k h m =
        let a = ours.hops.approves (length packet) ceiling fresh place ttl packet r (record { ceiling_high = l; fresh_high = k }) c lives h m in
        let new = a.0 in
        let is : new.rate ≡ min r.rate ceiling = a.1.least in
        let lower : (new.qs_ttl + 1) % 256 ≡ r.qs_ttl % 256 = a.1.ttl_lower in
        record {
          next = new;
          leaves_it = a.2;
          flown = record {
            rate_is = is;
            flies = λ q s f. record {
              below = omega (arith, f.below, is);
              byte = a.1.ttl_byte;
              short = λ z. let e = f.short h in omega (arith, e, lower);
              agrees = a.1.nonce_kept.low ∙ shorter new.rate r.rate r.nonce q.nonce (omega (arith, is)) f.agrees;
            };
          };
        }

    pub hop_on : (router : Router) → RouterInRange router → Hopped packet place ttl r router
    hop_on Silent g = record {
      next = r;
      leaves_it = silent_hop.passes (length packet) place ttl packet r c lives;
      flown = record {
        rate_is = refl;
        flies = λ q s f. record { below = f.below; byte = f.byte; short = λ h. let e = f.short h in omega (arith, e); agrees = f.agrees };
      };
    }
    hop_on (Knowing ceiling fresh) g = by_rate (le_or_gt r.rate 0)
      where
        by_ceiling : (fall : ℕ) → fall ≡ ceiling → 1 ≤ r.rate → (fall ≤ 0) ⊎ (0 < fall) → Hopped packet place ttl r (Knowing ceiling fresh)
        by_ceiling fall e h (inl z) = subst (λ (n : ℕ). Hopped packet place ttl r (Knowing n fresh)) {x = 0} {y = ceiling} (omega arith) (denied fresh g.1 h)
        by_ceiling fall e h (inr m) = approved ceiling fresh g.0 g.1 h (omega arith)

        by_rate : (r.rate ≤ 0) ⊎ (0 < r.rate) → Hopped packet place ttl r (Knowing ceiling fresh)
        by_rate (inl z) = untouched ceiling fresh g.0 g.1 (omega arith)
        by_rate (inr h) = by_ceiling ceiling refl h (le_or_gt ceiling 0)

-- ---- the hops' travel

-- a packet that came through all routers
pub record Through (packet : List ℕ) (place ttl : ℕ) (r : Request) (routers : List Router) : Type 0 where
  pub outlasts : length routers < ttl
  pub new : List ℕ
  pub last : Request
  pub came : travel_by hop routers packet ≡ answering tt new
  pub carries : Carries (length new) new place (ttl - length routers) last
  pub flown : Flown ttl (length routers) (silent_ones routers) r last (min r.rate (least_ceiling routers))

-- or was lost to a router that gave 6
pub record LostOn (packet : List ℕ) (ttl : ℕ) (routers : List Router) : Type 0 where
  pub falls_short : ttl ≤ length routers
  pub last : List ℕ
  pub lost_by : travel_by hop routers packet ≡ refusing 6 last

abbrev pub Travels : List Router → Type 0
Travels routers = (packet : List ℕ) (place ttl : ℕ) (r : Request) → Carries (length packet) packet place ttl r → 1 ≤ ttl → r.rate ≤ 15
    → LostOn packet ttl routers ⊎ Through packet place ttl r routers

module _ (router : Router) (rest : List Router) (g : RouterInRange router) (ih : Travels rest)
    (packet : List ℕ) (place ttl : ℕ) (r : Request) (c : Carries (length packet) packet place ttl r) (low : r.rate ≤ 15) where
  first_six : ttl ≤ 1 → LostOn packet ttl (router ∷ rest)
  first_six h = record {
    falls_short = omega arith;
    last = packet;
    lost_by = ap (λ (reply : Reply (List ℕ)). onward packet reply (travel_by hop rest)) (hop_six packet place ttl r c router g h);
  }

  module _ (lives : 1 < ttl) where
    h : Hopped packet place ttl r router
    h = hop_on packet place ttl r c lives router g

    goes : travel_by hop (router ∷ rest) packet ≡ travel_by hop rest h.leaves_it.new
    goes = ap (λ (reply : Reply (List ℕ)). onward packet reply (travel_by hop rest)) h.leaves_it.replied

    carried : Carries (length h.leaves_it.new) h.leaves_it.new place (ttl - 1) h.next
    carried = subst (λ (n : ℕ). Carries n h.leaves_it.new place (ttl - 1) h.next) (sym h.leaves_it.long) h.leaves_it.carries

    falls : (own : Router) → own ≡ router → rate_behind own r.rate ≤ r.rate
    falls (Knowing ceiling fresh) e = omega arith
    falls Silent e = omega arith

    low_on : h.next.rate ≤ 15
    low_on = omega (arith, h.flown.rate_is, falls router refl)

    then_lost : LostOn h.leaves_it.new (ttl - 1) rest → LostOn packet ttl (router ∷ rest)
    then_lost l = record { falls_short = omega (arith, l.falls_short); last = l.last; lost_by = goes ∙ l.lost_by }

    then_through : Through h.leaves_it.new place (ttl - 1) h.next rest → Through packet place ttl r (router ∷ rest)
    unfolding least_ceiling silent_ones
    then_through t = record {
      outlasts = omega (arith, t.outlasts);
      new = t.new;
      last = t.last;
      came = goes ∙ t.came;
      carries =
          subst (λ (n : ℕ). Carries (length t.new) t.new place n t.last) {x = ttl - 1 - length rest} {y = ttl - suc (length rest)} (omega arith) t.carries;
      flown = record {
        rate_is = t.flown.rate_is ∙ ap (λ (n : ℕ). min n (least_ceiling rest)) h.flown.rate_is ∙ rates router;
        flies = λ q s f.
            subst (λ (n : ℕ). Flying q n (ttl - suc (length rest)) t.last) (counts router s)
            (subst (λ (n : ℕ). Flying q (s + silent_one router + silent_ones rest) n t.last) {x = ttl - 1 - length rest} {y = ttl - suc (length rest)} (omega arith)
            (t.flown.flies q (s + silent_one router) (h.flown.flies q s f)));
      };
    }
      where
        rates : (own : Router) → min (rate_behind own r.rate) (least_ceiling rest) ≡ min r.rate (least_ceiling (own ∷ rest))
        rates (Knowing ceiling fresh) = omega arith
        rates Silent = refl

        counts : (own : Router) (s : ℕ) → s + silent_one own + silent_ones rest ≡ s + silent_ones (own ∷ rest)
        counts (Knowing ceiling fresh) s = omega arith
        counts Silent s = omega arith

    after_first : LostOn packet ttl (router ∷ rest) ⊎ Through packet place ttl r (router ∷ rest)
    after_first = go (ih h.leaves_it.new place (ttl - 1) h.next carried (omega arith) low_on)
      where
        go : LostOn h.leaves_it.new (ttl - 1) rest ⊎ Through h.leaves_it.new place (ttl - 1) h.next rest
            → LostOn packet ttl (router ∷ rest) ⊎ Through packet place ttl r (router ∷ rest)
        go (inl l) = inl (then_lost l)
        go (inr t) = inr (then_through t)

  one_more : LostOn packet ttl (router ∷ rest) ⊎ Through packet place ttl r (router ∷ rest)
  one_more = go (le_or_gt ttl 1)
    where
      go : (ttl ≤ 1) ⊎ (1 < ttl) → LostOn packet ttl (router ∷ rest) ⊎ Through packet place ttl r (router ∷ rest)
      go (inl l) = inl (first_six l)
      go (inr l) = after_first l

-- every packet that carries a request comes through, or is lost to a 6: whatever the routers, and however many
pub travels : (routers : List Router) → RoutersInRange routers → Travels routers
unfolding least_ceiling silent_ones
travels [] g packet place ttl r c low high = inr (record {
  outlasts = low;
  new = packet;
  last = r;
  came = refl;
  carries = subst (λ (n : ℕ). Carries (length packet) packet place n r) (sym (sub-zero ttl)) c;
  flown = record { rate_is = nobody; flies = λ q s f. subst (λ (n : ℕ). Flying q n (ttl - 0) r) (sym (nobody_silent s)) (subst (λ (n : ℕ). Flying q s n r) (sym (sub-zero ttl)) f) };
})
  where
    nobody : r.rate ≡ min r.rate (least_ceiling [])
    nobody = omega arith

    nobody_silent : (s : ℕ) → s + silent_ones [] ≡ s
    nobody_silent s = omega arith
travels (router ∷ rest) g packet place ttl r c low high = one_more router rest g.0 (travels rest g.1) packet place ttl r c high
