-- Components to which nothing is to be done.
use Rattle.std.proofs.Common.{◌≡◌, ◌∙◌, ◌+◌, ◌-◌, ◌^◌, ℕ, Bool, true, false, not, cond, min, Option, Some, None, List, [], ◌∷◌, refl, sym, ap, arith}
use Rattle.std.proofs.lemmas.Bool.{and_parts, not-true}
use Rattle.std.specs.Prelude.{is_some, nat_eq}
use Rattle.std.specs.Option.{option_map_or}
use Rattle.std.proofs.lemmas.Bool.Decides.{nat_tests}
use Rattle.reo_players.specs.Written.{Task}
use Rattle.reo_players.specs.Players.{Player, after, after_task, bound_of, first_port, one_more_seen, runs_out}
use Rattle.reo_players.specs.Idle.{is_idle}

pub no_bound : (o : Option ℕ) → is_some o ≡ false → o ≡ None
no_bound None e = refl
no_bound (Some n) e = absurd cc

module _ (t : Task) (ts : List Task) (seen : ℕ) (idle : is_idle (record { rest = t ∷ ts; seen = seen }) ≡ true) where
  unbounded : is_some (bound_of t) ≡ false
  unbounded = not-true (is_some (bound_of t)) ((and_parts (not (is_some (bound_of t))) (nat_eq seen 1) idle).0)

  seen_once : seen ≡ 1
  seen_once = let once : nat_eq seen 1 ≡ true = (and_parts (not (is_some (bound_of t))) (nat_eq seen 1) idle).1 in grind (arith, nat_tests)

  goes_on : after_task false seen (t ∷ ts) ≡ record { rest = t ∷ ts; seen = seen }
  goes_on =
      let next : Player = record { rest = ts; seen = 0 } in
      let here : Player = record { rest = t ∷ ts; seen = one_more_seen t seen } in
      let on : runs_out t seen ≡ false = ap (λ (o : Option ℕ). option_map_or (λ n. nat_eq (seen + 1) n) o false) (no_bound (bound_of t) unbounded) in
      let one : one_more_seen t seen ≡ 1 = ap (λ (b : Bool). cond b (min (seen + 1) (2 ^ 32 - 1)) 1) unbounded in
      ap (λ (b : Bool). cond b next here) on ∙ ap (λ (n : ℕ). record { rest = t ∷ ts; seen = n }) (one ∙ sym seen_once)

stays_as : (rest : List Task) (seen : ℕ) → is_idle (record { rest = rest; seen = seen }) ≡ true → after_task false seen rest ≡ record { rest = rest; seen = seen }
stays_as [] seen idle = refl
stays_as (t ∷ ts) seen idle = goes_on t ts seen idle

-- A round in which nothing of it flows leaves it as it is.
pub idle_stays : (p : Player) → is_idle p ≡ true → after false p ≡ p
idle_stays p idle = stays_as p.rest p.seen idle

named_once : (rest : List Task) (seen port : ℕ) → is_idle (record { rest = rest; seen = seen }) ≡ true → first_port rest ≡ Some port → seen ≡ 1
named_once [] seen port idle named = absurd cc
named_once (t ∷ ts) seen port idle named = seen_once t ts seen idle

-- Where its present action names a port, a round has seen it.
pub idle_seen : (p : Player) (port : ℕ) → is_idle p ≡ true → first_port p.rest ≡ Some port → p.seen ≡ 1
idle_seen p port idle named = named_once p.rest p.seen port idle named
