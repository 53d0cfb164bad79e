-- Moves in lists.
use Rattle.std.proofs.Common.{◌≡◌, ◌⊎◌, inl, inr, ⊎_elim, ℕ, zero, suc, ◌+◌, ◌<◌, ◌≤◌, Bool, true, false, cond, Option, Some, None, List, [], ◌∷◌, ◌++◌, refl, sym, subst, ap, arith}
use Rattle.std.specs.List.{flat_map, range_with_len}
use Rattle.std.proofs.lemmas.Bool.{cases_eq}
use Rattle.reo_values.specs.declared.value.Value.{Value}
use Rattle.reo_net_base.specs.declared.colouring.Move.{Move}
use Rattle.reo_net_base.specs.Moves.{move_with}
use Rattle.reo_kinds_laws.specs.move_laws.Moved.{Has, Moves}

has_left : (xs ys : List Move) (move : Move) → Has xs move → Has (xs ++ ys) move
has_left [] ys move h = absurd h
has_left (x ∷ xs) ys move h = ⊎_elim (λ same. inl same) (λ rest. inr (has_left xs ys move rest)) h

has_right : (xs ys : List Move) (move : Move) → Has ys move → Has (xs ++ ys) move
has_right [] ys move h = h
has_right (x ∷ xs) ys move h = inr (has_right xs ys move h)

has_parts : (xs ys : List Move) (move : Move) → Has (xs ++ ys) move → Has xs move ⊎ Has ys move
has_parts [] ys move h = inr h
has_parts (x ∷ xs) ys move h =
    ⊎_elim (λ same. inl (inl same)) (λ rest. ⊎_elim (λ left. inl (inr left)) (λ right. inr right) (has_parts xs ys move rest)) h

-- A place among some running that has the move.
pub record IsFrom (f : ℕ → List Move) (from count : ℕ) (move : Move) : Type 0 where
  pub place : ℕ
  pub behind : from ≤ place
  pub below : place < from + count
  pub has : Has (f place) move

pub from_place : (f : ℕ → List Move) (from count : ℕ) (move : Move) → Has (flat_map f (range_with_len from count)) move → IsFrom f from count move
from_place f from zero move h = absurd h
from_place f from (suc count) move h =
    ⊎_elim
    (λ here. record { place = from; behind = omega arith; below = omega arith; has = here })
    (λ later. let rest = from_place f (from + 1) count move later in record { place = rest.place; behind = let b = rest.behind in omega (arith, b); below = let b = rest.below in omega (arith, b); has = rest.has })
    (has_parts (f from) (flat_map f (range_with_len (from + 1) count)) move h)

pub at_place : (f : ℕ → List Move) (from count : ℕ) (move : Move) (place : ℕ) → from ≤ place → place < from + count → Has (f place) move
    → Has (flat_map f (range_with_len from count)) move
at_place f from zero move place h k has = absurd (omega (arith, h, k))
at_place f from (suc count) move place h k has =
    let rest : List Move = flat_map f (range_with_len (from + 1) count) in
    ⊎_elim
    (λ same. has_left (f from) rest move (subst (λ (p : ℕ). Has (f p) move) same has))
    (λ differs. has_right (f from) rest move (at_place f (from + 1) count move place (omega (arith, h, differs)) (omega (arith, k)) has))
    (cases_eq place from)

-- What stands in the move of a place.
pub of_place : (flows : Bool) (found : Option Value) (place port : ℕ) (item : Value) → Moves (cond flows (move_with place found) []) port item
    → (port ≡ place) × (flows ≡ true) × (found ≡ Some item)
of_place true None place port item h = absurd h
of_place true (Some other) place port item h =
    ⊎_elim (λ same. (sym (ap (λ (m : Move). m.port) same), refl, ap (λ (m : Move). Some m.item) same)) (λ rest. absurd rest) h
of_place false found place port item h = absurd h
