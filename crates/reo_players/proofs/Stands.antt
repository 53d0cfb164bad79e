-- Counters at a place of a list of actions.
use Rattle.std.proofs.Common.{◌≡◌, ◌∙◌, ℕ, zero, suc, max, ◌+◌, ◌≤◌, ◌<◌, List, [], ◌∷◌, ◌++◌, length, drop, flat_map, slice_get, Some, refl, sym, ap, subst, arith}
use Rattle.std.proofs.Math.ListN.{get_or}
use Rattle.std.proofs.lemmas.Option.{slice_get_read}
use Rattle.reo_script.specs.declared.scripts.action.Action.{Action}
use Rattle.reo_players.specs.declared.counter.Counter.{Counter}
use Rattle.reo_players.specs.Written.{written}
use Rattle.reo_players.specs.Counters.{levels_within, levels_of, IsLive, AreLive, rest_here, rest_of, rest_within, Stands, StandsHere}

-- An action of a list takes fewer counters than the list.
pub levels_at : (xs : List Action) (i : ℕ) (a : Action) → slice_get xs i ≡ Some a → suc (levels_within a) ≤ levels_of xs
levels_at [] i a e = cc
levels_at (b ∷ xs) zero a e = let same : b ≡ a = cc in subst (λ x. suc (levels_within x) ≤ max (suc (levels_within b)) (levels_of xs)) same (omega arith)
levels_at (b ∷ xs) (suc i) a e = let rest = levels_at xs i a e in omega arith

pub levels_some : (xs : List Action) (i : ℕ) → i < length xs → 1 ≤ levels_of xs
levels_some [] i lt = elim lt [ ]
levels_some (b ∷ xs) i lt = omega arith

pub live_at : (xs : List Action) (i : ℕ) (a : Action) → slice_get xs i ≡ Some a → AreLive xs → IsLive a
live_at [] i a e h = cc
live_at (b ∷ xs) zero a e h = let same : b ≡ a = cc in subst IsLive same h.0
live_at (b ∷ xs) (suc i) a e h = live_at xs i a e h.1

pub read_at : (xs : List Action) (i : ℕ) (a : Action) → i < length xs → a ≡ get_or xs i a → slice_get xs i ≡ Some a
read_at xs i a lt e = slice_get_read xs (length xs) i a refl lt e

-- What a list comes to from a place on.
pub written_from : (xs : List Action) (i : ℕ) (a : Action) → slice_get xs i ≡ Some a → flat_map written (drop i xs) ≡ written a ++ flat_map written (drop (suc i) xs)
written_from [] i a e = cc
written_from (b ∷ xs) zero a e = let same : b ≡ a = cc in ap (λ x. written x ++ flat_map written xs) same
written_from (b ∷ xs) (suc i) a e = written_from xs i a e

-- The counters of a list are those at an action of it.
pub stands_by : (xs : List Action) (c : Counter) (cs : List Counter) (a : Action) → slice_get xs c.place ≡ Some a → StandsHere (Some a) (λ body. Stands body cs) → Stands xs (c ∷ cs)
stands_by xs c cs a e h = subst (λ o. StandsHere o (λ body. Stands body cs)) (sym e) h

pub stands_of : (xs : List Action) (c : Counter) (cs : List Counter) (a : Action) → slice_get xs c.place ≡ Some a → Stands xs (c ∷ cs) → StandsHere (Some a) (λ body. Stands body cs)
stands_of xs c cs a e h = subst (λ o. StandsHere o (λ body. Stands body cs)) e h

pub rest_by : (xs : List Action) (c : Counter) (cs : List Counter) (a : Action) → slice_get xs c.place ≡ Some a
    → rest_of xs (c ∷ cs) ≡ rest_within a c cs ++ flat_map written (drop (suc c.place) xs)
rest_by xs c cs a e = ap (λ o. rest_here o c.left (λ body. rest_of body cs) ++ flat_map written (drop (suc c.place) xs)) e

-- Standing at the first task of the action at a place.
pub rest_from : (xs : List Action) (c : Counter) (cs : List Counter) (a : Action) (place : ℕ) → c.place ≡ place → slice_get xs place ≡ Some a
    → rest_within a c cs ≡ written a → rest_of xs (c ∷ cs) ≡ flat_map written (drop place xs)
rest_from xs c cs a place same e rest =
    rest_by xs c cs a (ap (slice_get xs) same ∙ e) ∙ (ap (λ ts. ts ++ flat_map written (drop (suc c.place) xs)) rest
    ∙ (ap (λ p. written a ++ flat_map written (drop (suc p) xs)) same ∙ sym (written_from xs place a e)))

pub one_up : (n : ℕ) → n + 1 ≡ suc n
one_up n = omega arith
