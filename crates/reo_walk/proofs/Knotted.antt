-- The sides of a knot as a list, and the places of these sides.
use Rattle.std.proofs.Common.{◌≡◌, ℕ, zero, suc, ◌+◌, ◌<◌, Bool, true, List, [], ◌∷◌, ◌++◌, length, get_or, refl, sym, ◌∙◌, subst, arith}
use Rattle.std.specs.Cmp.{both_ways}
use Rattle.std.specs.Prelude.{map, filter}
use Rattle.std.specs.Bool.{◌==◌}
use Rattle.std.specs.List.{range_with_len}
use Rattle.reo_net_base.specs.Net.{Net}
use Rattle.reo_net_base.specs.Sides.{side_count}
use Rattle.reo_net_laws.specs.Keys.{leads_at}
use Rattle.reo_net_laws.specs.Sublists.{sides_in}
use Rattle.reo_propagate.specs.Queues.{among}
use Rattle.reo_walk.specs.declared.place.KeyPlace.{KeyPlace}
use Rattle.reo_walk.specs.declared.place.KeyPlace.TheVariants.{Class, Row}
use Rattle.reo_walk.specs.Places.{side_of_place, places_in}
use Rattle.reo_walk.proofs.Resting.{among_at}
use Rattle.std.proofs.lemmas.Bool.{or_left as sooner, or_right as later, eq-eqb}
use Rattle.reo_propagate.proofs.Among.{among_range, among_filter, into_filter}

module _ (net : Net) (inside : ℕ → Bool) (real : (s : ℕ) → inside s ≡ true → s < side_count net) where
  -- The list of the sides of a set has just these.
  pub among_sides : (s : ℕ) → among (sides_in net inside) s ≡ inside s
  among_sides s = both_ways (among (sides_in net inside) s) (inside s)
      (λ h. (among_filter inside (range_with_len 0 (side_count net)) s h).0)
      (λ h. into_filter inside (range_with_len 0 (side_count net)) s h (subst (λ (k : ℕ). among (range_with_len 0 (side_count net)) k ≡ true) (let z : 0 + s ≡ s = omega arith in z) (among_range 0 (side_count net) s (real s h))))

  pub among_is : among (sides_in net inside) ≡ inside
  among_is i s = among_sides s i

  pub sides_below : (m : ℕ) → m < length (sides_in net inside) → get_or (sides_in net inside) m 0 < side_count net
  sides_below m lt = real (get_or (sides_in net inside) m 0) (sym (among_sides (get_or (sides_in net inside) m 0)) ∙ among_at (sides_in net inside) m lt)

  none_for : (xs : List ℕ) (s : ℕ) → among xs s ≡ true → 0 < length xs
  none_for [] s h = cc
  none_for (x ∷ xs) s h = omega arith

  pub some_side : (s : ℕ) → inside s ≡ true → 0 < length (sides_in net inside)
  some_side s h = none_for (sides_in net inside) s (among_sides s ∙ h)

-- Each place of a list is of a side among some.
abbrev pub AllOf : List ℕ → List KeyPlace → Type 0
AllOf sides places = (k : ℕ) (d : KeyPlace) → k < length places → among sides (side_of_place (get_or places k d)) ≡ true

all_classes : (sides xs : List ℕ) → ((s : ℕ) → among xs s ≡ true → among sides s ≡ true) → AllOf sides (map Class xs)
all_classes sides [] in_all k d lt = absurd (omega arith)
all_classes sides (x ∷ xs) in_all zero d lt = in_all x (sooner (x == x) (among xs x) (eq-eqb x x refl))
all_classes sides (x ∷ xs) in_all (suc k) d lt = all_classes sides xs (λ s h. in_all s (later (x == s) (among xs s) h)) k d (omega arith)

all_rows : (sides xs : List ℕ) → ((s : ℕ) → among xs s ≡ true → among sides s ≡ true) → AllOf sides (map Row xs)
all_rows sides [] in_all k d lt = absurd (omega arith)
all_rows sides (x ∷ xs) in_all zero d lt = in_all x (sooner (x == x) (among xs x) (eq-eqb x x refl))
all_rows sides (x ∷ xs) in_all (suc k) d lt = all_rows sides xs (λ s h. in_all s (later (x == s) (among xs s) h)) k d (omega arith)

all_both : (sides : List ℕ) (ps qs : List KeyPlace) → AllOf sides ps → AllOf sides qs → AllOf sides (ps ++ qs)
all_both sides [] qs first second k d lt = second k d lt
all_both sides (p ∷ ps) qs first second zero d lt = first zero d (omega arith)
all_both sides (p ∷ ps) qs first second (suc k) d lt = all_both sides ps qs (λ n e n_lt. first (suc n) e (omega arith)) second k d (omega arith)

pub all_places : (net : Net) (sides : List ℕ) → AllOf sides (places_in net sides)
all_places net sides =
    all_both sides (map Class (filter (leads_at net) sides)) (map Class sides ++ map Row sides)
    (all_classes sides (filter (leads_at net) sides) (λ s h. (among_filter (leads_at net) sides s h).1))
    (all_both sides (map Class sides) (map Row sides) (all_classes sides sides (λ s h. h)) (all_rows sides sides (λ s h. h)))
