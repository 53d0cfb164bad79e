-- The units of an index, one after another.
use Rattle.std.proofs.Common.{arith, ◌≡◌, ◌∙◌, ◌⊎◌, ◌+◌, ◌<◌, ◌++◌, ◌∷◌, [], ℕ, ℤ, pos, ◌+ℤ◌, List, map, take, drop, length, get_or, ap, sym, inl, inr}
use Rattle.std.specs.List.{flat_map}
use Rattle.std.proofs.lemmas.Int.{ints}
use Rattle.std.proofs.lemmas.List.{take_more}
use Rattle.reo_trees.specs.declared.indexes.SignedUnit.{SignedUnit}
use Rattle.reo_expand.specs.declared.base.bound.Bound.{Bound}
use Rattle.reo_expand.specs.declared.base.fault.ExpandFault.{ExpandFault}
use Rattle.reo_expand.specs.declared.base.fault.ExpandFault.TheVariants as faults
use Rattle.reo_expand.specs.base.Indexed.{signed, unit_value, units_value, unbound_unit}
use Rattle.reo_expand.specs.base.Steps.{Step}
use Rattle.reo_expand.specs.base.Steps.Step.{refused}
use Rattle.reo_expand.specs.base.Judged.{IsHalted}
use Rattle.reo_expand.proofs.base.Turning.{whole_at}

sum_zero : (z : ℤ) → z ≡ z +ℤ pos 0
sum_zero z = omega (arith, ints)

zero_sum : (z : ℤ) → z ≡ pos 0 +ℤ z
zero_sum z = omega (arith, ints)

sum_sum : (x y z : ℤ) → x +ℤ (y +ℤ z) ≡ (x +ℤ y) +ℤ z
sum_sum x y z = omega (arith, ints)

module _ (bound : List Bound) where
  abbrev pub value_in : SignedUnit → ℤ
  value_in u = signed u.minus (unit_value bound u.unit)

  units-append : (us vs : List SignedUnit) → units_value bound (us ++ vs) ≡ units_value bound us +ℤ units_value bound vs
  units-append [] vs = zero_sum (units_value bound vs)
  units-append (u ∷ us) vs = ap (λ z. value_in u +ℤ z) (units-append us vs) ∙ sum_sum (value_in u) (units_value bound us) (units_value bound vs)

  pub units_more : (us : List SignedUnit) (i : ℕ) (u : SignedUnit) → i < length us → u ≡ get_or us i u
      → units_value bound (take (i + 1) us) ≡ units_value bound (take i us) +ℤ value_in u
  units_more us i u h is =
      ap (units_value bound) (take_more us i u h)
      ∙ units-append (take i us) (get_or us i u ∷ [])
      ∙ ap (λ z. units_value bound (take i us) +ℤ z) (sym (sum_zero (value_in (get_or us i u))))
      ∙ ap (λ v. units_value bound (take i us) +ℤ value_in v) (sym is)

  abbrev names_in : List SignedUnit → List (List ℕ)
  names_in us = flat_map (λ (u : SignedUnit). unbound_unit bound u.unit) us

  pub unit_halted : (line : ℕ) (us : List SignedUnit) (i : ℕ) (u : SignedUnit) (f : ExpandFault) → i < length us → u ≡ get_or us i u → names_in (take i us) ≡ []
      → (f ≡ faults.NoMemory) ⊎ ((name : List ℕ) × (unbound_unit bound u.unit ≡ name ∷ []) × (f ≡ faults.Unbound line name))
      → IsHalted (map (λ n. refused (faults.Unbound line n)) (names_in us)) f
  unit_halted line us i u f h is known (inl memory) = inl memory
  unit_halted line us i u f h is known (inr (name, at, fault)) =
      let rest = names_in (drop (i + 1) us) in
      let names : names_in us ≡ name ∷ rest =
      whole_at (λ (v : SignedUnit). unbound_unit bound v.unit) us i u h is
      ∙ ap (λ l. (l ++ unbound_unit bound u.unit) ++ rest) known
      ∙ ap (λ l. l ++ rest) at in
      let R : List (List ℕ) → List Step = λ ns. map (λ n. refused (faults.Unbound line n)) ns in
      inr (R rest, ap R names ∙ ap (λ g. refused g ∷ R rest) (sym fault))
