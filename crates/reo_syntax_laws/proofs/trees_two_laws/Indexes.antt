-- Indexes and names with a place in texts of version 2.
use Rattle.std.proofs.Common.{arith, ◌≤◌, ℕ, zero, suc, List, [], ◌∷◌, length, refl}
use Rattle.std.specs.List.{All}
use Rattle.reo_trees.specs.declared.indexes.SignedUnit.{SignedUnit}
use Rattle.reo_trees.specs.declared.indexes.IndexUnit.{IndexUnit}
use Rattle.reo_trees.specs.Indexes.{unit_form, further_unit, further_units, index_form, place_form, placed_form, ref_form, unsigned}
use Rattle.reo_syntax_laws.proofs.Seen.{World, see-then}
use Rattle.reo_syntax_laws.specs.trees_laws.Spelled.{IsFreeName}
use Rattle.reo_syntax_laws.specs.trees_laws.SpelledTwo.{IsSpelledUnit, IsSpelledIndex, IsSpelledPlace, IsSpelledRef}
use Rattle.reo_syntax_laws.proofs.trees_laws.Lists.{all-none, all-cons}
use Rattle.reo_syntax_laws.proofs.trees_laws.Has.{Has, any, has-both, has-left, has-right, has-made, has-either, has-nothing, has-name, has-number}

abbrev IsSpelledSigned : SignedUnit → Type 0
IsSpelledSigned v = IsSpelledUnit v.unit

-- At most so many units.
abbrev Few : ℕ → List SignedUnit → Type 0
Few n us = (length us ≤ n) × All IsSpelledSigned us

few_none : (n : ℕ) → Few n []
few_none n = (omega arith, all-none IsSpelledSigned)

few_more : (n : ℕ) (u : SignedUnit) (us : List SignedUnit) → IsSpelledSigned u → Few n us → Few (suc n) (u ∷ us)
few_more n u us here few = let shorter = few.0 in (omega arith, all-cons IsSpelledSigned u us here few.1)

index_units : (u : IndexUnit) (us : List SignedUnit) → IsSpelledUnit u → Few 7 us → IsSpelledIndex (record { units = unsigned u ∷ us })
index_units u us here few = (refl, few.0, all-cons IsSpelledSigned (unsigned u) us here few.1)

module _ {w : World} where
  has-unit : Has w unit_form IsSpelledUnit
  has-unit = has-either IsSpelledUnit (has-made IsSpelledUnit (see-then (has-number 0 1000000000) (λ ts n h. h.1))) (has-made IsSpelledUnit has-name)

  has-further : Has w further_unit IsSpelledSigned
  has-further = has-both (λ m. Unit {0}) IsSpelledUnit IsSpelledSigned any has-unit (λ m u p q. q)

  has-further_units : (n : ℕ) → Has w (further_units n) (Few n)
  has-further_units zero = has-nothing (Few zero) (few_none zero)
  has-further_units (suc n) = has-either (Few (suc n)) (has-both IsSpelledSigned (Few n) (Few (suc n)) has-further (has-further_units n) (few_more n)) (has-nothing (Few (suc n)) (few_none (suc n)))

  pub has-index : Has w index_form IsSpelledIndex
  has-index = has-both IsSpelledUnit (Few 7) IsSpelledIndex has-unit (has-further_units 7) index_units

  has-place : Has w place_form IsSpelledIndex
  has-place = has-either IsSpelledIndex (has-right IsSpelledIndex (has-left IsSpelledIndex has-index)) (has-made IsSpelledIndex (see-then has-unit (λ ts u h. index_units u [] h (few_none 7))))

  has-placed : Has w placed_form IsSpelledPlace
  has-placed = has-either IsSpelledPlace (has-made IsSpelledPlace (has-right IsSpelledIndex has-place)) (has-nothing IsSpelledPlace tt)

  pub has-ref : Has w ref_form IsSpelledRef
  has-ref = has-both IsFreeName IsSpelledPlace IsSpelledRef has-name has-placed (λ n p a b. (a, b))
