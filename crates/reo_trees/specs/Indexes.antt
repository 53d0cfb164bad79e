-- Indexes, and names of nodes with a place, in texts of version 2.
use Rattle.std.specs.Prelude.{ℕ, zero, suc, Bool, true, false, Option, Some, None, List, [], ◌∷◌, codes}
use Rattle.reo_grammar.specs.Tokens.Class.{fixed, number}
use Rattle.reo_grammar.specs.Grammar.Grammar.{nothing, both, made, either}
use Rattle.reo_trees.specs.declared.indexes.Index.{Index}
use Rattle.reo_trees.specs.declared.indexes.SignedUnit.{SignedUnit}
use Rattle.reo_trees.specs.declared.indexes.IndexUnit.{IndexUnit}
use Rattle.reo_trees.specs.declared.indexes.IndexUnit.TheVariants as units
use Rattle.reo_trees.specs.declared.indexes.Ref.{Ref}
use Rattle.reo_trees.specs.Forms.{FormOf, word, word_as, name_form, number_form, ◌▸◌, ◌◂◌}
use Rattle.reo_trees.specs.Operators.{sums}

-- The greatest number in an index.
abbrev pub most_place : ℕ
most_place = 1000000000

-- NUMBER, which is at most 10^9, or NAME
abbrev pub unit_form : FormOf IndexUnit
unit_form = either (number 0 most_place) (made (λ n. units.Number n) (number_form 0 most_place)) (made (λ n. units.Name n) name_form)

abbrev pub unsigned : IndexUnit → SignedUnit
unsigned u = record { minus = false; unit = u }

-- "+" | "-"
abbrev pub sign_form : FormOf Bool
sign_form = either (fixed (codes "+")) (word_as false (codes "+")) (word_as true (codes "-"))

abbrev pub further_unit : FormOf SignedUnit
further_unit = both (λ m u. record { minus = m; unit = u }) sign_form unit_form

-- At most so many further units.
abbrev pub further_units : ℕ → FormOf (List SignedUnit)
further_units zero = nothing []
further_units (suc n) = either sums (both (λ u us. u ∷ us) further_unit (further_units n)) (nothing [])

-- unit { ( "+" | "-" ) unit }, of at most eight units
abbrev pub index_form : FormOf Index
index_form = both (λ u us. record { units = unsigned u ∷ us }) unit_form (further_units 7)

abbrev pub one_unit : IndexUnit → Index
one_unit u = record { units = unsigned u ∷ [] }

-- NUMBER | NAME | "(" index ")"
abbrev pub place_form : FormOf Index
place_form = either (fixed (codes "(")) (word (codes "(") ▸ index_form ◂ word (codes ")")) (made one_unit unit_form)

-- [ "." place ]
abbrev pub placed_form : FormOf (Option Index)
placed_form = either (fixed (codes ".")) (made (λ i. Some i) (word (codes ".") ▸ place_form)) (nothing None)

-- NAME [ "." place ]
abbrev pub ref_form : FormOf Ref
ref_form = both (λ n p. record { name = n; place = p }) name_form placed_form
