-- Values that stand beside names.
use Rattle.std.specs.Prelude.{ℕ, cond, List, ◌∷◌, bytes_eq}

-- The value beside the first of these names that is this one; this default where none is.
abbrev pub value_at : {V : Type 0} → V → List (List ℕ) → List V → List ℕ → V
value_at none (n ∷ names) (v ∷ values) name = cond (bytes_eq name n) v (value_at none names values name)
value_at none names values name = none
