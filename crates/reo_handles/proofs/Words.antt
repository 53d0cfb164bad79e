-- Words by their types. Assumes nothing.
use Rattle.std.proofs.Common.{◌≡◌, List, [], ◌∷◌, refl}
use mathlib.Core.Bool.{Bool, true, false, ◌&&◌}
use lib.Dec.{T}
use mir.Syntax.{Ty}
use mir.Val.{Val, vstruct, vcons, vnil, has_ty, WT}
use denote.Laws.{Typed}

-- A word that is stored where a type is wanted.
abbrev pub Suits : Ty → Val → Type 0
Suits τ v = T (has_ty τ v) × WT v

-- The words of one type are one word, and it suits.
pub record Sole (τ : Ty) (vs : List Val) : Type 0 where
  pub word : Val
  pub is : vs ≡ word ∷ []
  pub suits : Suits τ word

pub sole : (τ : Ty) (vs : List Val) → Typed (τ ∷ []) vs → Sole τ vs
sole τ [] t = absurd t
sole τ (v ∷ []) t = record { word = v; is = refl; suits = t.0 }
sole τ (v ∷ u ∷ vs) t = absurd t.1

-- A struct of one word.
pub in_struct : (τ : Ty) (w : Val) → Suits τ w → T (has_ty τ w && true) × WT (vstruct (vcons w vnil))
in_struct τ w s = (kept (has_ty τ w) s.0, (s.1, tt))
  where
    kept : (b : Bool) → T b → T (b && true)
    kept true t = tt
    kept false t = absurd t
