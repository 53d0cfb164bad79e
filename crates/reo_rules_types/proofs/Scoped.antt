-- Names with numbers.
use Rattle.std.proofs.Common.{arith, ◌≡◌, ◌∙◌, ℕ, ◌<◌, ◌≤◌, List, [], ◌∷◌, ◌++◌, length, map, Bool, true, false, cond, Option, None, Some, find, slice_get, refl, sym, ap, bytes_eq}
use Rattle.std.specs.Prelude.{option_map, unwrap_or}
use Rattle.std.specs.Map.{lookup, keys_of}
use Rattle.std.proofs.lemmas.List.{map-append}
use Rattle.reo_values.specs.declared.kindred.Kindred.{Kindred}
use Rattle.reo_values.specs.declared.kindred.Kindred.TheVariants as kinds
use Rattle.reo_rules.specs.Types.{Typed, type_named, names_of}
use Rattle.reo_rules_types.specs.Cells.{type_at, Keeps}
use Rattle.reo_rules_types.specs.Scoped.{number_named, typed, AreBelow, AreKnown}
use Rattle.reo_rules_types.proofs.Kept.{at_told, at_there, at_within, kept_at, kept_below}

-- A search in entries whose keys are seen through a function.
pub lookup-map : {K L X : Type 0} (f : K → L) (p : L → Bool) (es : List (K × X)) → lookup p (map (λ (e : K × X). (f e.0, e.1)) es) ≡ lookup (λ k. p (f k)) es
lookup-map f p [] = refl
lookup-map f p (e ∷ es) = ap (λ o. cond (p (f e.0)) (Some e.1) o) (lookup-map f p es)

module _ (types : List Kindred) (name : List ℕ) where
  chosen : (b : Bool) (e : List ℕ × ℕ) (o : Option Typed) (p : Option ℕ) → option_map (λ (t : Typed). t.kindred) o ≡ option_map (type_at types) p
      → option_map (λ (t : Typed). t.kindred) (cond b (Some (record { name = e.0; kindred = type_at types e.1 })) o) ≡ option_map (type_at types) (cond b (Some e.1) p)
  chosen true e o p is = refl
  chosen false e o p is = is

  found_typed : (es : List (List ℕ × ℕ)) → option_map (λ (t : Typed). t.kindred) (find (λ (t : Typed). bytes_eq name t.name) (typed types es)) ≡ option_map (type_at types) (lookup (bytes_eq name) es)
  found_typed [] = refl
  found_typed (e ∷ es) = chosen (bytes_eq name e.0) e _ _ (found_typed es)

  or_unit : (o : Option ℕ) → slice_get types 0 ≡ Some kinds.Unit → unwrap_or (option_map (type_at types) o) kinds.Unit ≡ type_at types (unwrap_or o 0)
  or_unit None unit = sym (at_told types 0 kinds.Unit unit)
  or_unit (Some n) unit = refl

  -- The type of a name is that of its number.
  pub named_is : (es : List (List ℕ × ℕ)) → AreKnown types es → type_named (typed types es) name ≡ type_at types (number_named es name)
  named_is es known = ap (λ o. unwrap_or o kinds.Unit) (found_typed es) ∙ or_unit (lookup (bytes_eq name) es) known.unit

  below_if : (n : ℕ) (b : Bool) (m : ℕ) (o : Option ℕ) → m < n → unwrap_or o 0 < n → unwrap_or (cond b (Some m) o) 0 < n
  below_if n true m o p q = p
  below_if n false m o p q = q

  below_named : (n : ℕ) → 0 < n → (es : List (List ℕ × ℕ)) → AreBelow n es → number_named es name < n
  below_named n some [] all = some
  below_named n some (e ∷ es) all = below_if n (bytes_eq name e.0) e.1 (lookup (bytes_eq name) es) all.0 (below_named n some es all.1)

  -- And the number is one of a type.
  pub named_below : (es : List (List ℕ × ℕ)) → AreKnown types es → number_named es name < length types
  named_below es known = below_named (length types) (at_within types 0 kinds.Unit known.unit) es known.below

  pub named_there : (es : List (List ℕ × ℕ)) → AreKnown types es → slice_get types (number_named es name) ≡ Some (type_named (typed types es) name)
  named_there es known = at_there types (number_named es name) (named_below es known) ∙ ap Some (sym (named_is es known))

below_more : (m n : ℕ) → m ≤ n → (es : List (List ℕ × ℕ)) → AreBelow m es → AreBelow n es
below_more m n le [] all = tt
below_more m n le (e ∷ es) all = (omega (arith, all.0), below_more m n le es all.1)

module _ (old new : List Kindred) (keeps : Keeps old new) where
  below_kept : (es : List (List ℕ × ℕ)) → AreBelow (length old) es → AreBelow (length new) es
  below_kept [] all = tt
  below_kept (e ∷ es) all = (kept_below old new keeps e.1 all.0, below_kept es all.1)

  -- Numbers stay those of types.
  pub known_kept : (es : List (List ℕ × ℕ)) → AreKnown old es → AreKnown new es
  known_kept es known = record { unit = keeps 0 kinds.Unit known.unit; below = below_kept es known.below }

  typed_below : (es : List (List ℕ × ℕ)) → AreBelow (length old) es → typed new es ≡ typed old es
  typed_below [] all = refl
  typed_below (e ∷ es) all = λ i. record { name = e.0; kindred = kept_at old new keeps e.1 all.0 i } ∷ typed_below es all.1 i

  -- And of the same ones.
  pub typed_kept : (es : List (List ℕ × ℕ)) → AreKnown old es → typed new es ≡ typed old es
  typed_kept es known = typed_below es known.below

below_push : (n : ℕ) (es : List (List ℕ × ℕ)) (e : List ℕ × ℕ) → AreBelow n es → e.1 < n → AreBelow n (es ++ e ∷ [])
below_push n [] e all here = (here, tt)
below_push n (x ∷ xs) e all here = (all.0, below_push n xs e all.1 here)

-- One more name.
pub known_push : (types : List Kindred) (es : List (List ℕ × ℕ)) (e : List ℕ × ℕ) → AreKnown types es → e.1 < length types → AreKnown types (es ++ e ∷ [])
known_push types es e known here = record { unit = known.unit; below = below_push (length types) es e known.below here }

pub typed_push : (types : List Kindred) (es : List (List ℕ × ℕ)) (name : List ℕ) (n : ℕ) (k : Kindred) → slice_get types n ≡ Some k → typed types (es ++ (name, n) ∷ []) ≡ typed types es ++ record { name = name; kindred = k } ∷ []
typed_push types es name n k is =
    map-append (λ (e : List ℕ × ℕ). record { name = e.0; kindred = type_at types e.1 }) es ((name, n) ∷ [])
    ∙ ap (λ t. typed types es ++ record { name = name; kindred = t } ∷ []) (at_told types n k is)

pub names_typed : (types : List Kindred) (es : List (List ℕ × ℕ)) → names_of (typed types es) ≡ keys_of es
names_typed types [] = refl
names_typed types (e ∷ es) = ap (λ ns. e.0 ∷ ns) (names_typed types es)
