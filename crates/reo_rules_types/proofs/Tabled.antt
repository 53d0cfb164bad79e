-- A table of types, and one more type in it.
use Rattle.std.proofs.Common.{arith, ◌≡◌, ◌∙◌, ℕ, ◌+◌, ◌<◌, ◌≤◌, zero, suc, inl, inr, Bool, true, false, cond, Option, Some, None, List, [], ◌∷◌, ◌++◌, length, get_or, slice_get, position, refl, sym, ap, subst, MatchOption}
use Rattle.std.specs.Prelude.{is_some, unwrap_or}
use Rattle.std.specs.Map.{keys_of, lookup}
use Rattle.std.proofs.lemmas.List.{map-append, length_push, get_or_append_left, get_or-map, length-map}
use Rattle.std.proofs.lemmas.List.Quantifiers.{position-Some}
use Rattle.std.proofs.lemmas.Option.{same_Some, slice_get_within, slice_get-get_or}
use Rattle.reo_values.specs.declared.kindred.Kindred.{Kindred}
use Rattle.reo_values.specs.declared.kindred.Kindred.TheVariants as kinds
use Rattle.reo_exprs.specs.Kinds.{kind_of}
use Rattle.reo_rules.specs.Lists.{has_name}
use Rattle.reo_rules_types.specs.declared.cell.TypeParts.{TypeParts}
use Rattle.reo_rules_types.specs.declared.cell.TypeParts.TheVariants as cells
use Rattle.reo_rules_types.specs.declared.types.Facts.{Facts}
use Rattle.reo_rules_types.specs.Cells.{kindred_of, kindreds_of, leaf, is_symbol, Fits}
use Rattle.reo_rules_types.specs.Table.{IsCell, AreCells}
use Rattle.reo_rules_types.proofs.Lists.{more_keeps, last_is, old_or_last, fold_push}
use Rattle.reo_rules_types.proofs.Told.{cell_eq, alike, told}

-- One more type.
pub types_push : (es : List (TypeParts × Facts)) (c : TypeParts) (f : Facts) → kindreds_of (keys_of (es ++ (c, f) ∷ [])) ≡ kindreds_of (keys_of es) ++ kindred_of (kindreds_of (keys_of es)) c ∷ []
types_push es c f =
    ap kindreds_of (map-append (λ (e : TypeParts × Facts). e.0) es ((c, f) ∷ [])) ∙ fold_push (λ types d. types ++ kindred_of types d ∷ []) [] (keys_of es) c

-- A cell means the same where there are more types.
kindred_kept : (xs ys : List Kindred) (c : TypeParts) → Fits (length xs) c → kindred_of (xs ++ ys) c ≡ kindred_of xs c
kindred_kept xs ys cells.Unit p = refl
kindred_kept xs ys cells.Bool p = refl
kindred_kept xs ys (cells.Int a b) p = refl
kindred_kept xs ys (cells.Sym names) p = refl
kindred_kept xs ys (cells.Text m) p = refl
kindred_kept xs ys (cells.Pair a b) p =
    λ i. kinds.Pair (record { left = get_or_append_left xs ys kinds.Unit a p.0 i; right = get_or_append_left xs ys kinds.Unit b p.1 i })

fits_more : (m n : ℕ) (c : TypeParts) → m ≤ n → Fits m c → Fits n c
fits_more m n cells.Unit le p = p
fits_more m n cells.Bool le p = p
fits_more m n (cells.Int a b) le p = p
fits_more m n (cells.Sym names) le p = p
fits_more m n (cells.Text t) le p = p
fits_more m n (cells.Pair a b) le p = (omega (arith, p.0), omega (arith, p.1))

-- No test holds of an entry, where none was found.
missed : {X : Type 0} (b : Bool) (v : X) (rest : Option X) → is_some (cond b (Some v) rest) ≡ false → (b ≡ false) × (is_some rest ≡ false)
missed false v rest none = (refl, none)
missed true v rest none = absurd (cc)

none_at : {K X : Type 0} (t : K → Bool) (es : List (K × X)) → is_some (lookup t es) ≡ false → (n : ℕ) (k : K) (x : X) → slice_get es n ≡ Some (k, x) → t k ≡ false
none_at t [] none n k x at = absurd (cc)
none_at t (e ∷ es) none zero k x at = sym (ap (λ p. t p.0) (same_Some e (k, x) at)) ∙ (missed (t e.0) e.1 (lookup t es) none).0
none_at t (e ∷ es) none (suc n) k x at = none_at t es (missed (t e.0) e.1 (lookup t es) none).1 n k x at

no_facts : Facts
no_facts = record { kind = 0; symbols = []; leaf = kinds.Unit }

module _ (types : List Kindred) (es : List (TypeParts × Facts)) (are : AreCells types es) where
  -- The cell with a number.
  pub some_cell : (n : ℕ) → n < length types → (c : TypeParts) × (f : Facts) × (slice_get es n ≡ Some (c, f)) × IsCell types n c f
  some_cell n below =
      let e = get_or es n (cells.Unit, no_facts) in
      let at = slice_get-get_or es n (cells.Unit, no_facts) (omega (arith, are.as_many)) in
      (e.0, e.1, at, are.each n e.0 e.1 at)

  -- The number of a cell that was found is that of its type.
  pub found : (c : TypeParts) (n : ℕ) → position (cell_eq c) (keys_of es) ≡ Some n → slice_get types n ≡ Some (kindred_of types c)
  found c n is =
      let at = position-Some (cell_eq c) (keys_of es) n c is in
      let d : TypeParts × Facts = (c, no_facts) in
      let e = get_or es n d in
      let below : n < length es = omega (arith, at.0, length-map es (λ (p : TypeParts × Facts). p.0)) in
      let here = are.each n e.0 e.1 (slice_get-get_or es n d below) in
      let same : cell_eq c e.0 ≡ true = ap (cell_eq c) (sym (get_or-map (λ (p : TypeParts × Facts). p.0) es n d c below)) ∙ at.1 in
      here.is ∙ ap Some (sym (alike types c e.0 same))

  -- The type of a cell that was not found is not there.
  pub not_there : (c : TypeParts) → Fits (length types) c → false ≡ is_some (lookup (cell_eq c) es) → (n : ℕ) → slice_get types n ≡ Some (kindred_of types c) → ⊥
  not_there c fits none n is =
      let below = slice_get_within types n (kindred_of types c) is in
      let cell = some_cell n below in
      let other = none_at (cell_eq c) es (sym none) n cell.0 cell.1 cell.2 in
      let within = fits_more n (length types) cell.0 (omega arith) cell.3.fits in
      let same = same_Some (kindred_of types c) (kindred_of types cell.0) (sym is ∙ cell.3.is) in
      let equal = told types are.once c cell.0 fits within same in
      absurd (cc)

  module _ (c : TypeParts) (f : Facts) (fits : Fits (length types) c) where
    abbrev k : Kindred
    k = kindred_of types c

    -- One more cell, whose type is not there.
    pub added : slice_get (types ++ k ∷ []) f.kind ≡ Some (kind_of k) → ((name : List ℕ) → has_name f.symbols name ≡ is_symbol k name) → f.leaf ≡ leaf k → ((n : ℕ) → slice_get types n ≡ Some k → ⊥) → AreCells (types ++ k ∷ []) (es ++ (c, f) ∷ [])
    added kind symbols own new = record { each = each; once = once; as_many = length_push types k ∙ ap (λ n. n + 1) are.as_many ∙ sym (length_push es (c, f)) }
      where
        same : kindred_of (types ++ k ∷ []) c ≡ k
        same = kindred_kept types (k ∷ []) c fits

        last : IsCell (types ++ k ∷ []) (length es) c f
        last = record {
          fits = subst (λ n. Fits n c) are.as_many fits;
          is = subst (λ n. slice_get (types ++ k ∷ []) n ≡ Some k) are.as_many (last_is types k) ∙ ap Some (sym same);
          kind = kind ∙ ap (λ t. Some (kind_of t)) (sym same);
          symbols = λ name. symbols name ∙ ap (λ t. is_symbol t name) (sym same);
          leaf = own ∙ ap leaf (sym same);
        }

        earlier : (n : ℕ) (d : TypeParts) (g : Facts) → n < length es → IsCell types n d g → IsCell (types ++ k ∷ []) n d g
        earlier n d g below is =
            let kept = kindred_kept types (k ∷ []) d (fits_more n (length types) d (omega (arith, are.as_many)) is.fits) in
            record {
              fits = is.fits;
              is = more_keeps types (k ∷ []) n _ is.is ∙ ap Some (sym kept);
              kind = more_keeps types (k ∷ []) g.kind _ is.kind ∙ ap (λ t. Some (kind_of t)) (sym kept);
              symbols = λ name. is.symbols name ∙ ap (λ t. is_symbol t name) (sym kept);
              leaf = is.leaf ∙ ap leaf (sym kept);
            }

        each : (n : ℕ) (d : TypeParts) (g : Facts) → slice_get (es ++ (c, f) ∷ []) n ≡ Some (d, g) → IsCell (types ++ k ∷ []) n d g
        each n d g at = elim (old_or_last es (c, f) n (d, g) at) [
          | inl w ↦ earlier n d g (slice_get_within es n (d, g) w) (are.each n d g w)
          | inr w ↦ subst (λ (p : ℕ × (TypeParts × Facts)). IsCell (types ++ k ∷ []) p.0 p.1.0 p.1.1) (λ i. (sym w.0 i, sym w.1 i)) last
        ]

        once : (m n : ℕ) (t : Kindred) → slice_get (types ++ k ∷ []) m ≡ Some t → slice_get (types ++ k ∷ []) n ≡ Some t → m ≡ n
        once m n t p q = elim (old_or_last types k m t p) [
          | inl v ↦ elim (old_or_last types k n t q) [ inl w ↦ are.once m n t v w | inr w ↦ absurd (new m (v ∙ ap Some w.1)) ]
          | inr v ↦ elim (old_or_last types k n t q) [ inl w ↦ absurd (new n (w ∙ ap Some v.1)) | inr w ↦ v.0 ∙ sym w.0 ]
        ]

-- The number of the kind of a new type.
pub kind_given : (types : List Kindred) (k : Kindred) (kind : Option ℕ) (v : ℕ) → MatchOption kind (kind_of k ≡ k) (λ n. slice_get types n ≡ Some (kind_of k)) → v ≡ unwrap_or kind (length types)
    → slice_get (types ++ k ∷ []) v ≡ Some (kind_of k)
kind_given types k None v own is = ap (slice_get (types ++ k ∷ [])) is ∙ last_is types k ∙ ap Some (sym own)
kind_given types k (Some n) v at is = ap (slice_get (types ++ k ∷ [])) is ∙ more_keeps types (k ∷ []) n (kind_of k) at
