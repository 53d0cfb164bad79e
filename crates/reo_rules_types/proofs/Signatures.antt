-- The connectors before a place, by number.
use Rattle.std.proofs.Common.{arith, ◌≡◌, ◌∙◌, ℕ, ◌≤◌, zero, suc, inl, inr, List, [], ◌∷◌, ◌++◌, length, Bool, true, false, cond, map, None, Some, find, position, nat_lt, slice_get, refl, sym, ap, subst, bytes_eq}
use Rattle.std.specs.Prelude.{◌||◌}
use Rattle.std.specs.List.{list_any, zip, position_or_len}
use Rattle.std.specs.Option.{option_map_or}
use Rattle.std.proofs.lemmas.Bool.Decides.{nat_tests}
use Rattle.std.proofs.lemmas.List.{append-nil}
use Rattle.std.proofs.lemmas.List.Folds.{find_at}
use Rattle.std.proofs.lemmas.Option.{same_Some, cond_some, slice_get_past, slice_get_cases}
use Rattle.reo_values.specs.declared.kindred.Kindred.{Kindred}
use Rattle.reo_trees.specs.declared.types.TypeTerm.{TypeTerm}
use Rattle.reo_trees.specs.declared.programs.Connector.{Connector}
use Rattle.reo_trees.specs.declared.programs.Declaration.{Declaration}
use Rattle.reo_trees.specs.declared.programs.Declaration.TheVariants as declarations
use Rattle.reo_rules.specs.Types.{Typed, resolved, types_of}
use Rattle.reo_rules.specs.Scopes.{connectors_of, connectors_in, parameters_named}
use Rattle.reo_rules_types.proofs.AfterLemmas.{flat_map-append}
use Rattle.reo_rules.proofs.Mapped.{position-map}
use Rattle.reo_rules_types.proofs.Declared.{types_after-append}
use Rattle.reo_rules_types.specs.Cells.{Keeps}
use Rattle.reo_rules_types.specs.Signed.{AreOf, parameter_types}
use Rattle.reo_rules_types.specs.Stands.{AreSettled, AreSigned}
use Rattle.reo_rules_types.proofs.Signed.{of_kept}
use Rattle.reo_rules_types.proofs.Settled.{all_settled_more, types_settled}

module _ (cs : List Connector) (names : List (List ℕ)) (name : List ℕ) (are : names ≡ map (λ (c : Connector). c.name) cs) where
  test : Connector → Bool
  test c = bytes_eq name c.name

  number : position (bytes_eq name) names ≡ position (λ (c : Connector). bytes_eq name c.name) cs
  number = ap (position (bytes_eq name)) are ∙ position-map (λ (c : Connector). c.name) (bytes_eq name) cs

  -- The connector with the number of a name.
  pub connector_at : (n : ℕ) → position (bytes_eq name) names ≡ Some n → (c : Connector) × (slice_get cs n ≡ Some c) × (parameters_named cs name ≡ c.parameters)
  connector_at n is =
      let there = cond_some _ _ n (sym number ∙ is) in
      let at : find (λ (c : Connector). bytes_eq name c.name) cs ≡ slice_get cs n = find_at (λ (c : Connector). bytes_eq name c.name) cs ∙ ap (slice_get cs) there.1 in
      elim (slice_get_cases cs n).1 [
        | inl w ↦ (w.0, w.2, ap (λ o. option_map_or (λ (c : Connector). c.parameters) o []) (at ∙ w.2))
        | inr w ↦ absurd (past there.0 there.1 w.0)
      ]
    where
      past : nat_lt (position_or_len (λ (c : Connector). bytes_eq name c.name) cs) (length cs) ≡ true → position_or_len (λ (c : Connector). bytes_eq name c.name) cs ≡ n → length cs ≤ n → ⊥
      past below same above = absurd (grind (arith, nat_tests))

  -- A name without a number is that of no connector.
  pub connector_none : position (bytes_eq name) names ≡ None → parameters_named cs name ≡ []
  connector_none is = ap (λ o. option_map_or (λ (c : Connector). c.parameters) o []) (find_at (λ (c : Connector). bytes_eq name c.name) cs ∙ slice_get_past cs _ (above _ _ (sym number ∙ is)))
    where
      above : (m n : ℕ) → cond (nat_lt m n) (Some m) None ≡ None → n ≤ m
      above m n e = by (nat_lt m n) refl e
        where
          by : (b : Bool) → nat_lt m n ≡ b → cond b (Some m) None ≡ None → n ≤ m
          by true p h = absurd (cc)
          by false p h = grind (arith, nat_tests)

-- The numbers of a connector's parameters.
pub signed_at : (types : List Kindred) (known : List Typed) (ss : List (List ℕ)) (cs : List Connector) (n : ℕ) (c : Connector) → AreSigned types known ss cs → slice_get cs n ≡ Some c
    → (s : List ℕ) × (slice_get ss n ≡ Some s) × AreOf types s (parameter_types known c)
signed_at types known [] [] n c are at = absurd (cc)
signed_at types known [] (d ∷ ds) n c are at = absurd are
signed_at types known (s ∷ ss) [] n c are at = absurd are
signed_at types known (s ∷ ss) (d ∷ ds) zero c are at = (s, refl, subst (λ (e : Connector). AreOf types s (parameter_types known e)) (same_Some d c at) are.0)
signed_at types known (s ∷ ss) (d ∷ ds) (suc n) c are at = signed_at types known ss ds n c are.2 at

-- Pairs with what the right sides stand for.
pub zip-map : {X Y Z : Type 0} (g : Y → Z) (f : X × Z → Bool) (xs : List X) (ys : List Y) → list_any f (zip xs (map g ys)) ≡ list_any (λ (q : X × Y). f (q.0, g q.1)) (zip xs ys)
zip-map g f [] ys = refl
zip-map g f (x ∷ xs) [] = refl
zip-map g f (x ∷ xs) (y ∷ ys) = ap (λ b. f (x, g y) || b) (zip-map g f xs ys)

pub zip_nil : {X Y : Type 0} (f : X × Y → Bool) (xs : List X) → list_any f (zip xs []) ≡ false
zip_nil f [] = refl
zip_nil f (x ∷ xs) = refl

-- Signatures stay right where there are more types, more declared types and more connectors.
pub signed_kept : (old new : List Kindred) → Keeps old new → (known : List Typed) (ss : List (List ℕ)) (cs : List Connector) → AreSigned old known ss cs → AreSigned new known ss cs
signed_kept old new keeps known [] [] are = tt
signed_kept old new keeps known [] (c ∷ cs) are = absurd are
signed_kept old new keeps known (s ∷ ss) [] are = absurd are
signed_kept old new keeps known (s ∷ ss) (c ∷ cs) are = (of_kept old new keeps s (parameter_types known c) are.0, are.1, signed_kept old new keeps known ss cs are.2)

pub signed_more : (types : List Kindred) (known more : List Typed) (ss : List (List ℕ)) (cs : List Connector) → AreSigned types known ss cs → AreSigned types (known ++ more) ss cs
signed_more types known more [] [] are = tt
signed_more types known more [] (c ∷ cs) are = absurd are
signed_more types known more (s ∷ ss) [] are = absurd are
signed_more types known more (s ∷ ss) (c ∷ cs) are = (
  subst (AreOf types s) (sym (types_settled known more c.parameters are.1)) are.0,
  all_settled_more known more c.parameters are.1,
  signed_more types known more ss cs are.2,
)

pub signed_push : (types : List Kindred) (known : List Typed) (ss : List (List ℕ)) (cs : List Connector) (s : List ℕ) (c : Connector) → AreSigned types known ss cs → AreOf types s (parameter_types known c) → AreSettled known c.parameters
    → AreSigned types known (ss ++ s ∷ []) (cs ++ c ∷ [])
signed_push types known [] [] s c are here settled = (here, settled, tt)
signed_push types known [] (d ∷ ds) s c are here settled = absurd are
signed_push types known (t ∷ ts) [] s c are here settled = absurd are
signed_push types known (t ∷ ts) (d ∷ ds) s c are here settled = (are.0, are.1, signed_push types known ts ds s c are.2 here settled)

-- The types and connectors behind one more declaration.

pub types_named : (ds : List Declaration) (line : ℕ) (name : List ℕ) (term : TypeTerm) → types_of (ds ++ declarations.Named line name term ∷ []) ≡ types_of ds ++ record { name = name; kindred = resolved (types_of ds) term.shape } ∷ []
types_named ds line name term = types_after-append [] ds (declarations.Named line name term ∷ [])

pub types_made : (ds : List Declaration) (c : Connector) → types_of (ds ++ declarations.Made c ∷ []) ≡ types_of ds
types_made ds c = types_after-append [] ds (declarations.Made c ∷ [])

pub connectors_named : (ds : List Declaration) (line : ℕ) (name : List ℕ) (term : TypeTerm) → connectors_of (ds ++ declarations.Named line name term ∷ []) ≡ connectors_of ds
connectors_named ds line name term = flat_map-append connectors_in ds (declarations.Named line name term ∷ []) ∙ append-nil (connectors_of ds)

pub connectors_made : (ds : List Declaration) (c : Connector) → connectors_of (ds ++ declarations.Made c ∷ []) ≡ connectors_of ds ++ c ∷ []
connectors_made ds c = flat_map-append connectors_in ds (declarations.Made c ∷ [])
