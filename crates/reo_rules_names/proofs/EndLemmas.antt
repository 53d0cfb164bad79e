-- Ends that are put into a table one after another.
use Rattle.std.proofs.Common.{◌≡◌, ◌∙◌, ℕ, List, [], ◌∷◌, ◌++◌, map, Bool, true, false, not, ◌||◌, ◌&&◌, ◌⊎◌, inl, inr, refl, sym, ap, bytes_eq}
use Rattle.std.proofs.Math.Bool.{or-false}
use Rattle.std.specs.List.{list_any, zip}
use Rattle.std.proofs.lemmas.List.Folds.{list_any-append}
use Rattle.reo_trees.specs.declared.programs.Parameter.{Parameter}
use Rattle.reo_rules.specs.Lists.{has_name}
use Rattle.reo_rules.specs.Names.{with_name}
use Rattle.reo_trees.specs.declared.items.ItemForm.TheVariants as forms
use Rattle.reo_trees.specs.declared.programs.Connector.{Connector}
use Rattle.reo_rules.specs.Scopes.{parameters_named}
use Rattle.reo_rules.specs.Touches.{Touch, touch, touches_in, is_touched, bool_eq}
use Rattle.reo_rules.specs.Direction.{goes_against}
use Rattle.reo_rules.proofs.Mapped.{list_any-map}
use Rattle.reo_rules_names.specs.declared.ends.EndsAtNames.{EndsAtNames}
use Rattle.reo_rules_names.specs.EndsAtNames.{AreEnds}
use Rattle.reo_rules_names.proofs.SameLemmas.{has_name-with}

-- Whether there is an end of a way at a name, after one more end.
is_touched-push : (ts : List Touch) (at name : List ℕ) (way is_source : Bool) → is_touched (ts ++ touch at way ∷ []) name is_source ≡ (is_touched ts name is_source || (bytes_eq name at && bool_eq way is_source))
is_touched-push ts at name way is_source =
    list_any-append (λ (t : Touch). bytes_eq name t.name && bool_eq t.is_source is_source) ts (touch at way ∷ [])
    ∙ ap (λ b. is_touched ts name is_source || b) (or-false (bytes_eq name at && bool_eq way is_source))

-- The names after one more, of which the test is that of an end of the right way.
noted : (xs : List (List ℕ)) (ts : List Touch) (at name : List ℕ) (is_source : Bool) → has_name xs name ≡ is_touched ts name is_source → has_name (with_name xs at) name ≡ is_touched (ts ++ touch at is_source ∷ []) name is_source
noted xs ts at name is_source same =
    has_name-with xs at name ∙ list_any-append (bytes_eq name) xs (at ∷ []) ∙ ap (λ b. b || (bytes_eq name at || false)) same
    ∙ ap (λ b. is_touched ts name is_source || b) (or-false (bytes_eq name at) ∙ sym (right_way is_source (bytes_eq name at))) ∙ sym (is_touched-push ts at name is_source is_source) where
      right_way : (way b : Bool) → (b && bool_eq way way) ≡ b
      right_way true true = refl
      right_way true false = refl
      right_way false true = refl
      right_way false false = refl

-- An end of the other way changes nothing.
kept : (ts : List Touch) (at name : List ℕ) (is_source : Bool) → is_touched (ts ++ touch at (not is_source) ∷ []) name is_source ≡ is_touched ts name is_source
kept ts at name is_source =
    is_touched-push ts at name (not is_source) is_source ∙ ap (λ b. is_touched ts name is_source || b) (other_way is_source (bytes_eq name at)) ∙ or-false (is_touched ts name is_source) where
      other_way : (way b : Bool) → (b && bool_eq (not way) way) ≡ false
      other_way true true = refl
      other_way true false = refl
      other_way false true = refl
      other_way false false = refl

-- A table after one more source end, and after one more sink end.
pub source_noted : (t : EndsAtNames) (ts : List Touch) (at : List ℕ) (names : List (List ℕ)) → AreEnds ts t → names ≡ with_name t.sources at → AreEnds (ts ++ touch at true ∷ []) (record { sources = names; sinks = t.sinks })
source_noted t ts at names are is name true = ap (λ xs. has_name xs name) is ∙ noted t.sources ts at name true (are name true)
source_noted t ts at names are is name false = are name false ∙ sym (kept ts at name false)

pub sink_noted : (t : EndsAtNames) (ts : List Touch) (at : List ℕ) (names : List (List ℕ)) → AreEnds ts t → names ≡ with_name t.sinks at → AreEnds (ts ++ touch at false ∷ []) (record { sources = t.sources; sinks = names })
sink_noted t ts at names are is name true = are name true ∙ sym (kept ts at name true)
sink_noted t ts at names are is name false = ap (λ xs. has_name xs name) is ∙ noted t.sinks ts at name false (are name false)

-- An end goes against a parameter exactly where it is the end that is closed there.
pub closed_there : (ps : List Parameter) (name : List ℕ) (is_source : Bool) → is_touched (map (λ (p : Parameter). touch p.name (not p.inward)) ps) name is_source ≡ list_any (goes_against (touch name is_source)) ps
closed_there ps name is_source =
    list_any-map (λ (p : Parameter). touch p.name (not p.inward)) (λ (t : Touch). bytes_eq name t.name && bool_eq t.is_source is_source) ps ∙ (λ i. list_any (λ (p : Parameter). bytes_eq name p.name && turned p.inward is_source i) ps) where
      turned : (inward way : Bool) → bool_eq (not inward) way ≡ not (bool_eq inward way)
      turned true true = refl
      turned true false = refl
      turned false true = refl
      turned false false = refl

-- The ends of arguments, by the ways of the parameters alone.
ways_zip : (arguments : List (List ℕ)) (ps : List Parameter) → map (λ (q : List ℕ × Bool). touch q.0 q.1) (zip arguments (map (λ (p : Parameter). p.inward) ps)) ≡ map (λ (q : List ℕ × Parameter). touch q.0 q.1.inward) (zip arguments ps)
ways_zip [] ps = refl
ways_zip (a ∷ arguments) [] = refl
ways_zip (a ∷ arguments) (p ∷ ps) = ap (λ ts. touch a p.inward ∷ ts) (ways_zip arguments ps)

-- Where one of two lists is over, no pair is left.
pub zip_over : {A B : Type 0} (xs : List A) (ys : List B) → (xs ≡ []) ⊎ (ys ≡ []) → zip xs ys ≡ []
zip_over xs ys (inl none) = ap (λ zs. zip zs ys) none
zip_over xs ys (inr none) = ap (zip xs) none ∙ over xs where
  over : {A B : Type 0} (zs : List A) → zip {K = A} {X = B} zs [] ≡ []
  over [] = refl
  over (z ∷ zs) = refl

-- The ends of a use, by the ways of its connector's parameters.
pub used_touches : (known : List Connector) (name : List ℕ) (arguments : List (List ℕ)) (ways : List Bool) → ways ≡ map (λ (p : Parameter). p.inward) (parameters_named known name)
    → map (λ (q : List ℕ × Bool). touch q.0 q.1) (zip arguments ways) ≡ touches_in known (forms.Used name arguments)
used_touches known name arguments ways is =
    ap (λ ws. map (λ (q : List ℕ × Bool). touch q.0 q.1) (zip arguments ws)) is ∙ ways_zip arguments (parameters_named known name)
