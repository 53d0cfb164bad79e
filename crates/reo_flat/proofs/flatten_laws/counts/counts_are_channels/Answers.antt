-- Item by item, and declaration by declaration.
use Rattle.std.proofs.Common.{◌≡◌, ◌∙◌, ℕ, ◌+◌, List, [], ◌∷◌, ◌++◌, length, Bool, true, false, cond, Some, find, refl, sym, bytes_eq, sum_by, map}
use Rattle.std.specs.Prelude.{unwrap_or}
use Rattle.std.specs.List.{AllByRecursion}
use Rattle.std.proofs.lemmas.List.Sums.{sum_by-cons}
use Rattle.std.proofs.lemmas.List.{length-append}
use Rattle.reo_trees.specs.declared.items.Item.{Item}
use Rattle.reo_trees.specs.declared.items.ItemForm.{ItemForm}
use Rattle.reo_trees.specs.declared.items.ItemForm.TheVariants as forms
use Rattle.reo_trees.specs.declared.programs.Declaration.{Declaration}
use Rattle.reo_trees.specs.declared.programs.Declaration.TheVariants as declarations
use Rattle.reo_rules.specs.Lists.{each_after}
use Rattle.reo_rules.specs.Types.{Typed}
use Rattle.reo_flat.specs.Unfolding.{Meaning, no_meaning, meaning_named, meaning_of, meanings_after, channels_in, placed_in}
use Rattle.reo_flat.proofs.flatten_laws.counts.counts_are_channels.Goals as goal

-- A connector places as many channels as are counted.
abbrev Counted : Meaning → Type 0
Counted m = (path : List ℕ) (arguments : List (List ℕ)) → length (m.channels path arguments) ≡ m.placed

named : (known : List Meaning) → AllByRecursion Counted known → (name : List ℕ) → Counted (meaning_named known name)
named [] all name = λ path arguments. refl
named (m ∷ ms) all name = step (bytes_eq name m.name) (named ms all.1 name) where
  step : (b : Bool) → Counted (meaning_named ms name) → Counted (unwrap_or (cond b (Some m) (find (λ (y : Meaning). bytes_eq name y.name) ms)) no_meaning)
  step true rest = all.0
  step false rest = rest

counted_after : {X Y : Type 0} (f : List X → X → List Y) (g : X → ℕ) → ((before : List X) (x : X) → length (f before x) ≡ g x) → (before xs : List X) → length (each_after f before xs) ≡ sum_by g xs
counted_after f g each before [] = refl
counted_after f g each before (x ∷ xs) =
    length-append (f before x) _ ∙ (λ i. each before x i + counted_after f g each (before ++ x ∷ []) xs i) ∙ sym (sum_by-cons g x xs)

one : (known : List Meaning) → AllByRecursion Counted known → (types scope : List Typed) (path : List ℕ) (flat : List ℕ → List ℕ) (before : List Item) (f : ItemForm) → length (channels_in known types scope path flat before f) ≡ placed_in known f
one known all types scope path flat before (forms.Node name term) = refl
one known all types scope path flat before (forms.Joined channel first second) = refl
one known all types scope path flat before (forms.Used name arguments) = named known all name _ (map flat arguments)

grown : (known : List Meaning) (m : Meaning) → AllByRecursion Counted known → Counted m → AllByRecursion Counted (known ++ m ∷ [])
grown [] m all here = (here, tt)
grown (k ∷ ks) m all here = (all.0, grown ks m all.1 here)

counted : (known : List Meaning) (types : List Typed) (ds : List Declaration) → AllByRecursion Counted known → AllByRecursion Counted (meanings_after known types ds)
counted known types [] all = all
counted known types (declarations.Named line name term ∷ ds) all = counted known _ ds all
counted known types (declarations.Made c ∷ ds) all =
    counted (known ++ meaning_of known types c ∷ []) types ds
    (grown known (meaning_of known types c) all (λ path arguments. counted_after _ (λ (i : Item). placed_in known i.form) (λ before i. one known all types _ path _ before i.form) [] c.items))

pub returns : goal.returns
returns c ds name path arguments = named _ (counted [] [] ds tt) name path arguments
