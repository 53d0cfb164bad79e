-- What a connector unfolds to has no port.
use Rattle.std.proofs.Common.{ℕ, List, [], ◌∷◌, ◌++◌, map, Bool, true, false, cond, Some, find, bytes_eq}
use Rattle.std.specs.Prelude.{unwrap_or}
use Rattle.std.specs.List.{AllByRecursion}
use Rattle.reo_trees.specs.declared.items.Item.{Item}
use Rattle.reo_trees.specs.declared.items.ItemForm.{ItemForm}
use Rattle.reo_trees.specs.declared.items.ItemForm.TheVariants as forms
use Rattle.reo_trees.specs.declared.programs.Declaration.{Declaration}
use Rattle.reo_trees.specs.declared.programs.Declaration.TheVariants as declarations
use Rattle.reo_rules.specs.Lists.{each_after}
use Rattle.reo_rules.specs.Types.{Typed}
use Rattle.reo_flat.specs.Unfolding.{Placed, Meaning, no_meaning, meaning_named, meaning_of, meanings_after, meanings_of, channels_in}
use Rattle.reo_runs.proofs.Each.{both}
use Rattle.reo_runs.proofs.run_premises.NoPorts.{IsNoPort, of_channel}

-- What is placed is no port.
abbrev Inner : Placed → Type 0
Inner p = IsNoPort p.kind

-- Wherever the connector is used.
abbrev IsInner : Meaning → Type 0
IsInner m = (path : List ℕ) (arguments : List (List ℕ)) → AllByRecursion Inner (m.channels path arguments)

named : (known : List Meaning) → AllByRecursion IsInner known → (name : List ℕ) → IsInner (meaning_named known name)
named [] all name = λ path arguments. tt
named (m ∷ ms) all name = step (bytes_eq name m.name) (named ms all.1 name) where
  step : (b : Bool) → IsInner (meaning_named ms name) → IsInner (unwrap_or (cond b (Some m) (find (λ (y : Meaning). bytes_eq name y.name) ms)) no_meaning)
  step true rest = all.0
  step false rest = rest

module _ (known : List Meaning) (all : AllByRecursion IsInner known) (types scope : List Typed) (path : List ℕ) (flat : List ℕ → List ℕ) where
  of_form : (before : List Item) (f : ItemForm) → AllByRecursion Inner (channels_in known types scope path flat before f)
  of_form before (forms.Node name term) = tt
  of_form before (forms.Joined channel first second) = (of_channel types _ channel, tt)
  of_form before (forms.Used name arguments) = named known all name _ (map flat arguments)

  of_items : (before items : List Item) → AllByRecursion Inner (each_after (λ b (i : Item). channels_in known types scope path flat b i.form) before items)
  of_items before [] = tt
  of_items before (i ∷ is) = both Inner (channels_in known types scope path flat before i.form) _ (of_form before i.form) (of_items (before ++ i ∷ []) is)

of_all : (known : List Meaning) (types : List Typed) (ds : List Declaration) → AllByRecursion IsInner known → AllByRecursion IsInner (meanings_after known types ds)
of_all known types [] all = all
of_all known types (declarations.Named line name term ∷ ds) all = of_all known _ ds all
of_all known types (declarations.Made c ∷ ds) all =
    of_all (known ++ meaning_of known types c ∷ []) types ds
    (both IsInner known (meaning_of known types c ∷ []) all ((λ path arguments. of_items known all types _ path _ [] c.items), tt))

as_kinds : (ps : List Placed) → AllByRecursion Inner ps → AllByRecursion IsNoPort (map (λ (p : Placed). p.kind) ps)
as_kinds [] all = tt
as_kinds (p ∷ ps) all = (all.0, as_kinds ps all.1)

-- The channels of a connector are no ports.
pub of_meaning : (ds : List Declaration) (name path : List ℕ) (arguments : List (List ℕ)) → AllByRecursion IsNoPort (map (λ (p : Placed). p.kind) ((meaning_named (meanings_of ds) name).channels path arguments))
of_meaning ds name path arguments = as_kinds _ (named (meanings_of ds) (of_all [] [] ds tt) name path arguments)
