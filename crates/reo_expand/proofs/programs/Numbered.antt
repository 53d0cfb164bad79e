-- The copies of a connector, one number more.
use Rattle.std.proofs.Common.{◌≡◌, ◌∙◌, ◌<◌, ◌+◌, ◌++◌, ◌∷◌, [], ℕ, Ok, List, take, map, length, get_or, ap, sym, subst, append_assoc}
use Rattle.std.specs.List.{flat_map}
use Rattle.std.proofs.lemmas.List.{get_or_default}
use Rattle.reo_trees.specs.declared.programs.Declaration.{Declaration}
use Rattle.reo_trees.specs.declared.programs.Declaration.TheVariants as declarations
use Rattle.reo_trees.specs.declared.programs_two.ConnectorTwo.{ConnectorTwo}
use Rattle.reo_expand.specs.declared.base.bound.Instance.{Instance}
use Rattle.reo_expand.specs.declared.base.fault.ExpandFault.{ExpandFault}
use Rattle.reo_expand.specs.base.Expansion.{connector_for}
use Rattle.reo_expand.specs.base.Steps.{Step, steps_in, walked}
use Rattle.reo_expand.proofs.base.Turning.{item_done, item_stopped, more_mapped}
use Rattle.reo_expand.proofs.walk.TurnSteps.{IsStop}
use Rattle.reo_expand.specs.programs.Noted.{bound_number, instance_for}

module _ (before : List ConnectorTwo) (c : ConnectorTwo) (number : List ℕ) (values : List ℕ) where
  abbrev pub steps_with : ℕ → List Step
  steps_with k = steps_in before (bound_number number k) c.items

  abbrev pub made_with : ℕ → Declaration
  made_with k = declarations.Made (connector_for c (instance_for c.name number k))

  module _ (i : ℕ) (e : Instance) (lt : i < length values) (is : e ≡ instance_for c.name number (get_or values i 0)) where
    abbrev value : ℕ
    value = get_or values i 0

    at_place : value ≡ get_or values i value
    at_place = get_or_default values i 0 value lt

    same_steps : steps_in before e.bound c.items ≡ steps_with value
    same_steps = ap (λ (x : Instance). steps_in before x.bound c.items) is

    pub copy_stopped : (n m : ℕ) (f : ExpandFault) → walked n (flat_map steps_with (take i values)) ≡ Ok m → IsStop m (steps_in before e.bound c.items) f → IsStop n (flat_map steps_with values) f
    copy_stopped n m f at stop = item_stopped steps_with values n m i value f lt at_place at (subst (λ s. IsStop m s f) same_steps stop)

    pub copy_done : (n m k : ℕ) → walked n (flat_map steps_with (take i values)) ≡ Ok m → walked m (steps_in before e.bound c.items) ≡ Ok k → walked n (flat_map steps_with (take (i + 1) values)) ≡ Ok k
    copy_done n m k at go = item_done steps_with values n m k i value lt at_place at (ap (walked m) (sym same_steps) ∙ go)

    pub copy_made : (old out new : List Declaration) (next : Declaration) → out ≡ old ++ map made_with (take i values) → next ≡ declarations.Made (connector_for c e) → new ≡ out ++ next ∷ []
        → new ≡ old ++ map made_with (take (i + 1) values)
    copy_made old out new next before_it made grown =
        grown
        ∙ ap (λ l. l ++ next ∷ []) before_it
        ∙ append_assoc old (map made_with (take i values)) (next ∷ [])
        ∙ ap (λ d. old ++ (map made_with (take i values) ++ d ∷ [])) (made ∙ ap (λ x. declarations.Made (connector_for c x)) is)
        ∙ ap (λ l. old ++ l) (sym (more_mapped made_with values i value lt at_place))
