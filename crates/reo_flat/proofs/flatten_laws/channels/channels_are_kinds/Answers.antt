-- Connector by connector, item by item.
use Rattle.std.proofs.Common.{◌≡◌, ◌∙◌, List, [], ◌∷◌, sym, ap}
use Rattle.std.specs.List.{AllByRecursion, flat_map}
use Rattle.reo_trees.specs.declared.items.Item.{Item}
use Rattle.reo_trees.specs.declared.items.ItemForm.{ItemForm}
use Rattle.reo_trees.specs.declared.items.ItemForm.TheVariants as forms
use Rattle.reo_trees.specs.declared.programs.Parameter.{Parameter}
use Rattle.reo_trees.specs.declared.programs.Connector.{Connector}
use Rattle.reo_trees.specs.declared.programs.Declaration.TheVariants as declarations
use Rattle.reo_rules.specs.declared.fault.FlatFault.TheVariants as faults
use Rattle.reo_rules.specs.Lists.{each_after, where_true}
use Rattle.reo_rules.specs.Types.{Typed, types_of, type_named}
use Rattle.reo_rules.specs.Scopes.{connectors_of, scope_of}
use Rattle.reo_rules.specs.Mistyped.{is_mistyped, mistyped_in}
use Rattle.reo_rules.specs.Ranges.{range_in_type, range_in_item, range_in}
use Rattle.reo_rules.proofs.AfterLemmas.{where_false}
use Rattle.reo_flat.specs.flatten_laws.Channels.{IsForItem}
use Rattle.reo_flat.proofs.flatten_laws.Each.{each_of}
use Rattle.reo_flat.proofs.flatten_laws.Breaks.{left_none, right_none, after_at}
use Rattle.reo_flat.proofs.flatten_laws.RightKinds.{channel_is}
use Rattle.reo_flat.proofs.flatten_laws.channels.channels_are_kinds.Goals as goal

one : (types : List Typed) (cs : List Connector) (scope : List Typed) (i : Item) → where_true (is_mistyped types cs scope i.form) (faults.Mistyped i.line) ≡ [] → range_in_item types scope i.line i.form ≡ [] → IsForItem types scope i.form
one types cs scope i typed bound = step i.form (where_false _ _ typed) bound where
  step : (f : ItemForm) → is_mistyped types cs scope f ≡ Rattle.std.proofs.Common.false → range_in_item types scope i.line f ≡ [] → IsForItem types scope f
  step (forms.Node name term) t b = tt
  step (forms.Joined channel first second) t b = channel_is types (type_named scope first) (type_named scope second) channel t (where_false _ _ b)
  step (forms.Used name arguments) t b = tt

all : (types : List Typed) (cs : List Connector) (scope : List Typed) (is : List Item) → flat_map (λ (i : Item). where_true (is_mistyped types cs scope i.form) (faults.Mistyped i.line)) is ≡ []
    → flat_map (λ (i : Item). range_in_item types scope i.line i.form) is ≡ [] → AllByRecursion (λ (i : Item). IsForItem types scope i.form) is
all types cs scope [] typed bound = tt
all types cs scope (i ∷ is) typed bound = (
  one types cs scope i (left_none (where_true (is_mistyped types cs scope i.form) (faults.Mistyped i.line)) _ typed) (left_none (range_in_item types scope i.line i.form) _ bound),
  all types cs scope is (right_none (where_true (is_mistyped types cs scope i.form) (faults.Mistyped i.line)) _ typed) (right_none (range_in_item types scope i.line i.form) _ bound),
)

pub returns : goal.returns
returns c ds before connector stands typed bound =
    let d = declarations.Made connector in
    let types = types_of before in
    let scope = scope_of types connector in
    let here = after_at mistyped_in [] before d stands.0 (ap (each_after mistyped_in []) (sym stands.1) ∙ typed) in
    let within = after_at range_in [] before d stands.0 (ap (each_after range_in []) (sym stands.1) ∙ bound) in
    each_of (λ (i : Item). IsForItem types scope i.form) connector.items
    (all types (connectors_of before) scope connector.items here (right_none (flat_map (λ (p : Parameter). range_in_type types p.term) connector.parameters) _ within))
