-- The names of a spelled program have no `@`.
use Rattle.std.proofs.Common.{arith, ℕ, ◌<◌, ◌≤◌, ◌^◌, List, [], ◌∷◌, length}
use Rattle.std.specs.List.{All, AllByRecursion}
use Rattle.reo_trees.specs.declared.items.ItemForm.{ItemForm}
use Rattle.reo_trees.specs.declared.items.ItemForm.TheVariants as forms
use Rattle.reo_trees.specs.declared.programs.Connector.{Connector}
use Rattle.reo_trees.specs.declared.programs.Declaration.{Declaration}
use Rattle.reo_trees.specs.declared.programs.Declaration.TheVariants as declarations
use Rattle.reo_trees.specs.declared.programs.Program.{Program}
use Rattle.reo_syntax_laws.specs.trees_laws.Spelled.{IsSpelledForm, IsSpelledConnector, IsSpelledDeclaration, IsSpelled}
use Rattle.reo_syntax_laws.specs.trees_laws.Few.{HasAtMost, HasItemsWithin}
use Rattle.reo_syntax_laws.proofs.trees_laws.Loose.{name_plain}
use Rattle.reo_rules.specs.Scopes.{connectors_of}
use Rattle.reo_flat.specs.flatten_laws.Plain.{HasPlainName, HasPlainNames}
use Rattle.reo_flat.proofs.flatten_laws.Each.{by_recursion, each_of}

form_plain : (f : ItemForm) → IsSpelledForm f → HasPlainName f
form_plain (forms.Node name term) spelled = spelled.0
form_plain (forms.Joined channel first second) spelled = tt
form_plain (forms.Used name arguments) spelled = spelled.0

connector_plain : (most : ℕ) (c : Connector) → most < 2 ^ 64 → IsSpelledConnector c → length c.items ≤ most → HasPlainNames c
connector_plain most c fits spelled few = record {
  parameters = λ k d below. name_plain _ (spelled.parameters k d below).0.0;
  items = λ k d below. form_plain _ (spelled.items k d below);
  few = omega arith;
}

all : (most : ℕ) (ds : List Declaration) → most < 2 ^ 64 → AllByRecursion IsSpelledDeclaration ds → AllByRecursion (HasAtMost most) ds → AllByRecursion HasPlainNames (connectors_of ds)
all most [] fits spelled few = tt
all most (declarations.Named line name term ∷ ds) fits spelled few = all most ds fits spelled.1 few.1
all most (declarations.Made c ∷ ds) fits spelled few = (connector_plain most c fits spelled.0 few.0, all most ds fits spelled.1 few.1)

-- Where it has few items in each connector.
pub plain_names : (most : ℕ) (p : Program) → most < 2 ^ 64 → IsSpelled p → HasItemsWithin most p → All HasPlainNames (connectors_of p.declarations)
plain_names most p fits spelled few =
    each_of HasPlainNames (connectors_of p.declarations) (all most p.declarations fits (by_recursion IsSpelledDeclaration p.declarations spelled) (by_recursion (HasAtMost most) p.declarations few))
