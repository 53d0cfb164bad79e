-- Programs that are made are spelled.
use Rattle.std.proofs.Common.{ℕ, zero, suc, ◌+◌, List, [], ◌∷◌, arith}
use Rattle.std.proofs.lemmas.List.Elements.{All-append, All-map}
use Rattle.std.specs.Prelude.{pos, Option, Some, None, filter}
use Rattle.std.specs.List.{All, range_with_len}
use Rattle.reo_trees.specs.declared.programs.Connector.{Connector}
use Rattle.reo_trees.specs.declared.programs.Declaration.TheVariants as declarations
use Rattle.reo_trees.specs.declared.programs_two.ConnectorTwo.{ConnectorTwo}
use Rattle.reo_trees.specs.declared.programs_two.DeclarationTwo.{DeclarationTwo}
use Rattle.reo_trees.specs.declared.programs_two.DeclarationTwo.TheVariants as two
use Rattle.reo_syntax_laws.specs.trees_laws.Spelled.{IsFreeName, IsItemName, IsSpelledDeclaration, IsSpelledConnector}
use Rattle.reo_syntax_laws.specs.trees_laws.SpelledTwo.{IsSpelledConnectorTwo, IsSpelledDeclarationTwo}
use Rattle.reo_syntax_laws.proofs.trees_laws.Lists.{all-none, all-one}
use Rattle.reo_syntax_laws.proofs.trees_laws.Loose.{name_plain}
use Rattle.reo_expand.specs.declared.base.bound.Instance.{Instance}
use Rattle.reo_expand.specs.base.Expansion.{numbered_name, connector_for, has_use, most_number, instances_by, instances_of, connectors_of, declared_by, expanded}
use Rattle.reo_expand.proofs.laws.PlainLemmas.{numbered_plain}
use Rattle.reo_expand.proofs.laws.ItemLemmas.{items_spelled, all_mapped}

abbrev HasName : Instance → Type 0
HasName i = IsItemName i.name

instances_named : (later : List Connector) (name : List ℕ) (number : Option (List ℕ)) → IsFreeName name → All HasName (instances_by later name number)
instances_named later name None free = all-one HasName (record { name = name; bound = [] }) (name_plain name free.0)
instances_named later name (Some number) free =
    all_mapped HasName (λ k. record { name = numbered_name name (pos k); bound = record { name = number; value = pos k } ∷ [] })
    (filter (λ k. has_use later (numbered_name name (pos k))) (range_with_len 0 (most_number + 1)))
    (λ k. numbered_plain name (pos k) (name_plain name free.0))

connector_spelled : (c : ConnectorTwo) → IsSpelledConnectorTwo c → (i : Instance) → HasName i → IsSpelledConnector (connector_for c i)
connector_spelled c spelled i named = record { name = named; parameters = spelled.parameters; items = items_spelled i.bound c.items spelled.items }

declared_spelled : (later : List Connector) (d : DeclarationTwo) → IsSpelledDeclarationTwo d → All IsSpelledDeclaration (declared_by later d)
declared_spelled later (two.Named line name term) spelled = all-one IsSpelledDeclaration (declarations.Named line name term) spelled
declared_spelled later (two.Made c) spelled =
    All-map IsSpelledDeclaration (λ (i : Instance). declarations.Made (connector_for c i)) (instances_of later c)
    (λ k d below. connector_spelled c spelled _ (instances_named later c.name c.number spelled.name k d below))

-- What declarations stand for.
pub expanded_spelled : (ds : List DeclarationTwo) → All IsSpelledDeclarationTwo ds → All IsSpelledDeclaration (expanded ds)
expanded_spelled [] spelled = all-none IsSpelledDeclaration
expanded_spelled (d ∷ ds) spelled =
    All-append IsSpelledDeclaration (declared_by (connectors_of (expanded ds)) d) (expanded ds) (declared_spelled (connectors_of (expanded ds)) d (spelled zero d (omega arith)))
    (expanded_spelled ds (λ k e below. spelled (suc k) e (omega arith)))
