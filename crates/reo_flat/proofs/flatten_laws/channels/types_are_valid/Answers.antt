-- The types of parameters and of nodes.
use Rattle.std.proofs.Common.{List, [], ◌∷◌, map, refl, codes}
use Rattle.std.specs.List.{AllByRecursion}
use Rattle.reo_values.specs.Valid.{IsValid}
use Rattle.reo_trees.specs.declared.programs.Parameter.{Parameter}
use Rattle.reo_syntax_laws.specs.trees_laws.Spelled.{IsSpelledDeclaration}
use Rattle.reo_rules.specs.Types.{Typed, types_of, resolved}
use Rattle.reo_rules.specs.Scopes.{connectors_of, parameter_type}
use Rattle.reo_flat.specs.Unfolding.{meanings_of}
use Rattle.reo_flat.specs.Flat.{main_parameters}
use Rattle.reo_flat.specs.flatten_laws.NodeTypes.{typing_named, typings_of, node_types_of}
use Rattle.reo_flat.proofs.flatten_laws.Breaks.{unbroken}
use Rattle.reo_flat.proofs.flatten_laws.Each.{by_recursion, each_of, both}
use Rattle.reo_flat.proofs.flatten_laws.TypedNodes.{typed_named}
use Rattle.reo_flat.proofs.flatten_laws.TypedPrograms.{all_typed}
use Rattle.reo_flat.proofs.flatten_laws.channels.types_are_valid.Goals as goal

parameters_valid : (types : List Typed) (ps : List Parameter) → AllByRecursion (λ (p : Parameter). IsValid (resolved types p.term.shape)) ps → AllByRecursion (λ (e : Typed). IsValid e.kindred) (map (parameter_type types) ps)
parameters_valid types [] all = tt
parameters_valid types (p ∷ ps) all = (all.0, parameters_valid types ps all.1)

pub returns : goal.returns
returns c p spelled none =
    let ds = p.declarations in
    let kept = unbroken ds none in
    let names = kept.rules.types.names in
    let all = all_typed [] ds [] [] [] refl tt tt (record { once = names.no_twice; known = names.no_unknown; typed = kept.rules.types.no_mistyped; bound = kept.rules.no_range; fit = kept.rules.no_arity }) (by_recursion IsSpelledDeclaration ds spelled) in
    let main = typed_named (types_of ds) (connectors_of ds) (meanings_of ds) (typings_of ds) all (codes "main") in
    each_of (λ (e : Typed). IsValid e.kindred) (node_types_of ds)
    (both (λ (e : Typed). IsValid e.kindred) (map (parameter_type (types_of ds)) (main_parameters ds)) ((typing_named (typings_of ds) (codes "main")).nodes []) (parameters_valid (types_of ds) (main_parameters ds) main.parameters) (main.nodes []))
