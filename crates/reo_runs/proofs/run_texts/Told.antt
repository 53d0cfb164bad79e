-- The ports of a program that a text says.
use Rattle.std.proofs.Common.{List, [], ◌∷◌, ◌++◌, map, ℕ, Bool, true, false, cond, Some, bytes_eq, codes}
use Rattle.std.specs.Option.{option_map_or}
use Rattle.std.specs.List.{AllByRecursion}
use Rattle.reo_values.specs.Names.{IsName}
use Rattle.reo_values.specs.Valid.{IsValid}
use Rattle.reo_net_base.specs.declared.port.Port.{Port}
use Rattle.reo_trees.specs.declared.programs.Parameter.{Parameter}
use Rattle.reo_trees.specs.declared.programs.Connector.{Connector}
use Rattle.reo_trees.specs.declared.programs.Declaration.{Declaration}
use Rattle.reo_trees.specs.declared.programs.Declaration.TheVariants as declarations
use Rattle.reo_syntax_laws.specs.trees_laws.Spelled.{IsSpelledParameter, IsSpelledDeclaration}
use Rattle.reo_rules.specs.Types.{Typed}
use Rattle.reo_rules.specs.Scopes.{connectors_of, connector_named, parameters_named, parameter_type}
use Rattle.reo_flat.specs.Flat.{port_of, main_parameters}
use Rattle.reo_runs.proofs.Each.{by_recursion}

-- The parameters of each connector are spelled.
abbrev HasSpelled : Connector → Type 0
HasSpelled c = AllByRecursion IsSpelledParameter c.parameters

spelled_all : (ds : List Declaration) → AllByRecursion IsSpelledDeclaration ds → AllByRecursion HasSpelled (connectors_of ds)
spelled_all [] spelled = tt
spelled_all (declarations.Named line name term ∷ ds) spelled = spelled_all ds spelled.1
spelled_all (declarations.Made c ∷ ds) spelled = (by_recursion IsSpelledParameter c.parameters spelled.0.parameters, spelled_all ds spelled.1)

spelled_named : (cs : List Connector) → AllByRecursion HasSpelled cs → (name : List ℕ) → AllByRecursion IsSpelledParameter (parameters_named cs name)
spelled_named [] all name = tt
spelled_named (c ∷ cs) all name = step (bytes_eq name c.name) (spelled_named cs all.1 name) where
  step : (b : Bool) → AllByRecursion IsSpelledParameter (parameters_named cs name)
      → AllByRecursion IsSpelledParameter (option_map_or (λ (q : Connector). q.parameters) (cond b (Some c) (connector_named cs name)) [])
  step true rest = all.0
  step false rest = rest

-- So are those of `main`.
pub main_spelled : (ds : List Declaration) → AllByRecursion IsSpelledDeclaration ds → AllByRecursion IsSpelledParameter (main_parameters ds)
main_spelled ds spelled = spelled_named (connectors_of ds) (spelled_all ds spelled) (codes "main")

-- The names of ports are names.
pub port_names : (types : List Typed) (ps : List Parameter) → AllByRecursion IsSpelledParameter ps → AllByRecursion (λ (port : Port). IsName port.name) (map (port_of types) ps)
port_names types [] spelled = tt
port_names types (p ∷ ps) spelled = (spelled.0.0.0, port_names types ps spelled.1)

-- Their types are valid where those of the nodes are.
pub port_types : (types : List Typed) (ps : List Parameter) (nodes : List Typed) → AllByRecursion (λ (e : Typed). IsValid e.kindred) (map (parameter_type types) ps ++ nodes)
    → AllByRecursion (λ (port : Port). IsValid port.kindred) (map (port_of types) ps)
port_types types [] nodes valid = tt
port_types types (p ∷ ps) nodes valid = (valid.0, port_types types ps nodes valid.1)
