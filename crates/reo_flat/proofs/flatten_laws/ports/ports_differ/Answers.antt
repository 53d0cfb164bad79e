-- The parameters of each connector differ.
use Rattle.std.proofs.Common.{◌≡◌, ℕ, List, [], ◌∷◌, ◌++◌, map, Bool, true, false, cond, Some, refl, ap, subst, bytes_eq, codes}
use Rattle.std.specs.Option.{option_map_or}
use Rattle.std.specs.List.{AllByRecursion}
use Rattle.reo_values.specs.Valid.{AreDistinct}
use Rattle.reo_net_base.specs.declared.port.Port.{Port}
use Rattle.reo_trees.specs.declared.programs.Parameter.{Parameter}
use Rattle.reo_trees.specs.declared.programs.Connector.{Connector}
use Rattle.reo_trees.specs.declared.programs.Declaration.{Declaration}
use Rattle.reo_trees.specs.declared.programs.Declaration.TheVariants as declarations
use Rattle.reo_rules.specs.Lists.{each_after}
use Rattle.reo_rules.specs.Types.{Typed, types_of}
use Rattle.reo_rules.specs.Scopes.{connectors_of, connector_named, parameters_named, parameter_names, node_names}
use Rattle.reo_rules.specs.Twice.{twice_in, twice_in_connector}
use Rattle.reo_flat.specs.Flat.{main_parameters, port_of}
use Rattle.reo_flat.proofs.flatten_laws.Breaks.{left_none, right_none}
use Rattle.reo_flat.proofs.flatten_laws.Once.{Once, distinct}
use Rattle.reo_flat.proofs.flatten_laws.OnceTwice.{names_once}
use Rattle.reo_flat.proofs.flatten_laws.ServedItems.{once_front}
use Rattle.reo_flat.proofs.flatten_laws.ports.ports_differ.Goals as goal

abbrev HasOnce : Connector → Type 0
HasOnce c = Once (parameter_names c.parameters)

all : (before ds : List Declaration) → each_after twice_in before ds ≡ [] → AllByRecursion HasOnce (connectors_of ds)
all before [] none = tt
all before (declarations.Named line name term ∷ ds) none = all (before ++ declarations.Named line name term ∷ []) ds (right_none (twice_in before (declarations.Named line name term)) _ none)
all before (declarations.Made c ∷ ds) none = (
  once_front (parameter_names c.parameters) (node_names c.items) (names_once c (right_none _ (twice_in_connector c) (left_none (twice_in before (declarations.Made c)) _ none))),
  all (before ++ declarations.Made c ∷ []) ds (right_none (twice_in before (declarations.Made c)) _ none),
)

named : (cs : List Connector) → AllByRecursion HasOnce cs → (name : List ℕ) → Once (parameter_names (parameters_named cs name))
named [] all' name = tt
named (c ∷ cs) all' name = step (bytes_eq name c.name) (named cs all'.1 name) where
  step : (b : Bool) → Once (parameter_names (parameters_named cs name)) → Once (parameter_names (option_map_or (λ (q : Connector). q.parameters) (cond b (Some c) (connector_named cs name)) []))
  step true rest = all'.0
  step false rest = rest

port_names : (types : List Typed) (ps : List Parameter) → parameter_names ps ≡ map (λ (p : Port). p.name) (map (port_of types) ps)
port_names types [] = refl
port_names types (p ∷ ps) = ap (λ ns. p.name ∷ ns) (port_names types ps)

pub returns : goal.returns
returns c ds none =
    subst AreDistinct (port_names (types_of ds) (main_parameters ds)) (distinct (parameter_names (main_parameters ds)) (named (connectors_of ds) (all [] ds none) (codes "main")))
