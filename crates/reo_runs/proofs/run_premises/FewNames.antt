-- Valid types have few names.
use Rattle.std.proofs.Common.{List, [], ◌∷◌, ◌++◌, map}
use Rattle.std.specs.List.{AllByRecursion}
use Rattle.reo_values.specs.declared.kindred.Kindred as kindred
use Rattle.reo_values.specs.declared.kindred.Kindred.{Kindred}
use Rattle.reo_values.specs.Valid.{IsValid}
use Rattle.reo_net_base.specs.declared.port.Port.{Port}
use Rattle.reo_rules.specs.literals.Items.{HasFewNames}
use Rattle.reo_trees.specs.declared.programs.Parameter.{Parameter}
use Rattle.reo_rules.specs.Types.{Typed, resolved}
use Rattle.reo_rules.specs.Scopes.{parameter_type}
use Rattle.reo_flat.specs.Flat.{port_of}

few_names : (k : Kindred) → IsValid k → HasFewNames k
few_names kindred.Unit valid = tt
few_names kindred.Bool valid = tt
few_names (kindred.Int low high) valid = tt
few_names (kindred.Sym names) valid = valid.few
few_names (kindred.Text most) valid = tt
few_names (kindred.Pair' n (kindred.more_of-Twins a b kindred.end_of-Twins)) valid = (few_names a valid.0, few_names b valid.1)

-- The ports of parameters whose types are valid, and of nodes behind them.
pub few_ports : (types : List Typed) (ps : List Parameter) (nodes : List Typed) → AllByRecursion (λ (e : Typed). IsValid e.kindred) (map (parameter_type types) ps ++ nodes)
    → AllByRecursion (λ (port : Port). HasFewNames port.kindred) (map (port_of types) ps)
few_ports types [] nodes valid = tt
few_ports types (p ∷ ps) nodes valid = (few_names (resolved types p.term.shape) valid.0, few_ports types ps nodes valid.1)
