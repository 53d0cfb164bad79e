use Rattle.std.proofs.Common.{[], codes}
use Rattle.reo_values.specs.Names.{IsName}
use Rattle.reo_values.specs.Valid.{IsValid}
use Rattle.reo_net_base.specs.declared.port.Port.{Port}
use Rattle.reo_syntax_laws.specs.trees_laws.Spelled.{IsSpelledDeclaration}
use Rattle.reo_rules.specs.Types.{Typed, types_of}
use Rattle.reo_flat.specs.Flat.{main_parameters, ports_of}
use Rattle.reo_flat.specs.flatten_laws.NodeTypes.{typing_named, typings_of, node_types_of}
use Rattle.reo_flat.proofs.flatten_laws.Breaks.{unbroken}
use Rattle.reo_runs.proofs.Each.{by_recursion, each_of}
use Rattle.reo_runs.proofs.run_texts.Told.{main_spelled, port_names, port_types}
use Rattle.reo_runs.proofs.run_texts.laws.ports_are_told.Goals as goal

pub returns : goal.returns
returns c p good =
    let ds = p.declarations in
    let types = types_of ds in
    let ps = main_parameters ds in
    let spelled = main_spelled ds (by_recursion IsSpelledDeclaration ds good.spelled) in
    let valid = by_recursion (λ (e : Typed). IsValid e.kindred) (node_types_of ds) (c.types_are_valid.ensures p good.spelled good.accepted.no_break) in
    record {
      names = each_of (λ (port : Port). IsName port.name) (ports_of ds) (port_names types ps spelled);
      distinct = c.ports_differ.ensures ds (unbroken ds good.accepted.no_break).rules.types.names.no_twice;
      types = each_of (λ (port : Port). IsValid port.kindred) (ports_of ds) (port_types types ps ((typing_named (typings_of ds) (codes "main")).nodes []) valid);
    }
