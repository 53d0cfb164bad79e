-- The primitives are those of the ports, then channels, and then what nodes have of their own.
use Rattle.std.proofs.Common.{◌≡◌, ◌∙◌, List, [], ◌∷◌, ◌++◌, map, refl, sym, ap, subst, codes}
use Rattle.std.specs.List.{flat_map}
use Rattle.std.proofs.lemmas.List.{append_assoc, map-append}
use Rattle.reo_net_base.specs.declared.port.Port.{Port}
use Rattle.reo_rules.specs.literals.Items.{HasFewNames}
use Rattle.reo_values.specs.Valid.{IsValid}
use Rattle.reo_kinds.specs.Kinds.{port_state_of}
use Rattle.reo_rules.specs.Types.{Typed, types_of}
use Rattle.reo_rules.specs.Scopes.{parameter_names}
use Rattle.reo_flat.specs.Unfolding.{Placed, meaning_named, meanings_of}
use Rattle.reo_flat.specs.Flat.{main_parameters, ports_of, port_kind, port_placed, placed_of, nodes_of, own_kinds, primitives_of}
use Rattle.reo_flat.specs.flatten_laws.NodeTypes.{typing_named, typings_of, node_types_of}
use Rattle.reo_flat.proofs.flatten_laws.Breaks.{unbroken}
use Rattle.reo_runs.proofs.Each.{both, by_recursion, each_of}
use Rattle.reo_runs.specs.run_premises.PortsOf.{HasPorts, AreFree}
use Rattle.reo_runs.proofs.run_premises.NoPorts.{IsNoPort, of_nodes}
use Rattle.reo_runs.proofs.run_premises.Channels.{of_meaning}
use Rattle.reo_runs.proofs.run_premises.States.{has_ports, are_free}
use Rattle.reo_runs.proofs.run_premises.FewNames.{few_ports}
use Rattle.reo_runs.proofs.run_premises.ports.flat_ports_fit.Goals as goal

port_kinds : (ps : List Port) → map (λ (p : Placed). p.kind) (map port_placed ps) ≡ map (λ (p : Port). port_kind p.way p.kindred) ps
port_kinds [] = refl
port_kinds (p ∷ ps) = ap (λ ks. port_kind p.way p.kindred ∷ ks) (port_kinds ps)

pub returns : goal.returns
returns c p spelled none =
    let ds = p.declarations in
    let ports = ports_of ds in
    let kinds = map (λ (q : Port). port_kind q.way q.kindred) ports in
    let channels = (meaning_named (meanings_of ds) (codes "main")).channels [] (parameter_names (main_parameters ds)) in
    let rest = map (λ (q : Placed). q.kind) channels in
    let owns = flat_map (own_kinds (placed_of ds)) (nodes_of ds) in
    let split = map-append (λ (q : Placed). q.kind) (map port_placed ports) channels ∙ ap (λ ks. ks ++ rest) (port_kinds ports) in
    let is : primitives_of ds ≡ kinds ++ (rest ++ owns) = ap (λ ks. ks ++ owns) split ∙ append_assoc kinds rest owns in
    let inner = both IsNoPort rest owns (of_meaning ds (codes "main") [] (parameter_names (main_parameters ds))) (of_nodes (placed_of ds) (nodes_of ds)) in
    let valid = by_recursion (λ (e : Typed). IsValid e.kindred) (node_types_of ds) (c.types_are_valid.ensures p spelled none) in
    let few = few_ports (types_of ds) (main_parameters ds) ((typing_named (typings_of ds) (codes "main")).nodes []) valid in
    record {
      ports = subst (λ ks. HasPorts (map port_state_of ks) ports) (sym is) (has_ports ports (rest ++ owns) inner);
      free = subst (λ ks. AreFree (map port_state_of ks)) (sym is) (are_free ports (rest ++ owns) inner);
      distinct = c.ports_differ.ensures ds (unbroken ds none).rules.types.names.no_twice;
      few = each_of (λ (port : Port). HasFewNames port.kindred) ports few;
    }
