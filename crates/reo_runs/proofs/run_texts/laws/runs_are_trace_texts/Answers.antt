use Rattle.std.proofs.Common.{◌≡◌, ◌∙◌, ℕ, [], refl, sym, subst, codes}
use Rattle.std.specs.Prelude.{Some, slice_get}
use Rattle.std.specs.List.{flat_map}
use Rattle.reo_net_base.specs.declared.port.Port.{Port}
use Rattle.reo_net_base.specs.Net.{end_of}
use Rattle.reo_rules.specs.Types.{type_named, types_of}
use Rattle.reo_rules.specs.Scopes.{parameter_names}
use Rattle.reo_flat.specs.Unfolding.{meaning_named, meanings_of}
use Rattle.reo_flat.specs.Flat.{main_parameters, ports_of, nodes_of, placed_of, wiring_of_program}
use Rattle.reo_flat.specs.flatten_laws.NodeTypes.{typing_named, typings_of, node_types_of}
use Rattle.reo_flat.proofs.flatten_laws.Breaks.{unbroken}
use Rattle.reo_runs.proofs.Each.{by_recursion}
use Rattle.reo_flat.proofs.flatten_laws.Once.{Once}
use Rattle.reo_flat.proofs.flatten_laws.TwoEnds.{once_of}
use Rattle.reo_flat.proofs.flatten_laws.TypedNodes.{FitsAt}
use Rattle.reo_runs.specs.run_texts.Laws.{kind_rules}
use Rattle.reo_runs.proofs.run_texts.RightKinds.{IsRight, kinds_keep}
use Rattle.reo_runs.proofs.run_texts.TypedItems.{type_at}
use Rattle.reo_runs.proofs.run_texts.ProgramKinds.{own_types, all_types, all_right}
use Rattle.reo_runs.proofs.run_texts.ProgramJoints.{joints_agree}
use Rattle.reo_runs.proofs.run_texts.ProgramPorts.{own_port_types, at_port}
use Rattle.reo_runs.proofs.run_texts.ProgramOrder.{kinds_keep_shape, program_order}
use Rattle.reo_runs.proofs.run_texts.RunLemmas.{IsGood, run_text}
use Rattle.reo_runs.proofs.run_texts.Counting.{program_count}
use Rattle.reo_runs.proofs.run_texts.laws.runs_are_trace_texts.Goals as goal

pub returns : goal.returns
returns c p components budget limit lines ending good few_budget few run =
    let ds = p.declarations in
    let ports = ports_of ds in
    let placed = placed_of ds in
    let nodes = nodes_of ds in
    let T = type_named (node_types_of ds) in
    let types = all_types T placed nodes in
    let known = c.nodes_have_types.ensures ds in
    let once = subst Once (sym known) (once_of nodes (c.nodes_are_distinct.ensures ds good.plain (unbroken ds good.accepted.no_break).rules.types.names.no_twice)) in
    let fits = by_recursion (FitsAt T) placed (c.primitives_fit.ensures p good.spelled good.plain good.accepted.no_break) in
    let channels = (meaning_named (meanings_of ds) (codes "main")).channels [] (parameter_names (main_parameters ds)) in
    let at_ports : (i : ℕ) (q : Port) → slice_get ports i ≡ Some q → type_at types (end_of i 0) ≡ q.kindred = λ i q is.
    at_port T ports channels (flat_map (own_types T placed) nodes) i q is ∙ own_port_types (types_of ds) (main_parameters ds) ((typing_named (typings_of ds) (codes "main")).nodes []) once i q is in
    let start : IsGood kind_rules kinds_keep_shape IsRight (kinds_keep c.item_test_is_exact.ensures) types ports at_ports budget limit few_budget few c.causes_are_small.ensures (wiring_of_program ds) = record {
      order = program_order c.order_exists.ensures ds (c.circuits_are_made.ensures ds good.plain good.accepted.no_break) good.accepted.no_cycle;
      typed = record { primitives = all_right T placed nodes fits; joints = joints_agree T placed nodes };
      count = refl;
      few_primitives = program_count ds (unbroken ds good.accepted.no_break).few;
    } in
    run_text kind_rules kinds_keep_shape IsRight (kinds_keep c.item_test_is_exact.ensures) types ports at_ports budget limit few_budget few c.causes_are_small.ensures (wiring_of_program ds) components lines ending start run
