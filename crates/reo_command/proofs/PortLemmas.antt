-- The ports of an accepted circuit.
use Rattle.std.proofs.Common.{◌≡◌, List, sym, subst, refl}
use Rattle.reo_net_base.specs.Net.{Wiring}
use Rattle.reo_net_base.specs.declared.port.Port.{Port}
use Rattle.reo_kinds.specs.declared.kind.Kind.{Kind}
use Rattle.reo_trees.specs.declared.programs.Program.{Program}
use Rattle.reo_flat.specs.Flat.{wiring_of_program, ports_of}
use Rattle.reo_runs.specs.run_premises.FlatPorts.{ArePorts}
use Rattle.reo_trace_reader.specs.texts.Lines.{AreTold}
use Rattle.reo_command.specs.ReadSteps.{HasItsPorts}

-- They are those of its program.
pub its_ports : (p : Program) (w : Wiring Kind) (ports : List Port) → ArePorts p → AreTold (ports_of p.declarations) → w ≡ wiring_of_program p.declarations → ports ≡ ports_of p.declarations → HasItsPorts w ports
its_ports p w ports are told of_w of_ports =
    let here : HasItsPorts (wiring_of_program p.declarations) (ports_of p.declarations) = record { count = refl; has = are.ports; free = are.free; names = record { distinct = are.distinct; few = are.few }; told = told } in
    subst (λ (ps : List Port). HasItsPorts w ps) (sym of_ports) (subst (λ (v : Wiring Kind). HasItsPorts v (ports_of p.declarations)) (sym of_w) here)
