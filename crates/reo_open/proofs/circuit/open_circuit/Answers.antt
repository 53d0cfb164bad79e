use Rattle.std.proofs.Common.{◌∙◌, ap, map}
use Rattle.reo_open.specs.Opened.{opened}
use Rattle.reo_open.proofs.FaultLemmas.{made_ports, made_joints, made_fault}
use Rattle.reo_open.proofs.circuit.open_circuit.Goals as goal

pub new-requires-clause-ports : goal.new-requires-clause-ports
new-requires-clause-ports c =
    made_ports c.args.circuit.now c.known.ensures.wired c.in_ok-primitives.primitives c.ports.result c.in_ok-joints.joints
    (c.in_ok-primitives.ensures ∙ ap (map opened) c.primitives.ensures) c.ports.ensures (c.in_ok-joints.ensures ∙ c.joints.ensures) c.known_ports.ensures

pub new-requires-clause-joints : goal.new-requires-clause-joints
new-requires-clause-joints c =
    made_joints c.args.circuit.now c.known.ensures.wired c.in_ok-primitives.primitives c.ports.result c.in_ok-joints.joints
    (c.in_ok-primitives.ensures ∙ ap (map opened) c.primitives.ensures) c.ports.ensures (c.in_ok-joints.ensures ∙ c.joints.ensures)

pub only_memory-requires : goal.only_memory-requires
only_memory-requires c =
    made_fault c.args.circuit.now c.known.ensures.wired c.in_ok-primitives.primitives c.ports.result c.in_ok-joints.joints
    (c.in_ok-primitives.ensures ∙ ap (map opened) c.primitives.ensures) c.ports.ensures (c.in_ok-joints.ensures ∙ c.joints.ensures)
    c.known.ensures.no_cycle c.in-Err.fault c.in-Err.ensures.exact
