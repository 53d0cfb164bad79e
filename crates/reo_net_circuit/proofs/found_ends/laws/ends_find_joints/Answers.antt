use Rattle.reo_net_circuit.proofs.found_ends.EndLemmas.{find_joints}
use Rattle.reo_net_circuit.proofs.found_ends.laws.ends_find_joints.Goals as goal

pub returns : goal.returns
returns c = find_joints
