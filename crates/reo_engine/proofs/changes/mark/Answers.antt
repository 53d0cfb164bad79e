use Rattle.std.proofs.Common.{Bool, true, ◌∙◌}
use Rattle.reo_net_circuit.proofs.PortLemmas.{change_is}
use Rattle.reo_engine.proofs.changes.mark.Goals as goal

pub returns : goal.returns
returns c = c.put.ensures ∙ change_is {X = Bool} (λ _. true) c.args.marks.now c.args.index true c.requires
