use Rattle.std.proofs.Common.{refl}
use Rattle.reo_refute_live.proofs.ValueLemmas.{flows_step}
use Rattle.reo_refute_live.proofs.values.add_flows.Goals as goal

pub loop-number-preserved : goal.loop-number-preserved
loop-number-preserved c = flows_step c.args.flows.now c.loop-number.number c.args.values.now c.loop-number.values _ c.add_if.new.values c.loop-number.invariant refl c.in_ok-add_if.ensures
