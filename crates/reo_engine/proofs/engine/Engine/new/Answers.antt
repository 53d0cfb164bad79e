use Rattle.std.proofs.Common.{◌∙◌, length, ap, arith}
use Rattle.std.proofs.lemmas.List.{length-replicate}
use Rattle.std.specs.Prelude.{true}
use Rattle.reo_engine.proofs.engine.Engine.new.Goals as goal

pub invariant_of-result : goal.invariant_of-result
invariant_of-result g c = (
  omega arith,
  ap length c.in_ok-begun.ensures.changed ∙ length-replicate (length c.args.circuit.primitives) true,
  c.requires,
  record {
    are_knots = c.in_ok-knots.ensures;
    are_ends = c.in_ok-begun.ensures.ends;
    is_kept = c.in_ok-begun.ensures.kept;
  },
  c.in_ok-begun.ensures.lookups c.in_ok-begun.begun.kept,
  c.in_ok-begun.ensures.flows,
  c.in_ok-begun.ensures.goers,
)
