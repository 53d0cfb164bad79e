use Rattle.std.proofs.Common.{◌≡◌, false, length, sym, subst}
use Rattle.reo_net_base.specs.Net.{net_of}
use Rattle.reo_engine.specs.Flows.{MayBeBlank, MayBeMarks, MayBeRows}
use Rattle.reo_engine.proofs.Fresh.{fresh_kept}
use Rattle.reo_engine.proofs.beginning.begin.Goals as goal

pub returns-clause-kept : goal.returns-clause-kept
returns-clause-kept g c = fresh_kept (net_of g.P.Primitive.behaviour c.args.circuit.now) c.args.knots.now 1 c.sides.result c.count.result c.in_ok-kept.kept c.sides.ensures c.count.ensures c.in_ok-kept.ensures

pub returns-clause-flows : goal.returns-clause-flows
returns-clause-flows g c = record {
  blank = subst (MayBeBlank (length c.args.circuit.now.joints)) (sym c.in_ok-flows.ensures.blank) tt;
  rows = subst (MayBeRows c.in_ok-kept.kept.rows) (sym c.in_ok-flows.ensures.rows) tt;
  marks = subst (MayBeMarks (length (net_of g.P.Primitive.behaviour c.args.circuit.now).primitives)) (sym c.in_ok-flows.ensures.marks) tt;
  one_each = c.in_ok-flows.ensures.one_each;
  cells = c.in_ok-flows.ensures.cells;
  shown = λ e. absurd (let not : c.in_ok-flows.flows.shown ≡ false = c.in_ok-flows.ensures.shown in cc);
  feeds = c.in_ok-flows.ensures.feeds;
}
