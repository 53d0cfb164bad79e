use Rattle.std.proofs.Common.{◌∙◌, arith}
use Rattle.reo_net_base.specs.Net.{Net, net_of}
use Rattle.reo_mark_search.specs.Searched.{in_part}
use Rattle.reo_mark_search.proofs.Parts.{side_here, side_below}
use Rattle.reo_mark_search.proofs.Steps.{class_next}
use Rattle.reo_mark_search.proofs.walking.class_all.Goals as goal

pub class_at-requires-clause-side : goal.class_at-requires-clause-side
class_at-requires-clause-side g c =
    side_below (net_of g.P.Primitive.behaviour c.args.searched.now.circuit.now) c.args.searched.now.knots.now c.requires.searched.knots c.args.searched.now.part c.requires.searched.part c.sides-sides.result.now c.sides-sides.ensures c.loop-index.index (omega arith)

pub class_at-requires-clause-here : goal.class_at-requires-clause-here
class_at-requires-clause-here g c =
    side_here (net_of g.P.Primitive.behaviour c.args.searched.now.circuit.now) c.args.searched.now.knots.now c.requires.searched.knots c.args.searched.now.part c.requires.searched.part c.sides-sides.result.now c.sides-sides.ensures c.loop-index.index (omega arith)

pub loop-index-preserved : goal.loop-index-preserved
loop-index-preserved g c =
    let net : Net = net_of g.P.Primitive.behaviour c.args.searched.now.circuit.now in
    record {
      one_each = c.class_at.ensures.one_each ∙ c.loop-index.invariant.one_each;
      goes_on = class_next net c.args.searched.now.turn (in_part c.args.searched.now) c.sides-sides.result.now c.loop-index.index (omega arith) c.args.sets.now c.loop-index.sets c.class_at.new.sets c.loop-index.invariant.goes_on c.class_at.ensures.goes_on;
    }
