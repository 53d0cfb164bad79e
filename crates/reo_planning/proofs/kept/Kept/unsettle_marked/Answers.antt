use Rattle.std.proofs.Common.{ℕ, ◌+◌, arith}
use Rattle.reo_net_base.specs.Net.{Net, net_of}
use Rattle.reo_planning.specs.Unsettling.{IsMarked}
use Rattle.reo_planning.proofs.Unsettled.{none_marked, unsettled_more, unsettled_none, unsettled_over}
use Rattle.reo_planning.proofs.kept.Kept.unsettle_marked.Goals as goal

pub loop-primitive-init : goal.loop-primitive-init
loop-primitive-init g c =
    let net : Net = net_of g.P.Primitive.behaviour c.args.circuit.now in
    let next : ℕ = c.next_set-primitive.result in
    let is = c.next_set-primitive.ensures in
    record {
      in_range = is.in_range;
      here = is.here;
      far = unsettled_over net c.args.knots.now (IsMarked c.args.marks.now) 0 next c.args.self.now c.args.self.now (omega (arith, is.from_on)) (none_marked c.args.marks.now 0 next is)
          (unsettled_none net c.args.knots.now (IsMarked c.args.marks.now) c.args.self.now);
    }

pub loop-primitive-preserved : goal.loop-primitive-preserved
loop-primitive-preserved g c =
    let net : Net = net_of g.P.Primitive.behaviour c.args.circuit.now in
    let n : ℕ = c.loop-primitive.primitive in
    let next : ℕ = c.next_set-primitive-in-loop-primitive.result in
    let is = c.next_set-primitive-in-loop-primitive.ensures in
    let more = unsettled_more net c.args.knots.now (IsMarked c.args.marks.now) n c.args.self.now c.loop-primitive.self c.unsettle.new.self (c.loop-primitive.invariant.here (omega arith)) c.loop-primitive.invariant.far c.unsettle.ensures in
    record {
      in_range = is.in_range;
      here = is.here;
      far = unsettled_over net c.args.knots.now (IsMarked c.args.marks.now) (n + 1) next c.args.self.now c.unsettle.new.self (omega (arith, is.from_on)) (none_marked c.args.marks.now (n + 1) next is) more;
    }
