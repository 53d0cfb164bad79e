use Rattle.std.proofs.Common.{◌≡◌, ◌+◌, ◌<◌, ◌≤◌, ℕ, subst, arith}
use Rattle.reo_net_base.specs.Net.{Net, net_of}
use Rattle.reo_net_laws.specs.Knots.{knot_count}
use Rattle.reo_rounds.specs.Plans.{IsPlanFault}
use Rattle.reo_planning.specs.Planned.{ArePlanned, sum_below, weight_left}
use Rattle.reo_planning.proofs.Parting.{planned_more, least_over}
use Rattle.reo_planning.proofs.Firsts.{planned_fit}
use Rattle.reo_planning.proofs.Passing.{passed_on}
use Rattle.reo_planning.proofs.Summing.{ticked_more, ticked_all}
use Rattle.reo_planning.proofs.planning.rows_with.Goals as goal

pub returns-in_err-plan_part-clause-exact : goal.returns-in_err-plan_part-clause-exact
returns-in_err-plan_part-clause-exact g c =
    let net : Net = net_of g.P.Primitive.behaviour c.args.planning.now.circuit.now in
    let lt : c.loop-knot.knot < knot_count c.args.planning.now.knots.now = omega arith in
    passed_on c.from_residual-in_err-plan_part.result c.in_err-plan_part.field-0.0
    (ArePlanned c.args.planning.now.budget net c.args.planning.now.knots.now c.args.planning.now.turn (knot_count c.args.planning.now.knots.now)) (IsPlanFault c.args.planning.now.budget net) c.from_residual-in_err-plan_part.ensures
    (least_over c.args.planning.now.budget net c.args.planning.now.knots.now c.requires.planning.knots c.args.planning.now.turn c.loop-knot.knot lt c.loop-knot.rows c.loop-knot.invariant.far.planned c.in_err-plan_part.field-0.0 c.in_err-plan_part.ensures.exact)

pub returns-in_err-plan_part-clause-ticks : goal.returns-in_err-plan_part-clause-ticks
returns-in_err-plan_part-clause-ticks g c = λ weights are.
    let net : Net = net_of g.P.Primitive.behaviour c.args.planning.now.circuit.now in
    let lt : c.loop-knot.knot < knot_count c.args.planning.now.knots.now = omega arith in
    ticked_all (weight_left c.args.kept.now c.args.planning.now.budget weights) c.loop-knot.knot (knot_count c.args.planning.now.knots.now) c.args.steps.now c.loop-knot.steps c.plan_part.new.steps
    lt (c.loop-knot.invariant.ticks weights are) (c.plan_part.ensures.ticks (weights c.loop-knot.knot) (are c.loop-knot.knot lt))

pub loop-knot-preserved : goal.loop-knot-preserved
loop-knot-preserved g c =
    let net : Net = net_of g.P.Primitive.behaviour c.args.planning.now.circuit.now in
    let lt : c.loop-knot.knot < knot_count c.args.planning.now.knots.now = omega arith in
    record {
      far = planned_more c.args.planning.now.budget net c.args.planning.now.knots.now c.args.planning.now.turn c.loop-knot.knot c.args.kept.now.rows c.loop-knot.rows c.plan_part.new.rows c.loop-knot.invariant.far c.in_ok-plan_part.ensures.exact;
      ready = c.in_ok-plan_part.ensures.tables;
      ticks = λ weights are. ticked_more (weight_left c.args.kept.now c.args.planning.now.budget weights) c.loop-knot.knot c.args.steps.now c.loop-knot.steps c.plan_part.new.steps
          (c.loop-knot.invariant.ticks weights are) (c.plan_part.ensures.ticks (weights c.loop-knot.knot) (are c.loop-knot.knot lt));
    }

pub returns-clause-fit : goal.returns-clause-fit
returns-clause-fit g c =
    let net : Net = net_of g.P.Primitive.behaviour c.args.planning.now.circuit.now in
    let last : c.loop-knot.knot ≡ knot_count c.args.planning.now.knots.now = omega arith in
    planned_fit c.args.planning.now.budget net c.known.ensures.wired c.args.planning.now.knots.now c.requires.planning.knots c.args.planning.now.turn c.loop-knot.rows
    (subst (λ (n : ℕ). ArePlanned c.args.planning.now.budget net c.args.planning.now.knots.now c.args.planning.now.turn n c.loop-knot.rows) last c.loop-knot.invariant.far.planned)

pub returns-clause-exact : goal.returns-clause-exact
returns-clause-exact g c =
    let net : Net = net_of g.P.Primitive.behaviour c.args.planning.now.circuit.now in
    let last : c.loop-knot.knot ≡ knot_count c.args.planning.now.knots.now = omega arith in
    subst (λ (n : ℕ). ArePlanned c.args.planning.now.budget net c.args.planning.now.knots.now c.args.planning.now.turn n c.loop-knot.rows) last c.loop-knot.invariant.far.planned

pub returns-clause-ticks : goal.returns-clause-ticks
returns-clause-ticks g c = λ weights are.
    let last : c.loop-knot.knot ≡ knot_count c.args.planning.now.knots.now = omega arith in
    subst (λ (n : ℕ). c.loop-knot.steps ≤ c.args.steps.now + sum_below n (weight_left c.args.kept.now c.args.planning.now.budget weights)) last (c.loop-knot.invariant.ticks weights are)
