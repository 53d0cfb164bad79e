use Rattle.std.proofs.Common.{◌≡◌, ◌∙◌, ◌+◌, ◌<◌, ◌≤◌, ℕ, [], get_or, subst, sym, arith}
use Rattle.reo_net_base.specs.Net.{Net, net_of}
use Rattle.reo_net_laws.specs.Knots.{in_knot, knot_count}
use Rattle.reo_rounds.specs.Plans.{IsPlanFault}
use Rattle.reo_part_plans.specs.Plannings.{ArePlanned, weight_left}
use Rattle.reo_part_plans.proofs.Plannings.{least_over, planned_more, planned_none, planned_fit, passed_on, ticked_all, ticked_more, ticked_over}
use Rattle.reo_settling.proofs.HeldTables.{forgotten_steady, refused_by, told_is, untold_is}
use Rattle.reo_settling.proofs.Listed.{flowing_same, listed_all, listed_more, listed_none, told_of_some}
use Rattle.reo_settling.proofs.Served.{AreSettledFar, settled_next}
use Rattle.reo_settling.proofs.lookups.Lookups.find_rows.Goals as goal

pub returns-in_err-find_part-clause-exact : goal.returns-in_err-find_part-clause-exact
returns-in_err-find_part-clause-exact g c =
    let net : Net = net_of g.P.Primitive.behaviour c.args.planning.now.circuit.now in
    let lt : c.loop-part.part < knot_count c.args.planning.now.knots.now = omega arith in
    passed_on c.from_residual.result c.in_err-find_part.field-0.0
    (ArePlanned c.args.planning.now.budget net c.args.planning.now.knots.now c.args.planning.now.turn (knot_count c.args.planning.now.knots.now)) (IsPlanFault c.args.planning.now.budget net) c.from_residual.ensures
    (least_over c.args.planning.now.budget net c.args.planning.now.knots.now c.requires.planning.knots c.args.planning.now.turn c.loop-part.part lt c.loop-part.rows c.loop-part.invariant.far.planned.planned c.in_err-find_part.field-0.0 c.in_err-find_part.ensures.exact)

pub returns-in_err-find_part-clause-ticks : goal.returns-in_err-find_part-clause-ticks
returns-in_err-find_part-clause-ticks g c = λ weights are.
    let lt : c.loop-part.part < knot_count c.args.planning.now.knots.now = omega arith in
    ticked_all (weight_left c.args.kept.now c.args.planning.now.budget weights) c.loop-part.part (knot_count c.args.planning.now.knots.now) c.args.steps.now c.loop-part.steps c.find_part.new.steps
    lt (c.loop-part.invariant.ticks weights are) (c.find_part.ensures.ticks (weights c.loop-part.part) (are c.loop-part.part lt))

pub loop-part-init : goal.loop-part-init
loop-part-init g c =
    let net : Net = net_of g.P.Primitive.behaviour c.args.planning.now.circuit.now in
    let next : ℕ = c.next_to_settle-part.result in
    let to = c.next_to_settle-part.ensures in
    let next_in : next ≤ knot_count c.args.planning.now.knots.now = omega (arith, to.in_range, c.requires.kept.sizes.one_each) in
    let forgotten = c.forget.ensures in
    let first : AreSettledFar c.args.planning.now.budget net c.args.planning.now.knots.now c.args.planning.now.turn c.args.kept.now c.replace-told.result 0 c.args.list c.forget.new.self.flowing = record {
      planned = planned_none c.args.planning.now.budget net c.args.planning.now.knots.now c.args.planning.now.turn c.args.kept.now.rows c.args.list c.requires.list c.requires.kept.sizes.one_row;
      listed = listed_none net c.args.planning.now.knots.now c.args.kept.now c.replace-told.result c.args.list c.args.self.now.flowing c.forget.new.self.flowing forgotten.flowing c.requires.lookups.one_list
          (λ told. c.requires.lookups.flowing (sym c.replace-told.ensures.value ∙ told));
    } in
    let untold = forgotten.told ∙ c.replace-told.ensures.after in
    let steady = forgotten_steady net c.args.planning.now.knots.now c.args.kept.now c.args.self.now c.replace-told.new.dest c.forget.new.self c.replace-told.ensures.after c.requires.lookups forgotten in
    record {
      in_range = next_in;
      far = settled_next c.args.planning.now.budget net c.known.ensures.wired c.args.planning.now.knots.now c.requires.planning.knots c.args.planning.now.turn c.args.kept.now c.requires.kept c.replace-told.result c.args.list c.forget.new.self.flowing 0 next next_in to first;
      untold = untold;
      steady = record {
        orders = steady.orders;
        one_list = steady.one_list;
        one_each = steady.one_each;
        tables = steady.tables;
        bounds = steady.bounds;
        plans = steady.plans;
        marks = steady.marks;
      };
      ticks = λ weights are. omega arith;
    }

pub loop-part-preserved : goal.loop-part-preserved
loop-part-preserved g c =
    let net : Net = net_of g.P.Primitive.behaviour c.args.planning.now.circuit.now in
    let n : ℕ = c.loop-part.part in
    let next : ℕ = c.next_to_settle-part-in-loop-part.result in
    let to = c.next_to_settle-part-in-loop-part.ensures in
    let lt : n < knot_count c.args.planning.now.knots.now = omega arith in
    let next_in : next ≤ knot_count c.args.planning.now.knots.now = omega (arith, to.in_range, c.requires.kept.sizes.one_each) in
    let more : AreSettledFar c.args.planning.now.budget net c.args.planning.now.knots.now c.args.planning.now.turn c.args.kept.now c.replace-told.result (n + 1) c.find_part.new.rows c.find_part.new.self.flowing = record {
      planned = planned_more c.args.planning.now.budget net c.args.planning.now.knots.now c.args.planning.now.turn n c.args.kept.now.rows c.loop-part.rows c.find_part.new.rows c.loop-part.invariant.far.planned c.in_ok-find_part.ensures.exact;
      listed = listed_more net c.known.ensures.wired c.args.planning.now.knots.now c.args.kept.now c.replace-told.result c.args.planning.now.budget c.args.planning.now.turn n c.loop-part.rows c.find_part.new.rows c.loop-part.self c.find_part.new.self
          c.loop-part.invariant.far.listed c.in_ok-find_part.ensures.exact c.find_part.ensures.listed c.in_ok-find_part.ensures.flowing;
    } in
    record {
      in_range = next_in;
      far = settled_next c.args.planning.now.budget net c.known.ensures.wired c.args.planning.now.knots.now c.requires.planning.knots c.args.planning.now.turn c.args.kept.now c.requires.kept c.replace-told.result c.find_part.new.rows c.find_part.new.self.flowing (n + 1) next next_in to more;
      untold = c.find_part.ensures.listed.told ∙ c.loop-part.invariant.untold;
      steady = c.find_part.ensures.steady;
      ticks = λ weights are.
          ticked_over (weight_left c.args.kept.now c.args.planning.now.budget weights) (n + 1) next c.args.steps.now c.find_part.new.steps (omega (arith, to.from_on))
          (ticked_more (weight_left c.args.kept.now c.args.planning.now.budget weights) n c.args.steps.now c.loop-part.steps c.find_part.new.steps
          (c.loop-part.invariant.ticks weights are) (c.find_part.ensures.ticks (weights n) (are n lt)));
    }

pub returns-clause-fit : goal.returns-clause-fit
returns-clause-fit g c =
    let net : Net = net_of g.P.Primitive.behaviour c.args.planning.now.circuit.now in
    let last : c.loop-part.part ≡ knot_count c.args.planning.now.knots.now = omega (arith, c.loop-part.invariant.in_range) in
    planned_fit c.args.planning.now.budget net c.known.ensures.wired c.args.planning.now.knots.now c.requires.planning.knots c.args.planning.now.turn c.loop-part.rows
    (subst (λ (n : ℕ). ArePlanned c.args.planning.now.budget net c.args.planning.now.knots.now c.args.planning.now.turn n c.loop-part.rows) last c.loop-part.invariant.far.planned.planned)

pub find_part-requires-clause-told : goal.find_part-requires-clause-told
find_part-requires-clause-told g c = λ told settled.
    let net : Net = net_of g.P.Primitive.behaviour c.args.planning.now.circuit.now in
    let lt : c.loop-part.part < knot_count c.args.planning.now.knots.now = omega arith in
    flowing_same net c.known.ensures.wired (in_knot c.args.planning.now.knots.now.numbers c.loop-part.part) c.args.kept.now.rows c.loop-part.rows
    (λ s s_in h. c.loop-part.invariant.far.planned.rest c.loop-part.part s (omega arith) h) (get_or c.loop-part.self.flowing c.loop-part.part [])
    (c.loop-part.invariant.far.listed.rest told c.loop-part.part (omega arith) lt settled)

pub returns-in_err-find_part-clause-refused : goal.returns-in_err-find_part-clause-refused
returns-in_err-find_part-clause-refused g c = refused_by c.from_residual.result (λ later.
    untold_is (net_of g.P.Primitive.behaviour c.args.planning.now.circuit.now) c.args.planning.now.knots.now later c.find_part.new.self c.find_part.ensures.steady (c.find_part.ensures.listed.told ∙ c.loop-part.invariant.untold))

pub returns-clause-lookups : goal.returns-clause-lookups
returns-clause-lookups g c = λ later same.
    let net : Net = net_of g.P.Primitive.behaviour c.args.planning.now.circuit.now in
    told_is net c.args.planning.now.knots.now later c.loop-part.self c.loop-part.invariant.steady
    (told_of_some net c.args.planning.now.knots.now c.loop-part.rows c.loop-part.self.flowing (listed_all net c.args.planning.now.knots.now c.args.kept.now c.replace-told.result c.loop-part.part c.loop-part.rows c.loop-part.self.flowing (omega (arith, c.loop-part.invariant.in_range)) c.loop-part.invariant.far.listed) later same)

pub returns-clause-flowing : goal.returns-clause-flowing
returns-clause-flowing g c =
    let net : Net = net_of g.P.Primitive.behaviour c.args.planning.now.circuit.now in
    listed_all net c.args.planning.now.knots.now c.args.kept.now c.replace-told.result c.loop-part.part c.loop-part.rows c.loop-part.self.flowing (omega (arith, c.loop-part.invariant.in_range)) c.loop-part.invariant.far.listed
