use Rattle.std.proofs.Common.{◌≡◌, ◌∙◌, ℕ, ◌+◌, ◌<◌, [], Bool, List, true, not, length, ap, arith, subst, subst₂, sym}
use Rattle.std.proofs.lemmas.List.{get_or_default, length-set}
use Rattle.reo_net_base.specs.Net.{Net, net_of}
use Rattle.reo_net_laws.specs.Knots.{in_knot, knot_count}
use Rattle.reo_flows.specs.flowing.Flowing.{AreFlowingOf}
use Rattle.reo_planning.specs.declared.kept.Kept.{Kept}
use Rattle.reo_planning.specs.Keeping.{is_open}
use Rattle.reo_planning.specs.Marked.{AreMarked}
use Rattle.reo_planning.proofs.Flowing.{told_by_joints}
use Rattle.reo_planning.proofs.Storing.{marked_more, marked_next, marked_none}
use Rattle.reo_planning.proofs.kept.Kept.mark_rest.Goals as goal

pub loop-part-init : goal.loop-part-init
loop-part-init g c =
    let net : Net = net_of g.P.Primitive.behaviour c.args.circuit.now in
    let next : ℕ = c.next_clear-part.result in
    let is = c.next_clear-part.ensures in
    record {
      in_range = is.in_range;
      here = is.here;
      far = marked_next net c.args.knots.now c.args.rows.now 0 next c.args.self.now c.args.self.now (omega arith) is (marked_none net c.args.knots.now c.args.rows.now c.args.self.now);
    }

pub loop-part-preserved : goal.loop-part-preserved
loop-part-preserved g c =
    let net : Net = net_of g.P.Primitive.behaviour c.args.circuit.now in
    let n : ℕ = c.loop-part.part in
    let now : Kept = c.loop-part.self in
    let far = c.loop-part.invariant.far in
    let settled_in : n < length now.settled = omega arith in
    let n_in : n < knot_count c.args.knots.now = omega (arith, settled_in, far.one_each, c.requires.sizes.one_each) in
    let moving_in : n < length now.moving = omega (arith, n_in, far.one_mark, c.requires.sizes.one_mark) in
    let list_in : n < length c.args.flowing.now = omega (arith, n_in, c.requires.flowing.one_each) in
    let not_settled = c.loop-part.invariant.here settled_in in
    let open_ : is_open c.args.self.now n ≡ true = ap not (sym (far.rest n (omega arith)) ∙ not_settled) in
    let inside : ℕ → Bool = in_knot c.args.knots.now.numbers n in
    let here = c.at.ensures ∙ get_or_default c.args.flowing.now n c.at.result.now [] list_in in
    let of : AreFlowingOf net inside c.args.rows.now c.at.result.now = subst (AreFlowingOf net inside c.args.rows.now) (sym here) (c.requires.flowing.each n n_in open_) in
    let tells = told_by_joints net c.known.ensures.wired inside (c.requires.knots.are_knots n n_in).closed c.args.rows.now c.requires.rows c.at.result.now of c.is_empty.result c.is_empty.ensures in
    let settled : List Bool = c.put-in-loop-part.new.self in
    let moving : List Bool = c.put.new.self in
    let more : AreMarked net c.args.knots.now c.args.rows.now (n + 1) c.args.self.now (record now { settled = settled; moving = moving }) =
    subst₂ (λ (s m : List Bool). AreMarked net c.args.knots.now c.args.rows.now (n + 1) c.args.self.now (record now { settled = s; moving = m })) (sym c.put-in-loop-part.ensures) (sym c.put.ensures)
    (marked_more net c.args.knots.now c.args.rows.now n c.args.self.now now far (not c.is_empty.result) not_settled settled_in moving_in tells) in
    let one_each : length settled ≡ length now.settled = ap length c.put-in-loop-part.ensures ∙ length-set now.settled n true in
    let next : ℕ = c.next_clear-part-in-loop-part.result in
    let is = c.next_clear-part-in-loop-part.ensures in
    record {
      in_range = is.in_range;
      here = is.here;
      far = marked_next net c.args.knots.now c.args.rows.now (n + 1) next c.args.self.now (record now { settled = settled; moving = moving }) (omega (arith, settled_in, one_each)) is more;
    }

pub returns : goal.returns
returns g c =
    let net : Net = net_of g.P.Primitive.behaviour c.args.circuit.now in
    let far = c.loop-part.invariant.far in
    let last : c.loop-part.part ≡ knot_count c.args.knots.now = omega (arith, far.one_each, c.requires.sizes.one_each, c.loop-part.invariant.in_range) in
    subst (λ (n : ℕ). AreMarked net c.args.knots.now c.args.rows.now n c.args.self.now c.loop-part.self) last far
