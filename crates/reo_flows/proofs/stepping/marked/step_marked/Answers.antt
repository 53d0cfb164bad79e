use Rattle.std.proofs.Common.{ℕ, ◌+◌, ◌-◌, ◌≤◌, ◌∙◌, List, length, map, ap, sym, arith}
use Rattle.reo_net_base.specs.Net.{all_sides, net_of}
use Rattle.reo_net_laws.proofs.Sides.{rows_length}
use Rattle.reo_net_laws.proofs.Shapes.{count_same}
use Rattle.reo_flows.proofs.stepping.Far.{ends_kept, far_all, far_more, far_none, far_over, same_count}
use Rattle.reo_flows.proofs.stepping.NextLemmas.{none_changes}
use Rattle.reo_flows.proofs.stepping.marked.step_marked.Goals as goal

pub loop-index-init : goal.loop-index-init
loop-index-init g c =
    let marks = c.requires.marks.one_each in
    let next : ℕ = c.next_set-index.result in
    let in_range = c.next_set-index.ensures.in_range in
    record {
      in_range = in_range;
      far = far_over g.P.Primitive.behaviour g.P.Primitive.settled c.args.circuit.now c.args.rows.now c.args.items.now g.P.Primitive.lasting g.met.P.Primitive.quiet g.met.P.Primitive.keeps_nothing c.known.ensures.wired c.requires.colouring
          next 0 next c.args.circuit.now c.args.items.now (omega arith) (omega (arith, marks, in_range))
          (none_changes g.P.Primitive.behaviour g.P.Primitive.lasting c.args.circuit.now c.args.rows.now c.args.marks.now c.requires.marks 0 next c.next_set-index.ensures)
          (far_none g.P.Primitive.behaviour g.P.Primitive.settled c.args.circuit.now c.args.rows.now c.args.items.now c.requires.colouring.one_each);
    }

pub step_one-requires-clause-ends : goal.step_one-requires-clause-ends
step_one-requires-clause-ends g c =
    let far = c.loop-index.invariant.far in
    ends_kept (net_of g.P.Primitive.behaviour c.args.circuit.now) (net_of g.P.Primitive.behaviour c.loop-index.circuit) far.shape.joints far.shape.primitives c.args.ends.now c.requires.ends

pub step_one-requires-clause-index : goal.step_one-requires-clause-index
step_one-requires-clause-index g c =
    let far = c.loop-index.invariant.far in
    let marks = c.requires.marks.one_each in
    omega (
      arith,
      marks,
      same_count g.P.Primitive.behaviour g.P.Primitive.settled c.args.circuit.now c.args.rows.now c.args.items.now c.loop-index.circuit far.shape,
    )

pub step_one-requires-clause-rows : goal.step_one-requires-clause-rows
step_one-requires-clause-rows g c =
    let far = c.loop-index.invariant.far in
    let bs = map g.P.Primitive.behaviour c.args.circuit.now.primitives in
    rows_length (all_sides bs) c.args.rows.now c.requires.colouring.rows_fit.in_tables
    ∙ sym (count_same bs (map g.P.Primitive.behaviour c.loop-index.circuit.primitives) far.shape.primitives)

pub step_one-requires-clause-items : goal.step_one-requires-clause-items
step_one-requires-clause-items g c =
    let far = c.loop-index.invariant.far in
    far.count ∙ ap (λ (js : List _). length js) (sym far.shape.joints)

pub loop-index-preserved : goal.loop-index-preserved
loop-index-preserved g c =
    let far = c.loop-index.invariant.far in
    let marks = c.requires.marks.one_each in
    let next : ℕ = c.next_set-index-in-loop-index.result in
    let in_range = c.next_set-index-in-loop-index.ensures.in_range in
    let on : c.loop-index.index + 1 ≤ next = omega (arith, c.next_set-index-in-loop-index.ensures.from_on) in
    let more = far_more g.P.Primitive.behaviour g.P.Primitive.settled c.args.circuit.now c.args.rows.now c.args.items.now
    c.loop-index.index c.loop-index.circuit c.step_one.new.circuit c.loop-index.items c.step_one.new.items (omega (arith, marks)) far
    c.step_one.ensures.circuit c.step_one.ensures.shape c.step_one.ensures.items in
    record {
      in_range = in_range;
      far = far_over g.P.Primitive.behaviour g.P.Primitive.settled c.args.circuit.now c.args.rows.now c.args.items.now g.P.Primitive.lasting g.met.P.Primitive.quiet g.met.P.Primitive.keeps_nothing c.known.ensures.wired c.requires.colouring
          (next - (c.loop-index.index + 1)) (c.loop-index.index + 1) next c.step_one.new.circuit c.step_one.new.items (omega arith) (omega (arith, marks, in_range))
          (none_changes g.P.Primitive.behaviour g.P.Primitive.lasting c.args.circuit.now c.args.rows.now c.args.marks.now c.requires.marks (c.loop-index.index + 1) next c.next_set-index-in-loop-index.ensures)
          more;
    }

pub returns-clause-circuit : goal.returns-clause-circuit
returns-clause-circuit g c =
    let marks = c.requires.marks.one_each in
    far_all g.P.Primitive.behaviour g.P.Primitive.settled c.args.circuit.now c.args.rows.now c.args.items.now
    c.loop-index.index c.loop-index.circuit c.loop-index.items (omega (arith, marks, c.loop-index.invariant.in_range)) c.loop-index.invariant.far

pub returns-clause-shape : goal.returns-clause-shape
returns-clause-shape g c = c.loop-index.invariant.far.shape

pub returns-clause-items : goal.returns-clause-items
returns-clause-items g c = c.loop-index.invariant.far.none
