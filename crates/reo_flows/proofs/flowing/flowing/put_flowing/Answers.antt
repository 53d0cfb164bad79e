use Rattle.std.proofs.Common.{◌≡◌, ◌∙◌, ◌++◌, ◌∷◌, [], ℕ, List, cond, length, get_or, ap, sym, arith}
use Rattle.std.proofs.lemmas.List.{take_all}
use Rattle.std.proofs.lemmas.List.Elements.{filter_more}
use Rattle.reo_net_base.specs.Net.{Net, net_of}
use Rattle.reo_flows.specs.flowing.Flowing.{flowing_of, flows_by}
use Rattle.reo_flows.proofs.flowing.Rows.{row_there}
use Rattle.reo_flows.proofs.flowing.flowing.put_flowing.Goals as goal

pub add_flowing-requires-clause-one_row : goal.add_flowing-requires-clause-one_row
add_flowing-requires-clause-one_row g c = c.requires.1.one_row

pub add_flowing-requires-clause-joint : goal.add_flowing-requires-clause-joint
add_flowing-requires-clause-joint g c = (c.requires.2 c.loop-index.index (omega arith)).0

pub add_flowing-requires-clause-in_table : goal.add_flowing-requires-clause-in_table
add_flowing-requires-clause-in_table g c =
    row_there (net_of g.P.Primitive.behaviour c.args.circuit.now) c.known.ensures.wired c.requires.0 c.args.rows.now c.requires.1 (get_or c.args.joints.now c.loop-index.index 0) (c.requires.2 c.loop-index.index (omega arith))

pub loop-index-preserved : goal.loop-index-preserved
loop-index-preserved g c =
    let net : Net = net_of g.P.Primitive.behaviour c.args.circuit.now in
    let x : ℕ = get_or c.args.joints.now c.loop-index.index 0 in
    c.in_ok-add_flowing.ensures
    ∙ ap (λ (xs : List ℕ). xs ++ cond (flows_by net c.args.rows.now x) (x ∷ []) []) c.loop-index.invariant
    ∙ sym (filter_more (flows_by net c.args.rows.now) c.args.joints.now c.loop-index.index 0 (omega arith))

pub returns : goal.returns
returns g c =
    let net : Net = net_of g.P.Primitive.behaviour c.args.circuit.now in
    let last : c.loop-index.index ≡ length c.args.joints.now = omega arith in
    c.loop-index.invariant ∙ ap (flowing_of net c.args.rows.now) (take_all c.loop-index.index c.args.joints.now (omega (arith, last)))
