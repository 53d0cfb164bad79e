use Rattle.std.proofs.Common.{◌≡◌, ℕ, List, length, get_or, subst, arith}
use Rattle.reo_values.specs.declared.value.Value.{Value}
use Rattle.reo_net_base.specs.declared.joint.End.{End}
use Rattle.reo_net_base.specs.Net.{Net, net_of, end_of}
use Rattle.reo_joint_values.specs.Standing.{IsGivenFor}
use Rattle.reo_reach.specs.Added.{AreAdded}
use Rattle.reo_reach.proofs.AddedLemmas.{Below, added_more}
use Rattle.reo_reach.proofs.RowLemmas.{passed_one, passed_all}
use Rattle.reo_reach.proofs.rows.add_passed.Goals as goal

pub loop-index-preserved : goal.loop-index-preserved
loop-index-preserved g c =
    let net : Net = net_of g.P.Primitive.behaviour c.args.giving.now.circuit.now in
    let source : End = end_of c.args.giving.now.giver.primitive c.args.from in
    let taken : List Value = c.args.taken.now in
    let one = passed_one net c.args.giving.now.giver c.args.giving.now.row source taken c.loop-index.index c.index-taken-index.result (omega arith) c.index-taken-index.is c.loop-index.items c.add_for.new.items c.in_ok-add_for.ensures in
    added_more c.args.items.now c.loop-index.items c.add_for.new.items (λ m x. (d : Value) → IsGivenFor net c.args.giving.now.giver c.args.giving.now.row source (get_or taken m d) x) c.loop-index.index c.loop-index.invariant one

pub returns : goal.returns
returns g c =
    let net : Net = net_of g.P.Primitive.behaviour c.args.giving.now.circuit.now in
    let source : End = end_of c.args.giving.now.giver.primitive c.args.from in
    let taken : List Value = c.args.taken.now in
    let last : c.loop-index.index ≡ length taken = omega arith in
    passed_all net c.args.giving.now.giver c.args.giving.now.row source taken c.args.items.now c.loop-index.items
    (subst (λ (n : ℕ). AreAdded c.args.items.now c.loop-index.items (Below (λ m x. (d : Value) → IsGivenFor net c.args.giving.now.giver c.args.giving.now.row source (get_or taken m d) x) n)) last c.loop-index.invariant)
