use Rattle.std.proofs.Common.{List, subst, arith}
use Rattle.reo_values.specs.declared.value.Value.{Value}
use Rattle.reo_net_base.specs.Net.{Net, net_of, end_of}
use Rattle.reo_refute_base.specs.Items.{given_on}
use Rattle.reo_refute_parts.specs.lists.Noted.{IsNoted}
use Rattle.reo_refute_parts.proofs.lists.NotedLemmas.{noted_none_yet, noted_next}
use Rattle.reo_refute_parts.proofs.lists.rows.note_passed.Goals as goal

pub loop-index-init : goal.loop-index-init
loop-index-init g c = noted_none_yet c.args.old.now c.args.new.now

pub loop-index-preserved : goal.loop-index-preserved
loop-index-preserved g c =
    let net : Net = net_of g.P.Primitive.behaviour c.args.giving.now.circuit.now in
    let f : Value → List Value = given_on net c.args.giving.now.row c.args.giving.now.giver (end_of c.args.giving.now.giver.primitive c.args.from) in
    noted_next f c.args.taken.now c.loop-index.index c.index-taken-index.result (omega arith) c.args.old.now c.args.new.now c.loop-index.new c.note_for.new.new c.loop-index.invariant
    (subst (λ (x : Value). IsNoted c.args.old.now c.loop-index.new (f x) c.note_for.new.new) c.index-taken-index.is c.in_ok-note_for.ensures)
