use Rattle.std.proofs.Common.{◌≡◌, ◌∙◌, ◌+◌, ℕ, List, [], sym, ap, subst, arith}
use Rattle.reo_values.specs.declared.value.Value.{Value}
use Rattle.reo_net_base.specs.Ends.{IsGiver}
use Rattle.reo_net_base.specs.declared.joint.End.{End}
use Rattle.reo_net_base.specs.Net.{Net, net_of}
use Rattle.reo_net_base.specs.declared.joint.Joint.{Joint}
use Rattle.reo_joint_values.specs.Standing.{no_joint}
use Rattle.reo_reach.specs.Added.{AreAdded, IsProduced}
use Rattle.reo_reach.proofs.AddedLemmas.{Below, added_none, added_more}
use Rattle.reo_reach.proofs.RowLemmas.{all_made}
use Rattle.reo_joint_values.proofs.InOrder.{giver_at}
use Rattle.reo_reach.proofs.visits.items_of.Goals as goal

pub plain_rows-row-end-requires : goal.plain_rows-row-end-requires
plain_rows-row-end-requires g c =
    let net : Net = net_of g.P.Primitive.behaviour c.args.circuit.now in
    subst (λ (e : End). IsGiver net e) (ap (λ (j : Joint). j.giver) (c.joint.ensures no_joint)) (giver_at net c.known.ensures.wired c.args.joint c.requires.joint)

pub loop-row-init : goal.loop-row-init
loop-row-init g c =
    let net : Net = net_of g.P.Primitive.behaviour c.args.circuit.now in
    subst (λ (xs : List Value). AreAdded [] xs (Below (IsProduced net c.args.supply.now c.joint.result.giver) 0)) (sym c.new-items.ensures) (added_none [] (IsProduced net c.args.supply.now c.joint.result.giver))

pub add_row-requires : goal.add_row-requires
add_row-requires g c =
    let net : Net = net_of g.P.Primitive.behaviour c.args.circuit.now in
    record {
      giving = record {
        ends = c.requires.ends;
        supply = c.requires.supply;
        giver = subst (λ (e : End). IsGiver net e) (ap (λ (j : Joint). j.giver) (c.joint.ensures no_joint)) (giver_at net c.known.ensures.wired c.args.joint c.requires.joint);
        row = omega (arith, c.loop-row-test.true, c.plain_rows-row-end.ensures);
      };
    }

pub loop-row-preserved : goal.loop-row-preserved
loop-row-preserved g c =
    let net : Net = net_of g.P.Primitive.behaviour c.args.circuit.now in
    added_more [] c.loop-row.items c.add_row.new.items (IsProduced net c.args.supply.now c.joint.result.giver) c.loop-row.row c.loop-row.invariant c.in_ok-add_row.ensures

pub returns : goal.returns
returns g c =
    let net : Net = net_of g.P.Primitive.behaviour c.args.circuit.now in
    let last : c.loop-row.row ≡ c.plain_rows-row-end.result = omega arith in
    all_made net c.args.supply.now c.args.joint c.joint.result.giver c.loop-row.row c.loop-row.items (ap (λ (j : Joint). j.giver) (c.joint.ensures no_joint))
    (ap (λ (n : ℕ). n + 1) last ∙ c.plain_rows-row-end.ensures) c.loop-row.invariant
