use Rattle.std.proofs.Common.{◌∙◌, length, map, ap, sym, subst}
use Rattle.reo_net_base.specs.Net.{Net, net_of}
use Rattle.reo_refute_base.specs.Items.{Lists, AreItemLists}
use Rattle.reo_refute_base.specs.Wide.{IsWide}
use Rattle.reo_refute_parts.specs.places.KeyPlaces.{position_of}
use Rattle.reo_refute_live.specs.OpenBranch.{AreSmall}
use Rattle.reo_refute.proofs.check.Judged.{lists_length, lists_small, judged}
use Rattle.reo_refute.specs.check.Judging.{ArePartsTaken}
use Rattle.reo_refute.proofs.check.checking.judge.Goals as goal

pub check_parts-requires-clause-round : goal.check_parts-requires-clause-round
check_parts-requires-clause-round g c =
    let net : Net = net_of g.P.Primitive.behaviour c.args.circuit.now in
    let are : AreItemLists net c.in-Some.lists × (IsWide net → ⊥) = rw c.in-Some.is at c.in_ok-item_lists.ensures in
    record {
      given = c.in_ok-check_rows.ensures.1.rows_fit.in_tables;
      places = ap (map (position_of net c.args.turn)) c.as_slice.ensures ∙ c.in_ok-places-in-Some.ensures c.args.turn;
      tables = c.in_ok-tables-in-Some.ensures;
      supply = ap (λ (l : Lists). length l) c.as_slice-in-Some.ensures ∙ lists_length net c.in-Some.lists are.0;
      small = subst AreSmall (sym c.as_slice-in-Some.ensures) (lists_small c.items_are_listed.ensures net c.known.ensures.wired c.in-Some.lists are.0 are.1);
    }

pub returns : goal.returns
returns g c =
    let net : Net = net_of g.P.Primitive.behaviour c.args.circuit.now in
    let are : AreItemLists net c.in-Some.lists × (IsWide net → ⊥) = rw c.in-Some.is at c.in_ok-item_lists.ensures in
    judged net c.args.turn c.args.rows.now c.args.log.now c.in-Some.lists are.0 c.in_ok-check_rows.ensures are.1 c.new-lines.result c.new-lines.ensures.left c.new-lines.ensures.count c.check_parts.result
    (subst (λ (l : Lists). ArePartsTaken net c.args.turn c.args.rows.now l c.new-lines.result c.check_parts.result) c.as_slice-in-Some.ensures c.check_parts.ensures)
