use Rattle.std.proofs.Common.{◌∙◌, length, map, ap, sym, subst}
use Rattle.reo_net_base.specs.Net.{Net, net_of}
use Rattle.reo_net_base.specs.First.{positions}
use Rattle.reo_refute_base.specs.Items.{Lists, AreItemLists}
use Rattle.reo_refute_base.specs.Wide.{IsWide}
use Rattle.reo_refute_parts.specs.places.KeyPlaces.{position_of}
use Rattle.reo_refute_live.specs.OpenBranch.{AreSmall}
use Rattle.reo_refute.proofs.check.Judged.{lists_length, lists_small}
use Rattle.reo_refute.specs.proving.Making.{AreFew, ArePartsMade}
use Rattle.reo_refute.proofs.proving.FewItems.{lists_few}
use Rattle.reo_refute.proofs.proving.Proved.{proved}
use Rattle.reo_refute.proofs.proving.making.prove.Goals as goal

pub put_parts-requires-clause-round : goal.put_parts-requires-clause-round
put_parts-requires-clause-round g c =
    let net : Net = net_of g.P.Primitive.behaviour c.args.circuit.now in
    let are : AreItemLists net c.in-Some.lists × (IsWide net → ⊥) = rw c.in-Some.is at c.in_ok-item_lists.ensures in
    record {
      given = c.requires.first.1.colouring.rows_fit.in_tables;
      places = ap (map (position_of net c.args.turn)) c.as_slice.ensures ∙ c.in_ok-places-in-Some.ensures c.args.turn;
      tables = c.in_ok-tables-in-Some.ensures;
      supply = ap (λ (l : Lists). length l) c.as_slice-in-Some.ensures ∙ lists_length net c.in-Some.lists are.0;
      small = subst AreSmall (sym c.as_slice-in-Some.ensures) (lists_small c.items_are_listed.ensures net c.known.ensures.wired c.in-Some.lists are.0 are.1);
    }

pub put_parts-requires-clause-first : goal.put_parts-requires-clause-first
put_parts-requires-clause-first g c = c.requires.first.1.least

pub put_parts-requires-clause-few : goal.put_parts-requires-clause-few
put_parts-requires-clause-few g c =
    let net : Net = net_of g.P.Primitive.behaviour c.args.circuit.now in
    let are : AreItemLists net c.in-Some.lists × (IsWide net → ⊥) = rw c.in-Some.is at c.in_ok-item_lists.ensures in
    subst AreFew (sym c.as_slice-in-Some.ensures) (lists_few c.items_are_listed.ensures net c.known.ensures.wired c.in-Some.lists are.0 are.1)

pub returns-in-None : goal.returns-in-None
returns-in-None g c =
    let net : Net = net_of g.P.Primitive.behaviour c.args.circuit.now in
    let wide : IsWide net = rw c.in-None.is at c.in_ok-item_lists.ensures in
    absurd (c.requires.narrow wide)

pub returns : goal.returns
returns g c =
    let net : Net = net_of g.P.Primitive.behaviour c.args.circuit.now in
    let are : AreItemLists net c.in-Some.lists × (IsWide net → ⊥) = rw c.in-Some.is at c.in_ok-item_lists.ensures in
    proved net c.args.turn c.args.rows.now c.requires.first c.requires.narrow c.in-Some.lists are.0 c.new-out.result c.put_parts.new.out c.new-out.ensures
    (subst (λ (l : Lists). ArePartsMade net c.args.turn c.args.rows.now l 0 (length (positions net c.args.turn)) c.new-out.result c.put_parts.new.out) c.as_slice-in-Some.ensures c.in_ok-put_parts-in-Some.ensures)
