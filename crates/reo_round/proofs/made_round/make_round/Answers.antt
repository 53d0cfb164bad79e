use Rattle.std.proofs.Common.{◌∙◌, List, ap, sym, subst}
use Rattle.std.specs.Prelude.{Option}
use Rattle.reo_values.specs.declared.value.Value.{Value}
use Rattle.reo_net_base.specs.Colouring.{IsColouring, RowsFit}
use Rattle.reo_net_base.specs.First.{IsFirst}
use Rattle.reo_net_base.specs.Moves.{moves_of}
use Rattle.reo_net_base.specs.Net.{Net, net_of}
use Rattle.reo_net_base.specs.Sides.{AreRowsOf}
use Rattle.reo_round.proofs.Filled.{held_flow, held_none, idle_is}
use Rattle.reo_round.proofs.made_round.make_round.Goals as goal

pub fill-requires-clause-rows : goal.fill-requires-clause-rows
fill-requires-clause-rows g c =
    subst (AreRowsOf (net_of g.P.Primitive.behaviour c.args.circuit.now)) (sym c.as_slice.ensures) c.requires.first.first.colouring.rows_fit.in_tables

pub fill-requires-clause-coloured : goal.fill-requires-clause-coloured
fill-requires-clause-coloured g c = record {
  items = c.requires.first.items;
  colouring = subst (λ (xs : List _). IsColouring (net_of g.P.Primitive.behaviour c.args.circuit.now) xs c.requires.first.items) (sym c.as_slice.ensures) c.requires.first.first.colouring;
}

pub fill-requires-clause-held : goal.fill-requires-clause-held
fill-requires-clause-held g c = held_none c.args.sheet.items _ c.clear.ensures c.requires.items.none

pub mark_flowing-requires-clause-rows : goal.mark_flowing-requires-clause-rows
mark_flowing-requires-clause-rows g c = subst (RowsFit (net_of g.P.Primitive.behaviour c.args.circuit.now)) (sym c.as_slice-2.ensures) c.requires.first.first.colouring.rows_fit

pub mark_flowing-requires-clause-flowing : goal.mark_flowing-requires-clause-flowing
mark_flowing-requires-clause-flowing g c =
    let net : Net = net_of g.P.Primitive.behaviour c.args.circuit.now in
    let first = c.requires.first in
    let coloured : IsColouring net c.as_slice.result.now first.items = subst (λ (xs : List _). IsColouring net xs first.items) (sym c.as_slice.ensures) first.first.colouring in
    let filled = c.in_ok-fill.ensures first.items coloured in
    let is : IsColouring net c.args.sheet.rows c.fill.new.items = subst (λ (xs : List (Option Value)). IsColouring net c.args.sheet.rows xs) (sym filled.items) first.first.colouring in
    rw (c.as_slice-2.ensures, c.as_slice-3.ensures) (held_flow net c.known.ensures.wired c.args.sheet.rows c.fill.new.items is c.fill.new.flowing filled.held)

pub returns-clause-is_made : goal.returns-clause-is_made
returns-clause-is_made g c =
    let net : Net = net_of g.P.Primitive.behaviour c.args.circuit.now in
    let first = c.requires.first in
    let coloured : IsColouring net c.as_slice.result.now first.items = subst (λ (xs : List _). IsColouring net xs first.items) (sym c.as_slice.ensures) first.first.colouring in
    let filled = c.in_ok-fill.ensures first.items coloured in
    let is : IsFirst net c.args.turn c.args.sheet.rows c.fill.new.items = subst (λ (xs : List (Option Value)). IsFirst net c.args.turn c.args.sheet.rows xs) (sym filled.items) first.first in
    let idle = c.is_empty-idle.ensures ∙ sym (idle_is net c.known.ensures.wired c.args.sheet.rows c.fill.new.items is.colouring c.fill.new.flowing filled.held) in
    let marks = rw c.as_slice-2.ensures at c.mark_flowing.ensures in
    let by_items : IsColouring net c.args.sheet.rows c.as_slice-4.result.now = subst (λ (xs : List (Option Value)). IsColouring net c.args.sheet.rows xs) (sym c.as_slice-4.ensures) is.colouring in
    let moves = c.in_ok-moves.ensures c.args.sheet.rows by_items marks ∙ ap (λ (xs : List (Option Value)). moves_of net c.args.circuit.now.ports c.args.sheet.rows xs) c.as_slice-4.ensures in
    record {
      first = is;
      flowing = held_flow net c.known.ensures.wired c.args.sheet.rows c.fill.new.items is.colouring c.fill.new.flowing filled.held;
      marks = marks;
      line = λ t. record { round = c.args.turn; idle = idle t; moves = moves t; entries = c.new.ensures t };
    }

pub fill-requires-clause-lists : goal.fill-requires-clause-lists
fill-requires-clause-lists g c = rw c.as_slice.ensures c.requires.lists
