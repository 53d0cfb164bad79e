use Rattle.std.proofs.Common.{◌≡◌}
use Rattle.reo_net_base.specs.Net.{Net, net_of}
use Rattle.reo_net.specs.colouring.Filled.{AllFit}
use Rattle.reo_net.proofs.colouring.ItemLemmas.{filled_from}
use Rattle.reo_net.proofs.colouring.colours.colour_with.Goals as goal

pub returns-then-all_fit : goal.returns-then-all_fit
returns-then-all_fit g c = record {
  rows_fit = c.requires.rows;
  one_each = c.in_ok-items.ensures.filled.one_each;
  items_fit = rw c.as_slice.ensures at (c.all_fit.ensures.0 c.if-all_fit.true);
}

pub returns-else-all_fit : goal.returns-else-all_fit
returns-else-all_fit g c = λ others col.
    let net : Net = net_of g.P.Primitive.behaviour c.args.circuit.now in
    let same : others ≡ c.in_ok-items.items = c.in_ok-items.ensures.one others (filled_from net c.args.rows.now others col) in
    let fit : AllFit net c.args.rows.now c.as_slice.result.now = rw (c.as_slice.ensures, ← same) col.items_fit in
    let wrong = rw c.if-all_fit.false at (c.all_fit.ensures.1 fit) in
    cc
