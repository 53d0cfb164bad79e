use Rattle.std.proofs.Common.{ℕ, List, Option, subst}
use Rattle.reo_values.specs.declared.value.Value.{Value}
use Rattle.reo_net_base.specs.Net.{Net, net_of}
use Rattle.reo_net_base.specs.Colouring.{IsFilled}
use Rattle.reo_net.specs.colouring.Filled.{AllFit}
use Rattle.reo_refute.proofs.check.colouring.check_rows.Goals as goal

pub returns-in-None : goal.returns-in-None
returns-in-None g c =
    let net : Net = net_of g.P.Primitive.behaviour c.args.circuit.now in
    let items : List (Option Value) = c.in_ok-filled-in-Ok.filled.items in
    let filled : IsFilled net c.args.rows.now items = subst (λ (r : List ℕ). IsFilled net r items) c.in_ok-copy_rows-in-Ok.ensures c.in_ok-filled-in-Ok.ensures.items in
    let fit : AllFit net c.args.rows.now items = subst (λ (l : List (Option Value)). AllFit net c.args.rows.now l) c.as_slice.ensures c.in-None.ensures in
    (items, record { rows_fit = c.in-Ok.ensures.wrong; one_each = filled.one_each; items_fit = fit })
