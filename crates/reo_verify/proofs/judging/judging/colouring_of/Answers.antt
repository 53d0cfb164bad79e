use Rattle.reo_net_base.specs.Net.{Net, net_of}
use Rattle.reo_verify.proofs.judging.JudgeLemmas.{marks_wrong, coloured}
use Rattle.reo_verify.proofs.judging.judging.colouring_of.Goals as goal

pub returns-in-Err : goal.returns-in-Err
returns-in-Err g c =
    let net : Net = net_of g.P.Primitive.behaviour c.args.circuit.now in
    marks_wrong net c.args.entries.now c.in_ok-rows.rows c.in-Err.wrong c.in_ok-rows.ensures (rw c.as_slice.ensures at c.in-Err.ensures.wrong)

pub returns : goal.returns
returns g c =
    let net : Net = net_of g.P.Primitive.behaviour c.args.circuit.now in
    coloured net c.args.entries.now c.in_ok-rows.rows c.in_ok-colouring.colouring c.in_ok-rows.ensures (rw c.as_slice.ensures at c.in_default.ensures.wrong)
    c.in_ok-colouring.ensures.rows c.in_ok-colouring.ensures.items (rw (c.as_slice-rows.ensures, c.as_slice-items.ensures) at c.in_default-item_fault.ensures)
