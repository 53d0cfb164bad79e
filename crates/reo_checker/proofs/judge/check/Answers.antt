-- What is wrong first is all that keeps the rows and items from being a colouring.
use Rattle.std.proofs.Common.{◌≡◌, length, arith, refl}
use Rattle.reo_net_base.specs.Net.{Net, net_of}
use Rattle.reo_net_base.specs.Colouring.{IsColouring}
use Rattle.reo_net.specs.colouring.Filled.{AllFit}
use Rattle.reo_checker.specs.declared.wrong.Wrong.TheVariants.{Item}
use Rattle.reo_checker.specs.Faults.{IsItemFault}
use Rattle.reo_checker.proofs.ExactLemmas.{wrong_colouring}
use Rattle.reo_checker.proofs.judge.check.Goals as goal

pub returns-in-Some-clause-exact : goal.returns-in-Some-clause-exact
returns-in-Some-clause-exact g c = (
  λ h. absurd cc,
  λ col.
      let net : Net = net_of g.P.Primitive.behaviour c.args.circuit.now in
      let here : IsColouring net c.as_slice-rows.result.now c.as_slice-items.result.now = rw (c.as_slice-rows.ensures, c.as_slice-items.ensures) col in
      let fault : IsItemFault net c.as_slice-rows.result.now c.as_slice-items.result.now c.in-Some.joint = c.in-Some.ensures in
      absurd (wrong_colouring net c.as_slice-rows.result.now c.as_slice-items.result.now (Item c.in-Some.joint) (here.one_each, here.rows_fit, fault) here),
)

pub returns-clause-wrong : goal.returns-clause-wrong
returns-clause-wrong g c =
    let net : Net = net_of g.P.Primitive.behaviour c.args.circuit.now in
    let fit : AllFit net c.as_slice-rows.result.now c.as_slice-items.result.now = c.in_default.ensures in
    let same : length c.as_slice-items.result.now ≡ length net.joints = omega arith in
    record {
      rows_fit = rw c.as_slice-rows.ensures at c.in_ok-check_marks.ensures.wrong;
      one_each = rw c.as_slice-items.ensures at same;
      items_fit = rw (c.as_slice-rows.ensures, c.as_slice-items.ensures) at fit;
    }

pub returns-clause-exact : goal.returns-clause-exact
returns-clause-exact g c = (λ h. returns-clause-wrong g c, λ col. refl)
