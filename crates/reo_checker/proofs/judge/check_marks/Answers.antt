-- What is wrong keeps the rows from fitting.
use Rattle.std.proofs.Common.{arith}
use Rattle.reo_net_base.specs.Net.{Net, net_of, all_sides}
use Rattle.reo_net_laws.proofs.Sides.{rows_length}
use Rattle.reo_checker.specs.declared.wrong.Wrong.TheVariants.{Joint}
use Rattle.reo_checker.proofs.ExactLemmas.{row_out, wrong_rows}
use Rattle.reo_checker.proofs.judge.check_marks.Goals as goal

pub returns-then-rows-sides-clause-exact : goal.returns-then-rows-sides-clause-exact
returns-then-rows-sides-clause-exact g c = (
  λ h. absurd cc,
  λ fit.
      let net : Net = net_of g.P.Primitive.behaviour c.args.circuit.now in
      let n = rows_length (all_sides net.primitives) c.args.rows.now fit.in_tables in
      absurd (omega (arith, n)),
)

pub returns-in-Some-clause-exact : goal.returns-in-Some-clause-exact
returns-in-Some-clause-exact g c = (
  λ h. absurd cc,
  λ fit.
      let net : Net = net_of g.P.Primitive.behaviour c.args.circuit.now in
      absurd (row_out net c.args.rows.now c.in-Some.primitive c.in-Some.ensures fit.in_tables),
)

pub returns-in-Some-joint_fault-clause-exact : goal.returns-in-Some-joint_fault-clause-exact
returns-in-Some-joint_fault-clause-exact g c = (
  λ h. absurd cc,
  λ fit.
      let net : Net = net_of g.P.Primitive.behaviour c.args.circuit.now in
      absurd (wrong_rows net c.args.rows.now (Joint c.in-Some-joint_fault.joint) (c.in_default.ensures, c.in-Some-joint_fault.ensures) fit),
)
