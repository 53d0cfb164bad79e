use Rattle.std.proofs.Common.{ℕ, sym, subst}
use Rattle.reo_net_base.specs.Net.{Net, net_of}
use Rattle.reo_weights.specs.declared.exceeds.Exceeds.{Exceeds}
use Rattle.reo_weights.specs.declared.exceeds.Exceeds.TheVariants as plans
use Rattle.reo_rounds.specs.Plans.{IsPlanFault}
use Rattle.reo_runner.specs.declared.planning.RoundFault.{RoundFault}
use Rattle.reo_runner.specs.Rounds.{IsUnplanned, fault_of_plan}
use Rattle.reo_runner.proofs.planning.make_next.Goals as goal

unplanned : (budget : ℕ) (net : Net) (fault : Exceeds) → IsPlanFault budget net fault → IsUnplanned budget net (fault_of_plan fault)
unplanned budget net (plans.Wide knot) over = over
unplanned budget net (plans.Spent knot weight) over = over
unplanned budget net plans.NoMemory over = tt

pub returns-in-Err-clause-exact : goal.returns-in-Err-clause-exact
returns-in-Err-clause-exact g c =
    let net = net_of g.P.Primitive.behaviour c.args.engine.now.circuit in
    subst (λ (fault : RoundFault). IsUnplanned c.args.budget net fault) (sym c.round_fault.ensures) (unplanned c.args.budget net _ c.in-Err.ensures.exact)
