-- Plans suit the circuit that they were made for.
use Rattle.std.specs.Prelude.{ℕ}
use Rattle.reo_net_base.specs.Net.{Net}
use Rattle.reo_rounds.specs.declared.plan.Plan.{Plan}
use Rattle.reo_rounds.specs.Plans.{IsPlan, Suits}

-- Whatever the budget and the round.
abbrev pub PlansSuit : Type 0
PlansSuit = (budget : ℕ) (net : Net) (ports turn : ℕ) (plan : Plan) → IsPlan budget net ports turn plan → Suits net ports plan
