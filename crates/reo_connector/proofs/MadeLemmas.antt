-- A round that is made is that of a plan.
use Rattle.std.proofs.Common.{◌≡◌, ℕ, refl, ap}
use Rattle.reo_net_base.specs.Net.{Net}
use Rattle.reo_trace.specs.declared.line.RoundLine.{RoundLine}
use Rattle.reo_rounds.specs.declared.plan.Plan.{Plan}
use Rattle.reo_rounds.specs.Plans.{IsPlan, jammed_sides}
use Rattle.reo_runner.specs.at_ports.Engines.{IsMadeWithin, MadeRound}

-- What it is, as a plan.
abbrev pub shown_plan : Net → MadeRound → Plan
shown_plan net s = record { colouring = s.colouring; moves = s.line.moves; idle = s.line.idle; jammed = jammed_sides net s.colouring.rows }

pub is_planned : (budget : ℕ) (net : Net) (ports turn : ℕ) (s : MadeRound) → IsMadeWithin budget net ports turn s → IsPlan budget net ports turn (shown_plan net s)
is_planned budget net ports turn s is = record {
  within = is.within;
  first = is.is_made.first;
  shows = record {
    moves = ap (λ (l : RoundLine). l.moves) is.is_made.line;
    idle = ap (λ (l : RoundLine). l.idle) is.is_made.line;
    jammed = refl;
  };
}
