-- The runs on a circuit.
use Rattle.std.specs.Prelude.{ℕ, ◌≡◌}
use Rattle.reo_net_base.specs.Net.{Wiring}
pub use Rattle.reo_runs.specs.at_ports.Kinds.{kind_rules}
pub use Rattle.reo_runs.specs.at_ports.Runnable.{CanRun}
use Rattle.reo_rounds.specs.Rules.{Rules}
use Rattle.reo_runs.specs.Run.{Place, firsts}
use Rattle.reo_runs.specs.Whole.{HasRun}

-- There is a run from each start on the circuit, whatever the limits.
abbrev pub HasRuns : {P : Type 0} → Rules P → Wiring P → Type 0
HasRuns r w = (budget limit : ℕ) (start : Place _) → start.state.circuit ≡ w → HasRun (firsts budget limit) r start
