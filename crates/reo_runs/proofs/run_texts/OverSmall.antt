-- The numbers of rounds that cannot be planned.
use Rattle.std.proofs.Common.{ℕ, ◌≤◌, ◌^◌, length, arith}
use Rattle.reo_net_base.specs.Net.{Net}
use Rattle.reo_net_base.specs.Wired.{IsWired}
use Rattle.reo_runs.proofs.Sides.{sides_few}
use Rattle.reo_trace_reader.specs.texts.Lines.{IsEnding}
use Rattle.reo_weights.specs.Over.{Cause, IsOver}
use Rattle.reo_weights.specs.Over.Cause.{spent, wide}
use Rattle.reo_weights.specs.Laws.{CausesAreSmall}
use Rattle.reo_rounds.specs.Stopping.{ending_by}

-- They are small where the budget, the number of the round and the circuit are.
pub over_small : CausesAreSmall → (budget : ℕ) (net : Net) → IsWired net → length net.primitives ≤ 2 ^ 31 → (turn : ℕ) (cause : Cause) → budget ≤ 10 ^ 9 → turn ≤ 10 ^ 9
    → IsOver budget net cause → IsEnding (ending_by turn cause)
over_small small budget net wired few turn (spent knot weight limit) few_budget within over =
    let s = small budget net (spent knot weight limit) over in
    let sides = sides_few net.primitives wired.lawful in
    (omega (arith, within), omega (arith, s.0, sides, few), omega (arith, s.1), omega (arith, s.2, few_budget))
over_small small budget net wired few turn (wide knot) few_budget within over =
    let s = small budget net (wide knot) over in
    let sides = sides_few net.primitives wired.lawful in
    (omega (arith, within), omega (arith, s, sides, few))
