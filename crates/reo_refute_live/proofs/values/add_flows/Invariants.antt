use Rattle.std.proofs.Common.{◌≡◌, ◌++◌}
use Rattle.reo_refute_live.specs.Tables.{live_flows}
use Rattle.reo_refute_live.proofs.values.add_flows.Given as goal

-- The flows so far that are live.
abbrev pub invariant-loop-number : goal.invariant-loop-number
invariant-loop-number l = l.values ≡ l.initial.values ++ live_flows l.flows l.number
