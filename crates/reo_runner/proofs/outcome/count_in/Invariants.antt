use Rattle.std.proofs.Common.{◌≡◌, take}
use Rattle.std.specs.List.{count_by}
use Rattle.reo_runs.specs.Written.{goes, is_in}
use Rattle.reo_runner.proofs.outcome.count_in.Given as goal

abbrev pub invariant-loop-one : goal.invariant-loop-one
invariant-loop-one l = l.count ≡ count_by (goes is_in l.ports.list) (take l.one-index l.moves)
