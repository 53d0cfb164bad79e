-- The proved text of the run of a script on a circuit.
use Rattle.std.specs.Prelude.{ℕ, ◌≡◌, List}
use Rattle.reo_trace.specs.declared.line.Ending.{Ending}
use Rattle.reo_runner.specs.declared.outcome.Limits.{Limits}
use Rattle.reo_runs.specs.Run.{start_of}
use Rattle.reo_command.specs.Readings.{kind_rules, Runnable}
use Rattle.reo_proof_texts.specs.Cuts.{LoggedRound}
use Rattle.reo_proof_texts.specs.Proven.{IsProved}
use Rattle.reo_command.specs.Limits.{firsts_for}
use Rattle.reo_top.specs.runs.Traces.{ending_status}

-- A proved text of the run by first colourings, which goes no further than this, with the status of its ending: the trace, in
-- which each round line is followed by a log that is right for that round, and by the line `proved`. Which right log stands
-- there is free.
pub record ProvesRun (limits : Limits) (r : Runnable) (bytes : List ℕ) (code : ℕ) : Type 0 where
  pub rounds : List LoggedRound
  pub ending : Ending
  pub proved : IsProved (firsts_for limits) kind_rules r.flat.ports (start_of r.flat.wiring r.script.components) rounds ending bytes
  pub status : code ≡ ending_status ending
