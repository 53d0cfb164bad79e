-- What was written behind the answers of what was heard.
use Rattle.std.specs.Prelude.{ℕ, ◌≡◌, codes}
use Rattle.reo_live.specs.declared.hearing.heard.Heard.{Heard}
use Rattle.reo_live.specs.declared.hearing.heard.Heard.TheVariants as heards
use Rattle.reo_command.specs.States.{SinkState, Change}
use Rattle.reo_command.specs.Statuses.{done, part_over, read_fault, too_long, write_fault}
use Rattle.reo_command.specs.top_base.Cases.{Refuses, EndsWithNoMemory}

-- Nothing was written, and this is the status.
abbrev pub Says : ℕ → Change SinkState → ℕ → Type 0
Says status sink code = (code ≡ status) × (sink.new ≡ sink.old)

-- The line that is owed, if any, was written, or the sink failed on it.
abbrev pub IsClosedAs : Heard → Change SinkState → ℕ → Type 0
IsClosedAs heards.Ended sink code = Says done sink code
IsClosedAs heards.Stopped sink code = Says part_over sink code
IsClosedAs heards.Many sink code = Refuses (codes "too long events\n") too_long sink code
IsClosedAs heards.Missed sink code = Refuses (codes "read fault events\n") read_fault sink code
IsClosedAs heards.Broken sink code = Says write_fault sink code
IsClosedAs heards.NoMemory sink code = EndsWithNoMemory sink code
