-- What is owed of the picture of a round.
use Rattle.std.specs.Prelude.{ℕ, ◌≡◌, ◌≢◌, ◌≤◌, ◌<◌, ◌^◌, ◌⊎◌, List, codes}
use Rattle.std.specs.Fmt.{decimal}
use Rattle.reo_trace_reader.specs.declared.texts.trace.Trace.{Trace}
use Rattle.reo_runs.specs.Run.{start_of}
use Rattle.reo_runs.specs.declared.verdicts.verdict.Verdict.TheVariants as verdicts
use Rattle.reo_draw_replay.specs.declared.showing.Shown.{Shown}
use Rattle.reo_draw_replay.specs.declared.showing.Shown.TheVariants.{Picture, NoRound, Refused}
use Rattle.reo_draw_replay.specs.Shown.{IsShown}
use Rattle.reo_command.specs.Claims.{Claimed}
use Rattle.reo_command.specs.Statuses.{done, trace_refused}
use Rattle.reo_command.specs.top_base.Outputs.{Outputs, IsLine}
use Rattle.reo_top.specs.verdicts.VerdictTexts.{verdict_line}
use Rattle.reo_draw_command.specs.DrawStatuses.{no_round}

-- The number from 1 whose decimal text a word is, or 0 where it is that of none.
abbrev pub IsNumberOf : List ℕ → ℕ → Type 0
IsNumberOf word number =
    ((1 ≤ number) × (number < 2 ^ 63) × (word ≡ decimal number))
    ⊎ ((number ≡ 0) × ((k : ℕ) → 1 ≤ k → k < 2 ^ 63 → word ≢ decimal k))

-- This is what there is to show of the trace for the number of a word.
abbrev pub IsShownFor : List ℕ → Claimed Trace → Shown → Type 0
IsShownFor word c shown =
    (number : ℕ) × IsNumberOf word number
    × IsShown c.work.flat.ports c.work.flat.nodes c.work.flat.homes (start_of c.work.flat.wiring c.work.script.components) c.claim number shown

-- What is written for it: the picture of the round, that there is no such round, or the line of the verdict.
abbrev pub shown_text : Shown → List ℕ
shown_text (Picture picture) = picture
shown_text NoRound = codes "draw refused: round\n"
shown_text (Refused refusal) = verdict_line (verdicts.Refused refusal)

-- Its status.
abbrev pub shown_status : Shown → ℕ
shown_status (Picture picture) = done
shown_status NoRound = no_round
shown_status (Refused refusal) = trace_refused

-- It is written, with its status.
abbrev pub DrawsRound : List ℕ → Claimed Trace → Outputs
DrawsRound word c bytes code = (shown : Shown) × IsShownFor word c shown × IsLine (shown_text shown) (shown_status shown) bytes code
