-- The line of a verdict.
use Rattle.std.specs.Prelude.{ℕ, List, ◌++◌, codes}
use Rattle.std.specs.Fmt.{decimal}
use Rattle.reo_runs.specs.declared.verdicts.verdict.Refusal.{Refusal}
use Rattle.reo_runs.specs.declared.verdicts.verdict.Refusal.TheVariants as refusals
use Rattle.reo_runs.specs.declared.verdicts.verdict.Verdict.{Verdict}
use Rattle.reo_runs.specs.declared.verdicts.verdict.Verdict.TheVariants as verdicts
use Rattle.reo_proof_texts.specs.verdict_words.Words.{wrong_words, in_round}
use Rattle.reo_command.specs.Statuses.{done, trace_refused}

-- Why a trace is refused.
abbrev pub refusal_words : Refusal → List ℕ
refusal_words (refusals.Line line) = codes "line " ++ decimal line
refusal_words (refusals.Ended round) = in_round round (codes "ended")
refusal_words (refusals.Round round wrong node) = in_round round (wrong_words wrong node)
refusal_words (refusals.Moves round) = in_round round (codes "moves")
refusal_words refusals.End = codes "end"

-- The line of a verdict.
abbrev pub verdict_line : Verdict → List ℕ
verdict_line (verdicts.Verified rounds jammed) = codes "verified " ++ decimal rounds ++ codes " rounds, " ++ decimal jammed ++ codes " jammed\n"
verdict_line (verdicts.Refused refusal) = codes "verify refused: " ++ refusal_words refusal ++ codes "\n"

-- The status of a verdict.
abbrev pub verdict_status : Verdict → ℕ
verdict_status (verdicts.Verified rounds jammed) = done
verdict_status (verdicts.Refused refusal) = trace_refused
