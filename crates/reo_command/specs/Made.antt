-- Made work, which is read as files are.
use Rattle.std.specs.Prelude.{ℕ, ◌⊎◌, List, [], ◌∷◌}
use Rattle.reo_gen.specs.Circuits.{circuit_text}
use Rattle.reo_gen.specs.Scripts.{script_text}
use Rattle.reo_command.specs.declared.stop.Stop.{Stop}
use Rattle.reo_command.specs.Fetched.{text}
use Rattle.reo_command.specs.Readings.{Runnable, ReadsRun, StopsRun}

-- What a run reads in two texts, as where they were fetched.
abbrev pub ReadsTexts : List ℕ → List ℕ → Runnable → Type 0
ReadsTexts circuit script r = ReadsRun (text circuit ∷ text script ∷ []) r

-- The circuit's text stops it, or the script's behind a circuit that is accepted.
abbrev pub TextsStop : List ℕ → List ℕ → Stop → Type 0
TextsStop circuit script stop = StopsRun (text circuit ∷ []) stop ⊎ StopsRun (text circuit ∷ text script ∷ []) stop

-- What a run reads in the work of a size.
abbrev pub ReadsMade : ℕ → Runnable → Type 0
ReadsMade size = ReadsTexts (circuit_text size) (script_text size)
