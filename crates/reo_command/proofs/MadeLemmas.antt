-- Made work is read.
use Rattle.std.proofs.Common.{◌≡◌, inl, inr, ℕ, List, [], ◌∷◌, refl}
use Rattle.reo_gen.specs.Circuits.{circuit_text}
use Rattle.reo_gen.specs.Scripts.{script_text}
use Rattle.reo_gen.specs.laws.Accepted.{IsAcceptedWork}
use Rattle.reo_command.specs.declared.stop.Stop.{Stop}
use Rattle.reo_command.specs.declared.stop.Stop.TheVariants.{Missed, TooLong, Refused, NoMemory}
use Rattle.reo_command.specs.Fetched.{text}
use Rattle.reo_command.specs.Made.{ReadsTexts, TextsStop, ReadsMade}
use Rattle.reo_command.specs.Readings.{Runnable, flat_of}
use Rattle.reo_command.specs.ReadSteps.{IsStoppedBy}
use Rattle.reo_command.proofs.FlatLemmas.{circuit_law}
use Rattle.reo_command.proofs.WorkLemmas.{run_reading}

-- What is read in two texts stops no run.
texts_apart : (circuit script : List ℕ) (x : Runnable) (s : Stop) → ReadsTexts circuit script x → TextsStop circuit script s → ⊥
texts_apart circuit script x s a (inl b) = circuit_law.apart circuit x.flat s a.0 b
texts_apart circuit script x s a (inr b) = run_reading.apart (text circuit ∷ text script ∷ []) x s a b

-- So nothing stops that of made work but want of memory.
module _ (size : ℕ) (work : IsAcceptedWork size) where
  accepted : Runnable
  accepted = record { flat = flat_of work.program; script = work.script }

  read : ReadsMade size accepted
  unfolding accepted
  read = (record { program = work.program; says = inl work.says; accepted = work.accepted; is = refl }, work.answered)

  pub only_memory : (stop : Stop) → IsStoppedBy (TextsStop (circuit_text size) (script_text size)) stop → stop ≡ NoMemory
  only_memory (Missed role) h = absurd (texts_apart (circuit_text size) (script_text size) accepted (Missed role) read h)
  only_memory (TooLong role) h = absurd (texts_apart (circuit_text size) (script_text size) accepted (TooLong role) read h)
  only_memory (Refused role r) h = absurd (texts_apart (circuit_text size) (script_text size) accepted (Refused role r) read h)
  only_memory NoMemory h = refl
