-- Made work is accepted.
use Rattle.std.specs.Prelude.{ℕ, ◌≡◌, ◌+◌, ◌*◌, ◌^◌, ◌<◌, ◌≤◌, Ok, length}
use Rattle.reo_trees.specs.declared.programs.Program.{Program}
use Rattle.reo_trees.specs.Says.{SaysProgram}
use Rattle.reo_flat.specs.Flat.{ports_of, primitives_of}
use Rattle.reo_flat.specs.Refusals.{IsAccepted}
use Rattle.reo_script.specs.declared.scripts.action.Script.{Script}
use Rattle.reo_script.specs.scripts.ScriptAnswers.{Answers}
use Rattle.reo_gen.specs.Circuits.{circuit_text}
use Rattle.reo_gen.specs.Scripts.{script_text}

-- The circuit text says a program that breaks no rule, with so many primitives; the script text is answered for its ports by a
-- script; and both are short enough to be read.
pub record IsAcceptedWork (number : ℕ) : Type 0 where
  pub program : Program
  pub says : SaysProgram (circuit_text number) program
  pub accepted : IsAccepted program
  pub primitives : length (primitives_of program.declarations) ≡ 14 * number + 2
  pub script : Script
  pub answered : Answers (script_text number) (ports_of program.declarations) (Ok script)
  pub circuit_short : length (circuit_text number) < 2 ^ 32
  pub script_short : length (script_text number) < 2 ^ 32

-- So is the work of each number that can be made.
abbrev pub WorkIsAccepted : Type 0
WorkIsAccepted = (number : ℕ) → 1 ≤ number → number ≤ 256 → IsAcceptedWork number
