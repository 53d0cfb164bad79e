-- Requests: what words ask of a command, with the names of its files, its amounts and its options.
use Rattle.std.specs.Prelude.{ℕ, ◌≡◌, ◌≤◌, ◌^◌, List, [], ◌∷◌, Some}
use Rattle.reo_command.specs.declared.command.Command.{Command}
use Rattle.reo_command.specs.declared.command.Command.TheVariants as commands
use Rattle.reo_command.specs.declared.request.Request.{Request}
use Rattle.reo_command.specs.declared.request.Request.TheVariants.{Run, Check, Print, Upgrade, Verify, Bench, Live, Tables, Prove, VerifyProof}
use Rattle.reo_command.specs.Amounts.{size_of}
use Rattle.reo_command.specs.Commands.{command_of, names_of}
use Rattle.reo_command.specs.Limits.{budget_of, limits_of}

-- These words are those of this command, with these names of its files.
pub record AreOf (command : Command) (names words : List (List ℕ)) : Type 0 where
  pub command_is : command_of words ≡ Some command
  pub names_are : names_of command words ≡ names

-- This is what these words ask: their command, with the names of its files in order, and with the numbers that they say.
abbrev pub IsRequest : List (List ℕ) → Request → Type 0
IsRequest words (Run circuit script limits) = AreOf commands.Run (circuit.now ∷ script.now ∷ []) words × (limits ≡ limits_of words)
IsRequest words (Check circuit) = AreOf commands.Check (circuit.now ∷ []) words
IsRequest words (Print circuit) = AreOf commands.Print (circuit.now ∷ []) words
IsRequest words (Upgrade circuit) = AreOf commands.Upgrade (circuit.now ∷ []) words
IsRequest words (Verify circuit script trace) = AreOf commands.Verify (circuit.now ∷ script.now ∷ trace.now ∷ []) words
IsRequest words (Bench size) = AreOf commands.Bench [] words × (size ≡ size_of words)
IsRequest words (Live circuit budget) = AreOf commands.Live (circuit.now ∷ []) words × (budget ≡ budget_of words)
IsRequest words (Tables circuit) = AreOf commands.Tables (circuit.now ∷ []) words
IsRequest words (Prove circuit script) = AreOf commands.Prove (circuit.now ∷ script.now ∷ []) words
IsRequest words (VerifyProof circuit script proof) = AreOf commands.VerifyProof (circuit.now ∷ script.now ∷ proof.now ∷ []) words

-- Its numbers are in their ranges.
abbrev pub IsWithin : Request → Type 0
IsWithin (Run circuit script limits) = (1 ≤ limits.budget) × (limits.budget ≤ 10 ^ 9) × (1 ≤ limits.rounds) × (limits.rounds ≤ 10 ^ 9)
IsWithin (Bench size) = (1 ≤ size) × (size ≤ 256)
IsWithin (Live circuit budget) = (1 ≤ budget) × (budget ≤ 10 ^ 9)
IsWithin other = Unit {0}
