-- Refusals of rounds.
use Rattle.std.specs.Prelude.{ℕ, ◌≡◌, Bool, true, false, IsTrue, List}
use Rattle.reo_checker.specs.declared.wrong.Wrong.{Wrong}
use Rattle.reo_checker.specs.declared.wrong.Wrong.TheVariants as wrongs
use Rattle.reo_runs.specs.declared.verdicts.verdict.Refusal.{Refusal}
use Rattle.reo_runs.specs.declared.verdicts.verdict.Refusal.TheVariants as refusals
use Rattle.reo_runs.specs.verdicts.Wrongs.{node_of}
use Rattle.reo_verify.specs.declared.judging.judging.Stop.{Stop}
use Rattle.reo_verify.specs.declared.judging.judging.Stop.TheVariants as stops

-- The refusal of the round of a number whose line is not right.
abbrev pub IsRefusalBy : List (List ℕ) → List ℕ → ℕ → Stop → Refusal → Type 0
IsRefusalBy nodes homes round (stops.Wrong wrong) refusal = refusal ≡ refusals.Round round wrong (node_of nodes homes wrong)
IsRefusalBy nodes homes round stops.Moves refusal = refusal ≡ refusals.Moves round
IsRefusalBy nodes homes round stops.NoMemory refusal = ⊥

-- The cause names the node of a joint.
abbrev pub names_node : Wrong → Bool
names_node wrongs.Count = false
names_node (wrongs.Row primitive) = false
names_node (wrongs.Joint joint) = true
names_node (wrongs.Item joint) = true

-- Saying so may want memory: it names a node, or memory ran out before.
abbrev pub MayWantMemory : Stop → Type 0
MayWantMemory (stops.Wrong wrong) = IsTrue (names_node wrong)
MayWantMemory stops.Moves = ⊥
MayWantMemory stops.NoMemory = Unit {0}
