-- What runs with their logs write.
use Rattle.std.specs.Prelude.{ℕ, ◌≤◌, ◌^◌, ◌≡◌, List, Ok, length}
use Rattle.reo_trees.specs.declared.programs.Program.{Program}
use Rattle.reo_flat.specs.Flat.{ports_of, wiring_of_program}
use Rattle.reo_net_base.specs.declared.port.Port.{Port}
use Rattle.reo_kinds.specs.declared.kind.Kind.{Kind}
use Rattle.reo_script.specs.declared.scripts.action.Component.{Component}
use Rattle.reo_trace.specs.declared.line.Ending.{Ending}
use Rattle.reo_trace_reader.specs.texts.Lines.{IsEnding}
use Rattle.reo_runs.specs.Run.{Place, start_of, firsts}
use Rattle.reo_runs.specs.run_texts.Laws.{kind_rules, IsTold}
use Rattle.reo_proof_texts.specs.Cuts.{LoggedRound, AreLogged}
use Rattle.reo_proof_texts.specs.Proven.{IsProved}
use Rattle.reo_proof_texts.specs.ProofVerdicts.{IsProofVerdict}

-- The text of a run with its logs, cut into rounds of which each log is that of whole lines.
pub record IsProofText (budget limit : ℕ) (ports : List Port) (start : Place Kind) (count : ℕ)
    (ending : Ending) (text : List ℕ) : Type 0 where
  pub rounds : List LoggedRound
  pub logged : AreLogged ports 1 rounds
  pub is_ending : IsEnding ending
  pub proved : IsProved (firsts budget limit) kind_rules ports start rounds ending text
  pub count_is : length rounds ≡ count

-- A proved text of a run of any components on the circuit of a program can be cut so.
abbrev pub RunsAreProofTexts : Type 0
RunsAreProofTexts =
    (p : Program) (components : List Component) (budget limit : ℕ) (rounds : List LoggedRound)
    (ending : Ending) (text : List ℕ) → IsTold p → budget ≤ 10 ^ 9 → limit ≤ 10 ^ 9
    → IsProved (firsts budget limit) kind_rules (ports_of p.declarations)
    (start_of (wiring_of_program p.declarations) components) rounds ending text
    → IsProofText budget limit (ports_of p.declarations)
    (start_of (wiring_of_program p.declarations) components) (length rounds) ending text

-- And so it is verified, with as many rounds.
abbrev pub RunProofsAreVerified : Type 0
RunProofsAreVerified =
    (p : Program) (components : List Component) (budget limit : ℕ) (nodes : List (List ℕ))
    (homes : List ℕ) (rounds : List LoggedRound) (ending : Ending) (text : List ℕ) → IsTold p
    → budget ≤ 10 ^ 9 → limit ≤ 10 ^ 9
    → IsProved (firsts budget limit) kind_rules (ports_of p.declarations)
    (start_of (wiring_of_program p.declarations) components) rounds ending text
    → IsProofVerdict kind_rules (ports_of p.declarations) nodes homes
    (start_of (wiring_of_program p.declarations) components) text (Ok (length rounds))
