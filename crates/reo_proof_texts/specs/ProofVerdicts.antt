-- The verdict on a proof text.
use Rattle.std.specs.Prelude.{ℕ, ◌+◌, ◌≡◌, ◌≢◌, ◌⊎◌, None, List, ◌++◌, length, Result, Ok, Err}
use Rattle.reo_net_base.specs.declared.port.Port.{Port}
use Rattle.reo_trace.specs.declared.line.Ending.{Ending}
use Rattle.reo_trace_reader.specs.texts.Lines.{IsEnding}
use Rattle.reo_rounds.specs.Rules.{Rules}
use Rattle.reo_runs.specs.Round.{State, RoundOf, net_ready}
use Rattle.reo_runs.specs.Run.{Place, EndsAs}
use Rattle.reo_runs.specs.declared.verdicts.verdict.Refusal.TheVariants as causes
use Rattle.reo_runs.specs.verdicts.Replays.{colourings}
use Rattle.reo_runs.specs.verdicts.Wrongs.{IsWrongRound}
use Rattle.reo_refute_base.specs.declared.faults.fault.ProofFault.{ProofFault}
use Rattle.reo_refute_base.specs.declared.faults.fault.ProofFault.TheVariants as faults
use Rattle.reo_refute_base.specs.faults.Faults.{IsProofFault}
use Rattle.reo_proof_texts.specs.declared.refusal.ProofRefusal.{ProofRefusal}
use Rattle.reo_proof_texts.specs.declared.refusal.ProofRefusal.TheVariants as refusals
use Rattle.reo_proof_texts.specs.Cuts.{LoggedRound, lines_text, all_logged, lines_in, AreLogged, Next, IsNext}
use Rattle.reo_proof_texts.specs.Proven.{AreProven, IsProved}

module _ {P : Type 0} (r : Rules P) (ports : List Port) (nodes : List (List ℕ)) (homes : List ℕ) where
  -- The line is that of a round of some colouring, and its log is not accepted for this cause.
  pub record FailsBy (turn : ℕ) (a : State P) (x : LoggedRound) (fault : ProofFault) : Type 0 where
    pub next : State P
    pub round : RoundOf colourings r turn a x.line next
    pub fault_is : IsProofFault (net_ready r a) turn round.made.rows (lines_text x.log) fault

  -- What is wrong first with a round and its log, behind so many lines: its entries, its moves, that
  -- the circuit is wide, or the log.
  abbrev pub IsWrongRoundBy : ℕ → ℕ → State P → LoggedRound → ProofRefusal → Type 0
  IsWrongRoundBy before turn a x (refusals.Line line) = ⊥
  IsWrongRoundBy before turn a x (refusals.Ended round) = ⊥
  IsWrongRoundBy before turn a x (refusals.Round round wrong node) =
      IsWrongRound nodes homes (net_ready r a) a.circuit.ports turn x.line (causes.Round round wrong node)
  IsWrongRoundBy before turn a x (refusals.Moves round) =
      IsWrongRound nodes homes (net_ready r a) a.circuit.ports turn x.line (causes.Moves round)
  IsWrongRoundBy before turn a x (refusals.Wide round) =
      (round ≡ turn) × FailsBy turn a x faults.Wide
  IsWrongRoundBy before turn a x (refusals.Log round line) = (round ≡ turn)
      × (number : ℕ) × FailsBy turn a x (faults.Line number) × (line ≡ before + 1 + number)
  IsWrongRoundBy before turn a x refusals.End = ⊥
  IsWrongRoundBy before turn a x refusals.NoMemory = ⊥

  -- What is wrong behind so many lines, where the round of this number is next: a line, a round
  -- though the run is over, a round or its log, or the ending.
  abbrev pub IsWrongNext : ℕ → ℕ → Place P → Next → ProofRefusal → Type 0
  IsWrongNext before turn q (Next.round x more) refusal =
      ((q.over ≢ None) × (refusal ≡ refusals.Ended turn))
      ⊎ ((q.over ≡ None) × IsWrongRoundBy before turn q.state x refusal)
  IsWrongNext before turn q (Next.ending e) refusal =
      (refusal ≡ refusals.End) × (EndsAs colourings r turn q e → ⊥)
  IsWrongNext before turn q (Next.wrong line) refusal = refusal ≡ refusals.Line (before + line)

  -- The first that is wrong with a proof text: the rounds before it are rounds of a run, each of
  -- some colouring, with logs that show that no colouring stands before it.
  pub record IsProofRefused (start : Place P) (text : List ℕ) (refusal : ProofRefusal) : Type 0 where
    pub right : List LoggedRound
    pub left : List ℕ
    pub last : Place P
    pub next : Next
    pub cut : text ≡ all_logged ports right ++ left
    pub logged : AreLogged ports 1 right
    pub proven : AreProven colourings r 1 start right last
    pub next_is : IsNext ports (length right + 1) left next
    pub wrong : IsWrongNext (lines_in right) (length right + 1) last next refusal

  -- It is verified, with so many rounds: it is the proved text of such a run.
  pub record IsVerified (start : Place P) (text : List ℕ) (count : ℕ) : Type 0 where
    pub rounds : List LoggedRound
    pub ending : Ending
    pub logged : AreLogged ports 1 rounds
    pub is_ending : IsEnding ending
    pub proved : IsProved colourings r ports start rounds ending text
    pub count_is : count ≡ length rounds

  -- The verdict on a proof text: it is verified, or this is the first that is wrong with it.
  abbrev pub IsProofVerdict : Place P → List ℕ → Result ℕ ProofRefusal → Type 0
  IsProofVerdict start text (Ok count) = IsVerified start text count
  IsProofVerdict start text (Err refusal) = IsProofRefused start text refusal
