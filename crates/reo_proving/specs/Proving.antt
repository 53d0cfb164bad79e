-- What the run of a script with its logs has written.
use Rattle.std.specs.Prelude.{ℕ, ◌≡◌, Option, List, ◌++◌, Result, Ok, Err}
use Rattle.reo_io.specs.Sinks.{Appended, TookPart}
use Rattle.reo_net_base.specs.declared.port.Port.{Port}
use Rattle.reo_net_base.specs.Net.{Wiring}
use Rattle.reo_trace.specs.declared.line.Ending.{Ending}
use Rattle.reo_trace.specs.declared.write.WriteFault.{WriteFault}
use Rattle.reo_trace.specs.declared.write.WriteFault.TheVariants.{Failed, NoMemory}
use Rattle.reo_rounds.specs.Rules.{Rules}
use Rattle.reo_runs.specs.Round.{Choosing}
use Rattle.reo_runs.specs.Run.{Place, firsts}
use Rattle.reo_proof_texts.specs.Cuts.{LoggedRound, all_logged}
use Rattle.reo_proof_texts.specs.Proven.{IsProved}
use Rattle.reo_proof_laws.specs.Proofs.{HasProofs}

module _ {P : Type 0} (C : Choosing) (r : Rules P) (ports : List Port) (start : Place P) where
  -- A proved text of the run was written whole, and its ending is this.
  pub record HasProved (ending : Ending) (before now : Option (List ℕ)) : Type 0 where
    pub rounds : List LoggedRound
    pub text : List ℕ
    pub proved : IsProved C r ports start rounds ending text
    pub added : Appended before now text

  -- The sink has got a front of a proved text of the run, and not the whole.
  pub record HasCut (before now : Option (List ℕ)) : Type 0 where
    pub rounds : List LoggedRound
    pub ending : Ending
    pub text : List ℕ
    pub proved : IsProved C r ports start rounds ending text
    pub part : TookPart before now text

  -- The sink has got whole rounds with their logs, those that stand first in a proved text of the
  -- run.
  pub record HasKept (before now : Option (List ℕ)) : Type 0 where
    pub first : List LoggedRound
    pub rest : List LoggedRound
    pub ending : Ending
    pub text : List ℕ
    pub proved : IsProved C r ports start (first ++ rest) ending text
    pub added : Appended before now (all_logged ports first)

  -- What was written, by the answer.
  abbrev pub HasCome : Option (List ℕ) → Option (List ℕ) → Result Ending WriteFault → Type 0
  HasCome before now (Ok ending) = HasProved ending before now
  HasCome before now (Err Failed) = HasCut before now
  HasCome before now (Err NoMemory) = HasKept before now

-- Rounds with logs with which a run on the circuit begins go on to a proved text, whatever the limits
-- and the ports.
abbrev pub HaveProofs : {P : Type 0} → Rules P → Wiring P → Type 0
HaveProofs r w = (budget limit : ℕ) (ports : List Port) (start : Place _) → start.state.circuit ≡ w
    → HasProofs (firsts budget limit) r ports start
