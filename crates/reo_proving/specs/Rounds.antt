-- One round of a run with its log.
use Rattle.std.specs.Prelude.{ℕ, ◌≡◌, ◌⊎◌, Option, Some, None, List, ◌++◌, codes}
use Rattle.reo_io.specs.Sinks.{Appended, TookPart}
use Rattle.reo_net_base.specs.declared.port.Port.{Port}
use Rattle.reo_net_base.specs.Net.{Net, Wiring}
use Rattle.reo_players.specs.Players.{Player}
use Rattle.reo_trace.specs.declared.line.RoundLine.{RoundLine}
use Rattle.reo_trace.specs.declared.line.Ending.{Ending}
use Rattle.reo_trace.specs.declared.line.Ending.TheVariants as endings
use Rattle.reo_trace.specs.RoundText.{round_text}
use Rattle.reo_weights.specs.declared.exceeds.Exceeds.{Exceeds}
use Rattle.reo_weights.specs.declared.exceeds.Exceeds.TheVariants as faults
use Rattle.reo_rounds.specs.Rules.{Rules}
use Rattle.reo_runs.specs.Round.{State, net_ready}
use Rattle.reo_runs.specs.Run.{firsts, over_after}
use Rattle.reo_runs.specs.at_ports.Pending.{IsButForOffers}
use Rattle.reo_refute_base.specs.faults.Faults.{IsProof}
use Rattle.reo_proof_texts.specs.Cuts.{LoggedRound, logged_text}
use Rattle.reo_proof_texts.specs.Proven.{IsProven}

-- The ending that stands in place of the round of a number, where a part is over.
abbrev pub ending_for : ℕ → ℕ → Exceeds → Option Ending
ending_for turn budget (faults.Wide knot) = Some (endings.Wide turn knot)
ending_for turn budget (faults.Spent knot weight) = Some (endings.Spent turn knot weight budget)
ending_for turn budget faults.NoMemory = None

-- The text of a log that shows that no colouring stands before these rows, and behind it `proved`.
pub record IsEndedLog (net : Net) (turn : ℕ) (rows text : List ℕ) : Type 0 where
  pub log : List ℕ
  pub proof : IsProof net turn rows log
  pub text_is : text ≡ log ++ codes "proved\n"

module _ (net : Net) (turn : ℕ) (rows : List ℕ) (ports : List Port) (line : RoundLine) (before now : Option (List ℕ)) where
  -- A line and such a log behind it were written.
  pub record HasLogged : Type 0 where
    pub text : List ℕ
    pub ended : IsEndedLog net turn rows text
    pub added : Appended before now (round_text ports line ++ text)

  -- A front of them was written, and not the whole.
  pub record HasLoggedPart : Type 0 where
    pub text : List ℕ
    pub ended : IsEndedLog net turn rows text
    pub part : TookPart before now (round_text ports line ++ text)

module _ {P : Type 0} (r : Rules P) (ports : List Port) (budget limit turn : ℕ) (a : State P) where
  -- A round was made, and it was written with its log: how the run is over after it, if it is. The
  -- circuit and the components are as it left them, but for offers.
  pub record PlayedRound (before now : Option (List ℕ)) (w : Wiring P) (players : List Player) (over : Option Ending) : Type 0 where
    pub logged : LoggedRound
    pub next : State P
    pub proven : IsProven (firsts budget limit) r turn a logged next
    pub text : Appended before now (logged_text ports logged)
    pub over_is : over ≡ over_after turn logged.line.idle a.players next.players
    pub circuit : IsButForOffers r next.circuit w
    pub players_are : players ≡ next.players

  -- The run stops in place of the round.
  pub record StopsHere (before now : Option (List ℕ)) (over : Option Ending) : Type 0 where
    pub ending : Ending
    pub over_is : over ≡ Some ending
    pub stops : (firsts budget limit).stops (net_ready r a) turn ending
    pub same : now ≡ before

  -- The run went on by a round, or stops.
  abbrev pub Went : Option (List ℕ) → Option (List ℕ) → Wiring P → List Player → Option Ending → Type 0
  Went before now w players over = StopsHere before now over ⊎ PlayedRound before now w players over

  -- The sink has got a part of such a round with its log.
  pub record CutRound (before now : Option (List ℕ)) : Type 0 where
    pub logged : LoggedRound
    pub next : State P
    pub proven : IsProven (firsts budget limit) r turn a logged next
    pub part : TookPart before now (logged_text ports logged)
