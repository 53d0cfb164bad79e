-- What a run with its logs has come to after some of its rounds.
use Rattle.std.specs.Prelude.{ℕ, ◌+◌, ◌≡◌, Option, None, List, length}
use Rattle.reo_io.specs.Sinks.{Appended}
use Rattle.reo_net_base.specs.declared.port.Port.{Port}
use Rattle.reo_net_base.specs.Net.{Wiring}
use Rattle.reo_players.specs.Players.{Player}
use Rattle.reo_trace.specs.declared.line.Ending.{Ending}
use Rattle.reo_rounds.specs.Rules.{Rules}
use Rattle.reo_runs.specs.Run.{Place, EndsAs, firsts}
use Rattle.reo_runs.specs.at_ports.Pending.{IsButForOffers}
use Rattle.reo_proof_texts.specs.Cuts.{LoggedRound, all_logged}
use Rattle.reo_proof_texts.specs.Proven.{AreProven}

module _ {P : Type 0} (r : Rules P) (ports : List Port) (budget limit : ℕ) (start : Place P) where
  -- So far: these rounds were made and written with their logs, and the run goes on with a circuit that this one is but for offers.
  pub record SoFar (before now : Option (List ℕ)) (rounds_made : ℕ) (w : Wiring P) (players : List Player) : Type 0 where
    pub rounds : List LoggedRound
    pub circuit : Wiring P
    pub proven : AreProven (firsts budget limit) r 1 start rounds (record { state = record { circuit = circuit; players = players }; over = None })
    pub left : IsButForOffers r circuit w
    pub count : rounds_made ≡ length rounds
    pub text : Appended before now (all_logged ports rounds)

  -- All rounds were made and written with their logs, and the run ends so.
  pub record Finished (before now : Option (List ℕ)) (ending : Ending) : Type 0 where
    pub rounds : List LoggedRound
    pub last : Place P
    pub proven : AreProven (firsts budget limit) r 1 start rounds last
    pub ends : EndsAs (firsts budget limit) r (length rounds + 1) last ending
    pub text : Appended before now (all_logged ports rounds)
