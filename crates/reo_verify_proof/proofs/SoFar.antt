-- What the replay of a proof text has come to.
use Rattle.std.specs.Prelude.{ℕ, ◌≡◌, Option, List, ◌++◌, length}
use Rattle.reo_net_base.specs.declared.port.Port.{Port}
use Rattle.reo_net_base.specs.Net.{Wiring, net_of}
use Rattle.reo_players.specs.Players.{Player}
use Rattle.reo_trace.specs.declared.line.Ending.{Ending}
use Rattle.reo_rounds.specs.Order.{HasOrder}
use Rattle.reo_rounds.specs.Rules.{Rules}
use Rattle.reo_runs.specs.Run.{Place}
use Rattle.reo_runs.specs.at_ports.Pending.{IsButForOffers}
use Rattle.reo_runs.specs.verdicts.Replays.{colourings}
use Rattle.reo_proof_texts.specs.Cuts.{LoggedRound, all_logged, lines_in, AreLogged}
use Rattle.reo_proof_texts.specs.Proven.{AreProven}

-- So far: these rounds were read, so many with so many lines, and this is left of the text. They are accepted rounds of a run,
-- which is over so or goes on, with a circuit that this one is but for offers.
pub record SoFar {P : Type 0} (r : Rules P) (ports : List Port) (start : Place P) (text left : List ℕ) (before made : ℕ) (w : Wiring P) (players : List Player) (over : Option Ending) : Type 0 where
  pub rounds : List LoggedRound
  pub circuit : Wiring P
  pub cut : text ≡ all_logged ports rounds ++ left
  pub logged : AreLogged ports 1 rounds
  pub proven : AreProven colourings r 1 start rounds (record { state = record { circuit = circuit; players = players }; over = over })
  pub lines_are : before ≡ lines_in rounds
  pub count_is : made ≡ length rounds
  pub ordered : HasOrder (net_of r.behaviour circuit)
  pub same : IsButForOffers r circuit w
