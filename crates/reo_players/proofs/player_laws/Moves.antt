-- A component in a round in which its offer flows, and one that is done.
use Rattle.std.proofs.Common.{refl}
use Rattle.reo_players.specs.player_laws.Moving.{FlowMovesOn, DoneStaysDone}

pub moves_on : FlowMovesOn
moves_on task tasks seen = record { next = refl; step = refl }

pub stays_done : DoneStaysDone
stays_done flowed seen = record { done = refl; step = refl }
