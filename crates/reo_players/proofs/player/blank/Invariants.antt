use Rattle.std.proofs.Common.{◌≡◌, length}
use Rattle.reo_players.proofs.player.blank.Given as goal

abbrev pub invariant-loop : goal.invariant-loop
invariant-loop l = length l.made ≡ l.counter
