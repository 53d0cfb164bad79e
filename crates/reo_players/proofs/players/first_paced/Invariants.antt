use Rattle.std.proofs.Common.{◌≡◌, map}
use Rattle.reo_players.specs.Pacing.{paced_of}
use Rattle.reo_players.proofs.players.first_paced.Given as goal

abbrev pub invariant-loop-component : goal.invariant-loop-component
invariant-loop-component l = l.players ≡ map paced_of l.yielded
