use Rattle.std.proofs.Common.{map}
use Rattle.reo_players.specs.Players.{counts}
use Rattle.reo_players.specs.Idle.{is_awake, is_left}
use Rattle.reo_players.specs.Pacing.{player_in}
use Rattle.reo_players.proofs.Marked.{AreMarked}
use Rattle.reo_players.proofs.marks.marks_of.Given as goal

-- The first so many are marked.
abbrev pub invariant-loop-component : goal.invariant-loop-component
invariant-loop-component l = record {
  awake : AreMarked is_awake (map player_in l.players) l.component l.marks.awake;
  counting : AreMarked counts (map player_in l.players) l.component l.marks.counting;
  left : AreMarked is_left (map player_in l.players) l.component l.marks.left;
}
