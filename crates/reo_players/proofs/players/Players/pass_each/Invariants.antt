use Rattle.std.proofs.Common.{◌≤◌, ◌-◌, length}
use Rattle.reo_players.specs.Idle.{ArePassed}
use Rattle.reo_players.proofs.players.Players.pass_each.Given as goal

-- Those so far have passed.
abbrev pub invariant-loop-place : goal.invariant-loop-place
invariant-loop-place l = record {
  from : l.from ≤ l.place;
  are : ArePassed l.from l.place l.initial.self l.self;
}

abbrev pub decreases-loop-place : goal.decreases-loop-place
decreases-loop-place l = length l.self - l.place
