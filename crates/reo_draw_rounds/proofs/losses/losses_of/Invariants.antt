use Rattle.std.proofs.Common.{◌≡◌, take}
use Rattle.reo_draw_rounds.specs.Losses.{losses_of}
use Rattle.reo_draw_rounds.proofs.losses.losses_of.Given as goal

abbrev pub invariant-loop-number : goal.invariant-loop-number
invariant-loop-number l = l.made ≡ losses_of (take l.number l.kinds) l.entries
