-- The numbers so far.
use Rattle.std.proofs.Common.{◌≡◌, ◌++◌, replicate}
use Rattle.reo_flatten.proofs.nodes.fill.Given as goal

abbrev pub invariant-loop : goal.invariant-loop
invariant-loop l = l.homes ≡ l.initial.homes ++ replicate l.counter l.home
