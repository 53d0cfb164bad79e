use Rattle.std.proofs.Common.{◌≡◌, ◌++◌, replicate}
use Rattle.reo_draw_rounds.proofs.table.append_spaces.Given as goal

abbrev pub invariant-loop-space : goal.invariant-loop-space
invariant-loop-space l = l.text ≡ l.initial.text ++ replicate l._space 32
