use Rattle.std.proofs.Common.{◌≡◌, ◌++◌, take}
use Rattle.reo_syntax.specs.Spread.{spread}
use Rattle.reo_syntax.specs.two.IndexText.{ref_text}
use Rattle.reo_syntax.proofs.two.indexes.append_refs.Given as goal

abbrev pub invariant-loop-place : goal.invariant-loop-place
invariant-loop-place l = l.out ≡ l.initial.out ++ spread ref_text (take l.place l.nodes)
