-- The ends of the arguments so far are in the table, and those of the others are left.
use Rattle.std.proofs.Common.{◌≡◌, ◌++◌, ℕ, Bool, List, map}
use Rattle.std.specs.List.{zip}
use Rattle.std.specs.Slice.Iter.{iter_rest}
use Rattle.std.specs.Iterator.Adapters.{zip_first, zip_second}
use Rattle.reo_rules.specs.Touches.{Touch, touch}
use Rattle.reo_rules_names.specs.EndsAtNames.{AreEnds}
use Rattle.reo_rules_names.proofs.dangling.note_arguments.Given as goal

abbrev pub invariant-loop-argument : goal.invariant-loop-argument
invariant-loop-argument l =
    (touches : List Touch) → AreEnds touches l.fn.ends
    → (done : List Touch) × AreEnds (touches ++ done) l.ends
    × (map (λ (q : List ℕ × Bool). touch q.0 q.1) (zip l.arguments l.ways)
    ≡ done ++ map (λ (q : List ℕ × Bool). touch q.0 q.1) (zip (iter_rest (zip_first l.argument-iterator)) (iter_rest (zip_second l.argument-iterator))))
