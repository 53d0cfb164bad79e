-- The arguments that are left have the breaks of all.
use Rattle.std.proofs.Common.{◌≡◌, ℕ, Bool, List}
use Rattle.std.specs.List.{flat_map, zip}
use Rattle.std.specs.Slice.Iter.{iter_rest}
use Rattle.std.specs.Iterator.Adapters.{zip_first, zip_second}
use Rattle.reo_trees.specs.declared.programs.Parameter.{Parameter}
use Rattle.reo_rules.specs.Touches.{touch}
use Rattle.reo_rules_names.specs.Closed.{AreClosed, against}
use Rattle.reo_rules_names.proofs.direction.use_direction.Given as goal

abbrev pub invariant-loop-argument : goal.invariant-loop-argument
invariant-loop-argument l =
    (ps : List Parameter) → AreClosed ps l.closed
    → flat_map (λ (q : List ℕ × Bool). against ps l.line (touch q.0 q.1)) (zip l.arguments l.ways)
    ≡ flat_map (λ (q : List ℕ × Bool). against ps l.line (touch q.0 q.1)) (zip (iter_rest (zip_first l.argument-iterator)) (iter_rest (zip_second l.argument-iterator)))
