-- The arguments so far are of the types of their parameters.
use Rattle.std.proofs.Common.{◌≡◌, ℕ, List, false, take}
use Rattle.std.specs.Prelude.{not}
use Rattle.std.specs.List.{list_any, zip}
use Rattle.reo_values.specs.declared.kindred.Kindred.{Kindred}
use Rattle.reo_rules.specs.Types.{type_named, is_same}
use Rattle.reo_rules_types.specs.Scoped.{typed}
use Rattle.reo_rules_types.specs.Signed.{AreOf}
use Rattle.reo_rules_types.proofs.channels.use_mistyped.Given as goal

abbrev pub invariant-loop-place : goal.invariant-loop-place
invariant-loop-place l =
    (kinds : List Kindred) → AreOf l.types l.numbers kinds → list_any (λ (q : List ℕ × Kindred). not (is_same (type_named (typed l.types l.scope) q.0) q.1)) (zip (take l.place l.arguments) kinds) ≡ false
