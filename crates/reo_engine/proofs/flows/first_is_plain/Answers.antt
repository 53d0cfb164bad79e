use Rattle.std.proofs.Common.{◌≡◌, ◌∙◌, ◌<◌, Bool, true, false, not, length, refl, sym, arith}
use Rattle.std.specs.Prelude.{◌==◌}
use Rattle.std.proofs.lemmas.Bool.Decides.{nat_tests}
use Rattle.reo_engine.proofs.flows.first_is_plain.Goals as goal

some_there : (n : Bool) (k : _) → n ≡ (k == 0) → n ≡ false → 0 < k
some_there n k is not = grind (arith, nat_tests, is, not)

calm_of : (b : Bool) → not b ≡ true → b ≡ false
calm_of true h = absurd cc
calm_of false h = refl

pub is_jammed-requires-clause-side : goal.is_jammed-requires-clause-side
is_jammed-requires-clause-side g c = c.requires.sides 0 (some_there c.is_empty.result (length c.args.sides.now) c.is_empty.ensures c.if-is_empty.false)

pub returns : goal.returns
returns g c = λ plain. sym c.is_jammed.ensures ∙ calm_of c.is_jammed.result plain
