use Rattle.std.proofs.Common.{◌∙◌, ◌-ℤ◌, pos, arith}
use Rattle.std.specs.Prelude.{FitsSigned}
use Rattle.std.specs.Int.{w64}
use Rattle.std.proofs.lemmas.Int.{ints}
use Rattle.reo_exprs.specs.Interval.{near}
use Rattle.reo_exprs.proofs.Near.{interval_bounds, bounds_fit, twice_fits, kept, minus_is}
use Rattle.reo_exprs.proofs.interval.negated.Goals as goal

pub returns : goal.returns
returns c =
    let a = interval_bounds c.args.x c.requires in
    let x = bounds_fit c.args.x c.requires in
    let low : FitsSigned w64 (pos 0 -ℤ c.args.x.high) = twice_fits (pos 0 -ℤ c.args.x.high) (omega (arith, ints)) (omega (arith, ints)) in
    let high : FitsSigned w64 (pos 0 -ℤ c.args.x.low) = twice_fits (pos 0 -ℤ c.args.x.low) (omega (arith, ints)) (omega (arith, ints)) in
    (simp kept at c.near.ensures) ∙ (λ i. near (record { low = minus_is c.args.x.high i; high = minus_is c.args.x.low i }))
