use Rattle.std.proofs.Common.{◌+ℤ◌, arith}
use Rattle.std.specs.Prelude.{FitsSigned}
use Rattle.std.specs.Int.{w64}
use Rattle.std.proofs.lemmas.Int.{ints}
use Rattle.reo_exprs.proofs.Near.{interval_bounds, bounds_fit, twice_fits, kept}
use Rattle.reo_exprs.proofs.interval.sum.Goals as goal

pub returns : goal.returns
returns c =
    let a = interval_bounds c.args.x c.requires.left in
    let b = interval_bounds c.args.y c.requires.right in
    let x = bounds_fit c.args.x c.requires.left in
    let y = bounds_fit c.args.y c.requires.right in
    let low : FitsSigned w64 (c.args.x.low +ℤ c.args.y.low) = twice_fits (c.args.x.low +ℤ c.args.y.low) (omega (arith, ints)) (omega (arith, ints)) in
    let high : FitsSigned w64 (c.args.x.high +ℤ c.args.y.high) = twice_fits (c.args.x.high +ℤ c.args.y.high) (omega (arith, ints)) (omega (arith, ints)) in
    simp kept at c.near.ensures
