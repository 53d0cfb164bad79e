use Rattle.std.proofs.Common.{◌∙◌, ◌≡◌, rules, arith, to_z, of_z}
use Rattle.std.specs.Prelude.{FitsSigned, int_div}
use Rattle.std.specs.Int.{w64}
use Rattle.std.proofs.lemmas.Int.{ints, clamps, quot_fits}
use Rattle.reo_exprs.specs.Interval.{near, least, greatest}
use Rattle.reo_exprs.proofs.Near.{BoundsFit, kept}
use Rattle.reo_exprs.proofs.interval.quotient.Goals as goal

pub returns : goal.returns
returns c =
    let x : BoundsFit c.args.x = search rules in
    let y : BoundsFit c.args.y = search rules in
    let qa : FitsSigned w64 (int_div c.args.x.low c.args.y.low) = quot_fits w64 c.args.x.low c.args.y.low x.low (omega (arith, ints)) in
    let qb : FitsSigned w64 (int_div c.args.x.low c.args.y.high) = quot_fits w64 c.args.x.low c.args.y.high x.low (omega (arith, ints)) in
    let qc : FitsSigned w64 (int_div c.args.x.high c.args.y.low) = quot_fits w64 c.args.x.high c.args.y.low x.high (omega (arith, ints)) in
    let qd : FitsSigned w64 (int_div c.args.x.high c.args.y.high) = quot_fits w64 c.args.x.high c.args.y.high x.high (omega (arith, ints)) in
    let min = simp kept at c.min.ensures.value in
    let min2 = simp kept at c.min-2.ensures.value in
    let max = simp kept at c.max.ensures.value in
    let max2 = simp kept at c.max-2.ensures.value in
    let low : to_z w64 (of_z w64 c.min-3.result) ≡ least (int_div c.args.x.low c.args.y.low) (int_div c.args.x.low c.args.y.high) (int_div c.args.x.high c.args.y.low) (int_div c.args.x.high c.args.y.high) = omega (arith, ints, clamps) in
    let high : to_z w64 (of_z w64 c.max-3.result) ≡ greatest (int_div c.args.x.low c.args.y.low) (int_div c.args.x.low c.args.y.high) (int_div c.args.x.high c.args.y.low) (int_div c.args.x.high c.args.y.high) = omega (arith, ints, clamps) in
    c.near.ensures ∙ (λ i. near (record { low = low i; high = high i }))
