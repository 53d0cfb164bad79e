use Rattle.std.proofs.Common.{◌≡◌, ◌%◌, ◌^◌, subst, ap, ◌∙◌, arith}
use Rattle.std.proofs.lemmas.Simd.{mask_l-mod, length-zip2}
use lib.Lanes.{zip2, mask_l}
use Rattle.reo_lanes.specs.Lanes.{is_broken}
use Rattle.reo_lanes.proofs.MaskLemmas.{computed, computed_is}
use Rattle.reo_lanes.proofs.matched.broken_lanes.Goals as goal

pub returns : goal.returns
returns c =
    let left = c.args.left in
    let right = c.args.right in
    ap (λ bs. mask_l bs % 2 ^ 64) (subst (λ n. computed n left right ≡ zip2 is_broken left right) c.fits-left.0 (computed_is left right))
    ∙ mask_l-mod (zip2 is_broken left right) 64 (omega (arith, c.fits-left.0, c.fits-right.0, length-zip2 is_broken left right (omega (arith, c.fits-left.0, c.fits-right.0))))
