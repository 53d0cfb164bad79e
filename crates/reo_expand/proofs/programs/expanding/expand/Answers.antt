use Rattle.std.proofs.Common.{arith, ◌≡◌}
use Rattle.reo_expand.proofs.programs.Whole.{whole}
use Rattle.reo_expand.proofs.programs.expanding.expand.Goals as goal

pub returns : goal.returns
returns c =
    let first : c.loop-place.place ≡ 0 = omega arith in
    whole c.args.program.now c.as_slice-declarations.result.now c.loop-place.place c.loop-place.behind c.turned.result c.as_slice-declarations.ensures first c.loop-place.invariant.behind c.turned.ensures
