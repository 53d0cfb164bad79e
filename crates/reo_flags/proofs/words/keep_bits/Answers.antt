use Rattle.std.proofs.Common.{arith}
use Rattle.reo_flags.proofs.Keeping.{kept_more}
use Rattle.reo_flags.proofs.words.keep_bits.Goals as goal

pub loop-place-preserved : goal.loop-place-preserved
loop-place-preserved c =
    kept_more c.args.value c.args.marks.now c.args.words.now c.loop-place.words c.loop-place.place c.having.result c.loop-place.invariant (omega (arith, c.loop-place.invariant.far.one_each))
    c.having.ensures.set c.having.ensures.clear
