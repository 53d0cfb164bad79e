use Rattle.std.proofs.Common.{◌+◌, ◌/◌, arith}
use Rattle.reo_flags.proofs.Lists.{all_alike, alike_words}
use Rattle.reo_flags.proofs.flags.Flags.new.Goals as goal

pub returns-in-Ok : goal.returns-in-Ok
returns-in-Ok c =
    all_alike c.args.count _ c.args.value
    (λ k lt. alike_words _ (c.args.count / 64 + 1) c.word_of.result c.args.value (c.in-Ok.ensures.items_if_clones_equal (λ y e. e)) c.word_of.ensures k (omega arith))
