use Rattle.std.proofs.Common.{arith, vec_len}
use Rattle.reo_flags.proofs.Lists.{all_alike, alike_words, count_is}
use Rattle.reo_flags.proofs.flags.Flags.fill.Goals as goal

pub returns : goal.returns
returns c =
    let enough = c.self.invariant.enough in
    let long = c.self.inside.words.ok.0 in
    rw (← c.self.view_is, count_is c.self.inside.count c.self.inside.words.items)
    (all_alike c.self.inside.count c.fill.new.self.items c.args.value
    (λ k lt. alike_words c.fill.new.self.items (vec_len c.self.inside.words) c.word_of.result c.args.value (c.fill.ensures.items (λ y e. e)) c.word_of.ensures k (omega arith)))
