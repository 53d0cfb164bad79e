use Rattle.std.proofs.Common.{◌∙◌, ◌<◌, ◌/◌, ap, arith}
use Rattle.std.proofs.lemmas.List.{get_or_read}
use Rattle.reo_flags.specs.Bits.{bit_of}
use Rattle.reo_flags.proofs.Lists.{count_is, one_put}
use Rattle.reo_flags.proofs.flags.Flags.put.Goals as goal

pub index-word-requires : goal.index-word-requires
index-word-requires c =
    let long = count_is c.self.inside.count c.self.inside.words.items in
    let place_in : c.args.place < c.self.inside.count = rw (← c.self.view_is, long) at c.requires in
    let enough = c.self.invariant.enough in
    omega arith

pub index_mut-requires : goal.index_mut-requires
index_mut-requires c =
    let long = count_is c.self.inside.count c.self.inside.words.items in
    let place_in : c.args.place < c.self.inside.count = rw (← c.self.view_is, long) at c.requires in
    let enough = c.self.invariant.enough in
    omega arith

pub returns : goal.returns
returns c =
    let long = count_is c.self.inside.count c.self.inside.words.items in
    let place_in : c.args.place < c.self.inside.count = rw (← c.self.view_is, long) at c.requires in
    let enough = c.self.invariant.enough in
    let read = get_or_read c.self.inside.words.items (c.args.place / 64) _ (omega arith) c.index-word.ensures 0 in
    rw (← c.self.view_is)
    (one_put c.self.inside.count c.self.inside.words.items c.args.place c.with_bit.result c.args.value (omega arith) place_in c.with_bit.ensures.here
    (λ i lt ne. c.with_bit.ensures.others i lt ne ∙ ap (λ w. bit_of w i) read))
