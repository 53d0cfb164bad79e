use Rattle.std.proofs.Common.{◌∙◌, ◌<◌, ◌/◌, ◌%◌, ap, sym, arith}
use Rattle.std.proofs.lemmas.List.{get_or_read}
use Rattle.reo_flags.specs.Bits.{bit_of}
use Rattle.reo_flags.proofs.Lists.{count_is, flag_is}
use Rattle.reo_flags.proofs.flags.Flags.at.Goals as goal

pub index-requires : goal.index-requires
index-requires c =
    let long = count_is c.self.inside.count c.self.inside.words.items in
    let place_in : c.args.place < c.self.inside.count = rw (← c.self.view_is, long) at c.requires in
    let enough = c.self.invariant.enough in
    omega arith

pub returns : goal.returns
returns c =
    let long = count_is c.self.inside.count c.self.inside.words.items in
    let place_in : c.args.place < c.self.inside.count = rw (← c.self.view_is, long) at c.requires in
    let enough = c.self.invariant.enough in
    rw (← c.self.view_is)
    (c.has_bit.ensures
    ∙ ap (λ w. bit_of w (c.args.place % 64)) (get_or_read c.self.inside.words.items (c.args.place / 64) _ (omega arith) c.index.ensures 0)
    ∙ sym (flag_is c.self.inside.count c.self.inside.words.items c.args.place place_in))
