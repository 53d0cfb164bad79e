use Rattle.std.proofs.Common.{◌≡◌, ◌*◌, ℕ, List, length, subst, sym, arith}
use Rattle.std.proofs.lemmas.List.{with_items_is}
use Rattle.reo_flags.specs.Bits.{AreKeptBits, flags_of}
use Rattle.reo_flags.specs.Where.{AreKeptWhere}
use Rattle.reo_flags.proofs.Keeping.{kept_flags}
use Rattle.reo_flags.proofs.Lists.{count_is}
use Rattle.reo_flags.proofs.flags.Flags.keep.Goals as goal

pub returns : goal.returns
returns c =
    let n = c.self.inside.count in
    let same : c.marks.inside.count ≡ n = rw (← c.marks.view_is, ← c.self.view_is, count_is c.marks.inside.count c.marks.inside.words.items, count_is n c.self.inside.words.items) at c.requires in
    let all : AreKeptBits c.args.value c.marks.inside.words.items (64 * length c.self.inside.words.items) c.self.inside.words.items c.keep_bits.new.words =
    rw (c.deref.ensures.value, c.deref_mut.ensures.value) at c.keep_bits.ensures in
    let is = with_items_is c.self.inside.words c.keep_bits.new.words (omega (arith, all.one_each, c.self.inside.words.ok.0)) in
    rw (← c.marks.view_is, ← c.self.view_is, same)
    (subst (λ (words : List ℕ). AreKeptWhere c.args.value (flags_of n c.marks.inside.words.items) (flags_of n c.self.inside.words.items) (flags_of n words)) (sym is)
    (kept_flags c.args.value n (64 * length c.self.inside.words.items) c.marks.inside.words.items c.self.inside.words.items c.keep_bits.new.words (omega (arith, c.self.invariant.enough)) all))

pub keep_bits-requires : goal.keep_bits-requires
keep_bits-requires c =
    let same : c.marks.inside.count ≡ c.self.inside.count = rw (← c.marks.view_is, ← c.self.view_is, count_is c.marks.inside.count c.marks.inside.words.items, count_is c.self.inside.count c.self.inside.words.items) at c.requires in
    omega (arith, same, c.deref.ensures.len, c.deref_mut.ensures.len, c.self.invariant.enough, c.marks.invariant.enough, c.self.inside.words.ok.0, c.marks.inside.words.ok.0)
