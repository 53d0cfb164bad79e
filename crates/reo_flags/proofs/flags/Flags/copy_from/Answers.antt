use Rattle.std.proofs.Common.{◌≡◌, ◌∙◌, ℕ, List, ap, sym, arith}
use Rattle.reo_flags.specs.Bits.{flags_of}
use Rattle.reo_flags.proofs.Lists.{count_is}
use Rattle.reo_flags.proofs.flags.Flags.copy_from.Goals as goal

pub copy_from_slice-requires : goal.copy_from_slice-requires
copy_from_slice-requires c =
    let same : c.other.inside.count ≡ c.self.inside.count = rw (← c.other.view_is, ← c.self.view_is, count_is c.other.inside.count c.other.inside.words.items, count_is c.self.inside.count c.self.inside.words.items) at c.requires in
    omega (arith, same, c.self.inside.words.ok.0, c.deref.ensures.len, c.self.invariant.enough, c.other.invariant.enough)

pub returns : goal.returns
returns c =
    let same : c.other.inside.count ≡ c.self.inside.count = rw (← c.other.view_is, ← c.self.view_is, count_is c.other.inside.count c.other.inside.words.items, count_is c.self.inside.count c.self.inside.words.items) at c.requires in
    ap (λ (n : ℕ). flags_of n c.copy_from_slice.new.self.items) (sym same)
    ∙ ap (λ (words : List ℕ). flags_of c.other.inside.count words) (c.copy_from_slice.ensures.items ∙ c.deref.ensures.value)
    ∙ c.other.view_is
