use Rattle.std.proofs.Common.{◌∙◌, not, ap, sym, w64}
use Rattle.std.proofs.lemmas.Nat.Bits.{bit_at-lt, bit_at_not}
use Rattle.reo_flags.proofs.OneBit.{none_less, one_less}
use Rattle.reo_flags.proofs.words.having.Goals as goal

pub returns-else-value-clause-set : goal.returns-else-value-clause-set
returns-else-value-clause-set c = λ i lt one.
    one_less _ (bit_at-lt c.args.word i) (sym (bit_at_not w64 c.args.word i c.ranges.word.fits lt) ∙ one) ∙ sym c.if-value.false

pub returns-else-value-clause-clear : goal.returns-else-value-clause-clear
returns-else-value-clause-clear c = λ i lt none.
    none_less _ (bit_at-lt c.args.word i) (sym (bit_at_not w64 c.args.word i c.ranges.word.fits lt) ∙ none) ∙ sym (ap not c.if-value.false)
