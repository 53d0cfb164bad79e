use Rattle.std.proofs.Common.{◌∙◌, eqb, ap, sym, w64}
use Rattle.std.proofs.lemmas.Nat.Bits.{bit_at_clear_other, bit_at_clear_same, bit_at_set_other, bit_at_set_same}
use Rattle.reo_flags.proofs.OneBit.{is_none, is_one}
use Rattle.reo_flags.proofs.words.with_bit.Goals as goal

pub returns-then-value-clause-here : goal.returns-then-value-clause-here
returns-then-value-clause-here c = is_one _ (bit_at_set_same w64 c.args.word c.args.place c.requires) ∙ sym c.if-value.true

pub returns-then-value-clause-others : goal.returns-then-value-clause-others
returns-then-value-clause-others c = λ i lt ne. ap (λ d. eqb d 1) (bit_at_set_other w64 c.args.word c.args.place c.requires i ne)

pub returns-else-value-clause-here : goal.returns-else-value-clause-here
returns-else-value-clause-here c = is_none _ (bit_at_clear_same w64 c.args.word c.args.place c.requires) ∙ sym c.if-value.false

pub returns-else-value-clause-others : goal.returns-else-value-clause-others
returns-else-value-clause-others c = λ i lt ne. ap (λ d. eqb d 1) (bit_at_clear_other w64 c.args.word c.args.place c.requires i lt ne)
