use Rattle.std.proofs.Common.{◌∙◌, sym}
use Rattle.std.proofs.lemmas.Nat.Bits.{bit_at_ones}
use Rattle.reo_flags.proofs.OneBit.{is_one}
use Rattle.reo_flags.proofs.words.word_of.Goals as goal

pub returns-then-value : goal.returns-then-value
returns-then-value c = λ i lt. is_one _ (bit_at_ones 64 i lt) ∙ sym c.if-value.true
