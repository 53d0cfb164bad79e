use Rattle.std.proofs.Common.{◌∙◌, sym}
use Rattle.reo_refute_parts.proofs.lines.Lines.{no_flow, big_item}
use Rattle.reo_refute_parts.proofs.lines.value.value.Goals as goal

pub returns-else-item : goal.returns-else-item
returns-else-item c x rest h e =
    no_flow c.args.reader.now c.word-5.new.self
    (sym (c.word.ensures.stays c.if-word.false) ∙ sym (c.word-2.ensures.stays c.if-word-2.false) ∙ sym (c.word-3.ensures.stays c.if-word-3.false) ∙ sym (c.word-4.ensures.stays c.if-word-4.false) ∙ c.word-5.ensures.taken c.if-not-word.false)
    (λ n r lt m. big_item c.in-Some.item n c.word-5.new.self c.number_and.new.reader r c.in-Some.ensures.0 c.if-item.false lt c.in-Some.ensures.1 m)
    x rest h e
