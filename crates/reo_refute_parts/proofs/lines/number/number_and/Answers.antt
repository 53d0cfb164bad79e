use Rattle.reo_refute_parts.proofs.lines.Lines.{byte_follows}
use Rattle.reo_refute_parts.proofs.lines.number.number_and.Goals as goal

pub returns-else-word : goal.returns-else-word
returns-else-word c x rest g e =
    let both = byte_follows c.args.byte c.in-Some.found x c.args.reader.now c.number.new.reader rest c.requires c.in-Some.ensures.0 c.in-Some.ensures.1 c.in-Some.ensures.2 g e in
    c.word.ensures.none c.if-word.false rest both.1
