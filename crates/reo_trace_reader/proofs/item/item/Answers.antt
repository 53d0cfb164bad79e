use Rattle.std.proofs.Common.{◌∙◌, Err, ap, sym}
use Rattle.reo_values.proofs.ItemTexts.{text_tells}
use Rattle.reo_trace_reader.specs.declared.item.Spot.TheVariants.{Outside}
use Rattle.reo_trace_reader.specs.ItemEnd.{bytes_of_item}
use Rattle.reo_trace_reader.proofs.ItemFront.{item_front}
use Rattle.reo_trace_reader.proofs.item.item.Goals as goal

pub returns-in-Ok-clause-again : goal.returns-in-Ok-clause-again
returns-in-Ok-clause-again c x rest h ends e =
    let count = c.item_length-count.ensures.length ∙ ap (λ l. bytes_of_item Outside l) c.left.ensures in
    let front = item_front c.args.reader.now rest c.item_length-count.result c.args.kindred.now x c.requires h ends e count in
    (text_tells c.args.kindred.now c.in-Ok.item x c.requires c.in-Ok.ensures.found.0 h (sym c.in-Ok.ensures.found.1 ∙ c.take.ensures.taken ∙ front.0), c.take.ensures.left ∙ front.1)

pub returns-in-Err-NotALiteral-clause-again : goal.returns-in-Err-NotALiteral-clause-again
returns-in-Err-NotALiteral-clause-again c x rest h ends e =
    let count = c.item_length-count.ensures.length ∙ ap (λ l. bytes_of_item Outside l) c.left.ensures in
    let front = item_front c.args.reader.now rest c.item_length-count.result c.args.kindred.now x c.requires h ends e count in
    c.in-Err-NotALiteral.ensures.none (ap Err c.in-Err-NotALiteral.field-0-is) x h (c.take.ensures.taken ∙ front.0)
