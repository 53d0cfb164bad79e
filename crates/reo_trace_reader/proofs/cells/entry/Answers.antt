use Rattle.std.proofs.Common.{◌∙◌, ◌++◌, ap, sym}
use Rattle.reo_trace.specs.declared.line.Entry.TheVariants.{One, Two}
use Rattle.reo_trace.specs.RoundText.{cell_text}
use Rattle.reo_trace_reader.proofs.texts.Entries.{end_no_digit}
use Rattle.reo_trace_reader.proofs.CellTexts.{entry_parts, two_reads, one_reads, two_stood, one_stood}
use Rattle.reo_trace_reader.proofs.Steps.{passes}
use Rattle.reo_trace_reader.proofs.cells.entry.Goals as goal

pub returns-in_err-mouth-clause-again : goal.returns-in_err-mouth-clause-again
returns-in_err-mouth-clause-again c x rest h ends e =
    let parts = entry_parts c.args.reader.now x rest h ends e in
    passes c.from_residual.result c.in_err-mouth.field-0.0 _ parts.0 parts.1 _ x rest
    (c.in_err-mouth.ensures.again parts.0 parts.1 parts.3.cell parts.3.ends parts.2) c.from_residual.ensures

pub returns-in_err-tail-clause-again : goal.returns-in_err-tail-clause-again
returns-in_err-tail-clause-again c x rest h ends e =
    let parts = entry_parts c.args.reader.now x rest h ends e in
    let first = c.in_ok-mouth.ensures.again parts.0 parts.1 parts.3.cell parts.3.ends parts.2 in
    let second = two_reads x rest parts.0 parts.1 c.word.new.self parts.3 ends (sym first.1 ∙ c.word.ensures.taken c.if-word.true) in
    passes c.from_residual-in_err-tail.result c.in_err-tail.field-0.0 _ second.0 rest _ x rest
    (c.in_err-tail.ensures.again second.0 rest second.2 (end_no_digit rest ends) second.3) c.from_residual-in_err-tail.ensures

pub returns-in_ok-tail-clause-stood : goal.returns-in_ok-tail-clause-stood
returns-in_ok-tail-clause-stood c = (
  (c.in_ok-mouth.ensures.stood.0, c.in_ok-tail.ensures.stood.0),
  two_stood c.args.reader.now c.word.new.self c.cell-then-word.new.reader c.in_ok-mouth.mouth c.in_ok-tail.tail
      (c.in_ok-mouth.ensures.stood.1 ∙ ap (λ l. cell_text c.in_ok-mouth.mouth ++ l) (c.word.ensures.taken c.if-word.true)) c.in_ok-tail.ensures.stood.1,
)

pub returns-in_ok-tail-clause-again : goal.returns-in_ok-tail-clause-again
returns-in_ok-tail-clause-again c x rest h ends e =
    let parts = entry_parts c.args.reader.now x rest h ends e in
    let first = c.in_ok-mouth.ensures.again parts.0 parts.1 parts.3.cell parts.3.ends parts.2 in
    let second = two_reads x rest parts.0 parts.1 c.word.new.self parts.3 ends (sym first.1 ∙ c.word.ensures.taken c.if-word.true) in
    let last = c.in_ok-tail.ensures.again second.0 rest second.2 (end_no_digit rest ends) second.3 in
    ((λ i. Two (first.0 i) (last.0 i)) ∙ sym second.1, last.1)

pub returns-else-word-clause-stood : goal.returns-else-word-clause-stood
returns-else-word-clause-stood c =
    (c.in_ok-mouth.ensures.stood.0, one_stood c.args.reader.now _ c.in_ok-mouth.mouth (c.in_ok-mouth.ensures.stood.1 ∙ ap (λ l. cell_text c.in_ok-mouth.mouth ++ l) (sym (c.word.ensures.stays c.if-word.false))))

pub returns-else-word-clause-again : goal.returns-else-word-clause-again
returns-else-word-clause-again c x rest h ends e =
    let parts = entry_parts c.args.reader.now x rest h ends e in
    let first = c.in_ok-mouth.ensures.again parts.0 parts.1 parts.3.cell parts.3.ends parts.2 in
    let last = one_reads x rest parts.0 parts.1 parts.3 (λ left f. c.word.ensures.none c.if-word.false left (first.1 ∙ f)) in
    (ap One first.0 ∙ last.0, c.word.ensures.stays c.if-word.false ∙ first.1 ∙ last.1)
