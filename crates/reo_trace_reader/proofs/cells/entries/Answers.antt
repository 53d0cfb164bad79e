use Rattle.std.proofs.Common.{◌∙◌, ◌++◌, ◌∷◌, [], ap, sym}
use Rattle.reo_trace.specs.RoundText.{entry_text}
use Rattle.reo_trace_reader.specs.texts.Lines.{IsEntry}
use Rattle.reo_trace_reader.proofs.EntryRows.{none_reads, some_reads, ends_entry, ends_no_space, first_read, next_read}
use Rattle.reo_trace_reader.proofs.RowTexts.{left_more, left_none}
use Rattle.reo_trace_reader.proofs.Steps.{passes}
use Rattle.reo_trace_reader.proofs.cells.entries.Goals as goal

pub returns-then-ends_line-clause-again : goal.returns-then-ends_line-clause-again
returns-then-ends_line-clause-again c xs rest h ends e =
    let none = none_reads c.args.reader.now xs rest (c.ends_line.ensures.yes c.if-ends_line.true) h e in
    (c.new-made.ensures ∙ none.0, none.1)

pub returns-in_err-first-clause-again : goal.returns-in_err-first-clause-again
returns-in_err-first-clause-again c xs rest h ends e =
    let some = some_reads c.args.reader.now xs rest (c.ends_line.ensures.no c.if-ends_line.false) h ends e in
    passes c.from_residual.result c.in_err-first.field-0.0 _ some.0 _ _ xs rest
    (c.in_err-first.ensures.again some.0 _ some.3 (ends_entry some.1 rest ends) some.5) c.from_residual.ensures

pub loop-reader-init : goal.loop-reader-init
loop-reader-init c =
    first_read c.args.reader.now c.entry.new.reader c.in_ok-first.first c.push.new.self
    (c.in_ok-push.ensures.ok ∙ ap (λ l. l ++ c.in_ok-first.first ∷ []) c.new-made.ensures)
    c.in_ok-first.ensures.stood.0 c.in_ok-first.ensures.stood.1
    (λ xs rest h ends e.
    let some = some_reads c.args.reader.now xs rest (c.ends_line.ensures.no c.if-ends_line.false) h ends e in
    let first = c.in_ok-first.ensures.again some.0 _ some.3 (ends_entry some.1 rest ends) some.5 in
    (some.1, some.2 ∙ sym (ap (λ x. x ∷ some.1) first.0), some.4, first.1))

pub returns-in_err-next-clause-again : goal.returns-in_err-next-clause-again
returns-in_err-next-clause-again c xs rest h ends e =
    let left = c.loop-reader.invariant.again xs rest h ends e in
    let space = c.word.ensures.taken c.loop-reader-test.true in
    let more = left_more entry_text IsEntry xs c.loop-reader.made c.loop-reader.reader rest c.word.new.self left space (λ same. ends_no_space rest _ ends (sym space ∙ same)) in
    passes c.from_residual-in_err-next.result c.in_err-next.field-0.0 _ more.0 _ _ xs rest
    (c.in_err-next.ensures.again more.0 _ more.3 (ends_entry more.1 rest ends) more.5) c.from_residual-in_err-next.ensures

pub loop-reader-preserved : goal.loop-reader-preserved
loop-reader-preserved c =
    let space = c.word.ensures.taken c.loop-reader-test.true in
    next_read c.args.reader.now c.loop-reader.reader c.word.new.self c.entry-in-loop-reader.new.reader c.loop-reader.made c.in_ok-next.next c.push-in-loop-reader.new.self
    c.loop-reader.invariant space c.in_ok-push-2.ensures.ok
    c.in_ok-next.ensures.stood.0 c.in_ok-next.ensures.stood.1 c.in_ok-next.ensures.again

pub returns-clause-again : goal.returns-clause-again
returns-clause-again c xs rest h ends e =
    let left = c.loop-reader.invariant.again xs rest h ends e in
    let all = left_none entry_text IsEntry xs c.loop-reader.made c.loop-reader.reader rest left (λ y ys is same. c.word.ensures.none c.loop-reader-test.false _ same) in
    (all.0, c.word.ensures.stays c.loop-reader-test.false ∙ all.1)
