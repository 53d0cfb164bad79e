use Rattle.std.proofs.Common.{◌∙◌, ap, sym}
use Rattle.reo_trace.specs.declared.line.Ending.TheVariants.{Done, Stuck, Limit, Wide}
use Rattle.reo_trace_reader.proofs.EndingTexts.{ends_no_digit, done_reads, stuck_reads, limit_reads, wide_reads, spent_reads, done_stood, stuck_stood, limit_stood, wide_stood, spent_stood, ending_none}
use Rattle.reo_trace_reader.proofs.Steps.{passes}
use Rattle.reo_trace_reader.proofs.lines.ending.Goals as goal

pub returns-in_err-rounds-clause-again : goal.returns-in_err-rounds-clause-again
returns-in_err-rounds-clause-again c x rest h ends e =
    let read = done_reads c.args.reader.now c.word.new.self x rest (c.word.ensures.taken c.if-word.true) h e in
    passes c.from_residual.result c.in_err-rounds.field-0.0 _ read.0 rest _ x rest (c.in_err-rounds.ensures.again read.0 rest read.2 tt read.3) c.from_residual.ensures

pub returns-then-word-clause-stood : goal.returns-then-word-clause-stood
returns-then-word-clause-stood c = (
  c.in_ok-rounds.ensures.stood.0,
  done_stood c.args.reader.now c.word.new.self c.number_before.new.reader c.in_ok-rounds.rounds (c.word.ensures.taken c.if-word.true) c.in_ok-rounds.ensures.stood.1,
)

pub returns-then-word-clause-again : goal.returns-then-word-clause-again
returns-then-word-clause-again c x rest h ends e =
    let read = done_reads c.args.reader.now c.word.new.self x rest (c.word.ensures.taken c.if-word.true) h e in
    let found = c.in_ok-rounds.ensures.again read.0 rest read.2 tt read.3 in
    (ap Done found.0 ∙ sym read.1, found.1)

pub returns-in_err-rounds-2-clause-again : goal.returns-in_err-rounds-2-clause-again
returns-in_err-rounds-2-clause-again c x rest h ends e =
    let read = stuck_reads c.args.reader.now c.word-2.new.self x rest (sym (c.word.ensures.stays c.if-word.false) ∙ c.word-2.ensures.taken c.if-word-2.true) h e in
    passes c.from_residual-in_err-rounds-2.result c.in_err-rounds-2.field-0.0 _ read.0 rest _ x rest (c.in_err-rounds-2.ensures.again read.0 rest read.2 tt read.3) c.from_residual-in_err-rounds-2.ensures

pub returns-then-word-2-clause-stood : goal.returns-then-word-2-clause-stood
returns-then-word-2-clause-stood c = (
  c.in_ok-rounds-2.ensures.stood.0,
  stuck_stood c.args.reader.now c.word-2.new.self c.number_before-then-word-2.new.reader c.in_ok-rounds-2.rounds (sym (c.word.ensures.stays c.if-word.false) ∙ c.word-2.ensures.taken c.if-word-2.true) c.in_ok-rounds-2.ensures.stood.1,
)

pub returns-then-word-2-clause-again : goal.returns-then-word-2-clause-again
returns-then-word-2-clause-again c x rest h ends e =
    let read = stuck_reads c.args.reader.now c.word-2.new.self x rest (sym (c.word.ensures.stays c.if-word.false) ∙ c.word-2.ensures.taken c.if-word-2.true) h e in
    let found = c.in_ok-rounds-2.ensures.again read.0 rest read.2 tt read.3 in
    (ap Stuck found.0 ∙ sym read.1, found.1)

pub returns-in_err-rounds-3-clause-again : goal.returns-in_err-rounds-3-clause-again
returns-in_err-rounds-3-clause-again c x rest h ends e =
    let read = limit_reads c.args.reader.now c.word-3.new.self x rest (sym (c.word.ensures.stays c.if-word.false) ∙ sym (c.word-2.ensures.stays c.if-word-2.false) ∙ c.word-3.ensures.taken c.if-word-3.true) h e in
    passes c.from_residual-in_err-rounds-3.result c.in_err-rounds-3.field-0.0 _ read.0 rest _ x rest (c.in_err-rounds-3.ensures.again read.0 rest read.2 tt read.3) c.from_residual-in_err-rounds-3.ensures

pub returns-then-word-3-clause-stood : goal.returns-then-word-3-clause-stood
returns-then-word-3-clause-stood c = (
  c.in_ok-rounds-3.ensures.stood.0,
  limit_stood c.args.reader.now c.word-3.new.self c.number_before-then-word-3.new.reader c.in_ok-rounds-3.rounds (sym (c.word.ensures.stays c.if-word.false) ∙ sym (c.word-2.ensures.stays c.if-word-2.false) ∙ c.word-3.ensures.taken c.if-word-3.true) c.in_ok-rounds-3.ensures.stood.1,
)

pub returns-then-word-3-clause-again : goal.returns-then-word-3-clause-again
returns-then-word-3-clause-again c x rest h ends e =
    let read = limit_reads c.args.reader.now c.word-3.new.self x rest (sym (c.word.ensures.stays c.if-word.false) ∙ sym (c.word-2.ensures.stays c.if-word-2.false) ∙ c.word-3.ensures.taken c.if-word-3.true) h e in
    let found = c.in_ok-rounds-3.ensures.again read.0 rest read.2 tt read.3 in
    (ap Limit found.0 ∙ sym read.1, found.1)

pub returns-in_err-part-clause-again : goal.returns-in_err-part-clause-again
returns-in_err-part-clause-again c x rest h ends e =
    let read = wide_reads c.args.reader.now c.word-4.new.self x rest (sym (c.word.ensures.stays c.if-word.false) ∙ sym (c.word-2.ensures.stays c.if-word-2.false) ∙ sym (c.word-3.ensures.stays c.if-word-3.false) ∙ c.word-4.ensures.taken c.if-word-4.true) h e in
    passes c.from_residual-in_err-part.result c.in_err-part.field-0.0 _ read.0 rest _ x rest (c.in_err-part.ensures.again read.0 rest read.2 (ends_no_digit rest ends) read.3)
    c.from_residual-in_err-part.ensures

pub returns-then-word-4-clause-stood : goal.returns-then-word-4-clause-stood
returns-then-word-4-clause-stood c = (
  c.in_ok-part.ensures.stood.0,
  wide_stood c.args.reader.now c.word-4.new.self c.read_part.new.reader c.in_ok-part.part (sym (c.word.ensures.stays c.if-word.false) ∙ sym (c.word-2.ensures.stays c.if-word-2.false) ∙ sym (c.word-3.ensures.stays c.if-word-3.false) ∙ c.word-4.ensures.taken c.if-word-4.true) c.in_ok-part.ensures.stood.1,
)

pub returns-then-word-4-clause-again : goal.returns-then-word-4-clause-again
returns-then-word-4-clause-again c x rest h ends e =
    let read = wide_reads c.args.reader.now c.word-4.new.self x rest (sym (c.word.ensures.stays c.if-word.false) ∙ sym (c.word-2.ensures.stays c.if-word-2.false) ∙ sym (c.word-3.ensures.stays c.if-word-3.false) ∙ c.word-4.ensures.taken c.if-word-4.true) h e in
    let found = c.in_ok-part.ensures.again read.0 rest read.2 (ends_no_digit rest ends) read.3 in
    ((λ i. Wide (found.0 i).round (found.0 i).knot) ∙ sym read.1, found.1)

pub returns-then-word-5-clause-stood : goal.returns-then-word-5-clause-stood
returns-then-word-5-clause-stood c =
    spent_stood c.args.reader.now c.word-5.new.self c.spent.new.reader c.spent.result (sym (c.word.ensures.stays c.if-word.false) ∙ sym (c.word-2.ensures.stays c.if-word-2.false) ∙ sym (c.word-3.ensures.stays c.if-word-3.false) ∙ sym (c.word-4.ensures.stays c.if-word-4.false) ∙ c.word-5.ensures.taken c.if-word-5.true) c.spent.ensures.stood

pub returns-then-word-5-clause-again : goal.returns-then-word-5-clause-again
returns-then-word-5-clause-again c x rest h ends e =
    let read = spent_reads c.args.reader.now c.word-5.new.self x rest (sym (c.word.ensures.stays c.if-word.false) ∙ sym (c.word-2.ensures.stays c.if-word-2.false) ∙ sym (c.word-3.ensures.stays c.if-word-3.false) ∙ sym (c.word-4.ensures.stays c.if-word-4.false) ∙ c.word-5.ensures.taken c.if-word-5.true) h e in
    c.spent.ensures.again x rest read.0 (ends_no_digit rest ends) read.1

pub returns-clause-again : goal.returns-clause-again
returns-clause-again c x rest h ends e =
    ending_none c.args.reader.now (λ left f. c.word.ensures.none c.if-word.false left (f))
    (λ left f. c.word-2.ensures.none c.if-word-2.false left (c.word.ensures.stays c.if-word.false ∙ f))
    (λ left f. c.word-3.ensures.none c.if-word-3.false left (c.word-2.ensures.stays c.if-word-2.false ∙ c.word.ensures.stays c.if-word.false ∙ f))
    (λ left f. c.word-4.ensures.none c.if-word-4.false left (c.word-3.ensures.stays c.if-word-3.false ∙ c.word-2.ensures.stays c.if-word-2.false ∙ c.word.ensures.stays c.if-word.false ∙ f))
    (λ left f. c.word-5.ensures.none c.if-word-5.false left (c.word-4.ensures.stays c.if-word-4.false ∙ c.word-3.ensures.stays c.if-word-3.false ∙ c.word-2.ensures.stays c.if-word-2.false ∙ c.word.ensures.stays c.if-word.false ∙ f))
    x rest e
