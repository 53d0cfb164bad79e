use Rattle.std.proofs.Common.{◌∙◌, sym}
use Rattle.reo_trace_reader.proofs.FlowTexts.{idle_reads, dash_reads, moves_read}
use Rattle.reo_trace_reader.proofs.Steps.{passes}
use Rattle.reo_trace_reader.proofs.moves.read_flows.Goals as goal

pub returns-then-word-clause-again : goal.returns-then-word-clause-again
returns-then-word-clause-again c x rest h ends e =
    idle_reads c.args.ports.now.list c.requires c.args.reader.now c.word.new.self c.new.result c.new.ensures (c.word.ensures.taken c.if-word.true) x rest h e

pub returns-then-word-2-clause-again : goal.returns-then-word-2-clause-again
returns-then-word-2-clause-again c x rest h ends e =
    dash_reads c.args.ports.now.list c.requires c.args.reader.now c.word-2.new.self c.new-then-word-2.result c.new-then-word-2.ensures
    (sym (c.word.ensures.stays c.if-word.false) ∙ c.word-2.ensures.taken c.if-word-2.true) x rest h e

pub returns-in_err-moves-clause-again : goal.returns-in_err-moves-clause-again
returns-in_err-moves-clause-again c x rest h ends e =
    let same = sym (c.word.ensures.stays c.if-word.false) in
    let read = moves_read c.args.ports.now.list c.requires c.args.reader.now rest x h e (c.word.ensures.none c.if-word.false)
    (λ more f. c.word-2.ensures.none c.if-word-2.false more (sym same ∙ f)) in
    passes c.from_residual.result c.in_err-moves.field-0.0 _ x.moves rest _ x rest
    (c.in_err-moves.ensures.again x.moves rest read.1 tt (c.word-2.ensures.stays c.if-word-2.false ∙ sym same ∙ read.2)) c.from_residual.ensures

pub returns-clause-again : goal.returns-clause-again
returns-clause-again c x rest h ends e =
    let same = sym (c.word.ensures.stays c.if-word.false) in
    let read = moves_read c.args.ports.now.list c.requires c.args.reader.now rest x h e (c.word.ensures.none c.if-word.false)
    (λ more f. c.word-2.ensures.none c.if-word-2.false more (sym same ∙ f)) in
    let found = c.in_ok-moves.ensures.again x.moves rest read.1 tt (c.word-2.ensures.stays c.if-word-2.false ∙ sym same ∙ read.2) in
    ((λ i. record { idle = read.0 i; moves = found.0 i }), found.1)
