use Rattle.std.proofs.Common.{◌∙◌, ◌++◌, ◌∷◌, [], ap, sym}
use Rattle.reo_trace_reader.proofs.MoveRows.{ends_move, first_parts, first_read, next_parts, next_read, neither_read, all_read, all_stood}
use Rattle.reo_trace_reader.proofs.Steps.{passes}
use Rattle.reo_trace_reader.proofs.moves.moves.Goals as goal

pub returns-in_err-first-clause-again : goal.returns-in_err-first-clause-again
returns-in_err-first-clause-again c xs rest h ends e =
    let parts = first_parts c.args.ports.now.list c.requires c.args.reader.now xs rest h e in
    passes c.from_residual.result c.in_err-first.field-0.0 _ parts.0 _ _ xs rest
    (c.in_err-first.ensures.again parts.0 _ parts.3 (ends_move c.args.ports.now.list parts.1 rest) parts.5) c.from_residual.ensures

pub loop-alloc-init : goal.loop-alloc-init
loop-alloc-init c =
    first_read c.args.ports.now.list c.requires c.args.reader.now c.one_move.new.reader c.in_ok-first.first c.push.new.self c.number_behind-from.result
    (c.in_ok-push.ensures.ok ∙ ap (λ l. l ++ c.in_ok-first.first ∷ []) c.new-made.ensures) c.number_behind-from.ensures
    c.in_ok-first.ensures.stood.0.1 c.in_ok-first.ensures.stood.1 c.in_ok-first.ensures.again

pub returns-then-not-word-clause-again : goal.returns-then-not-word-clause-again
returns-then-not-word-clause-again c xs rest h ends e =
    neither_read c.args.ports.now.list c.requires c.args.reader.now c.loop-alloc.reader c.loop-alloc.made c.loop-alloc.from c.loop-alloc.invariant
    (c.word.ensures.none c.loop-alloc-test.true)
    (λ more f. c.word-in-loop-alloc.ensures.none c.if-not-word.true more (c.word.ensures.stays c.loop-alloc-test.true ∙ f)) xs rest h e

pub returns-in_err-next-clause-again : goal.returns-in_err-next-clause-again
returns-in_err-next-clause-again c xs rest h ends e =
    let space = sym (c.word.ensures.stays c.loop-alloc-test.true) ∙ c.word-in-loop-alloc.ensures.taken c.if-not-word.false in
    let parts = next_parts c.args.ports.now.list c.requires c.args.reader.now c.loop-alloc.reader c.word-in-loop-alloc.new.self c.loop-alloc.made c.loop-alloc.from c.loop-alloc.invariant
    space (c.word.ensures.none c.loop-alloc-test.true) xs rest h e in
    passes c.from_residual-in_err-next.result c.in_err-next.field-0.0 _ parts.0 _ _ xs rest
    (c.in_err-next.ensures.again parts.0 _ parts.3 (ends_move c.args.ports.now.list parts.1 rest) parts.5) c.from_residual-in_err-next.ensures

pub loop-alloc-preserved : goal.loop-alloc-preserved
loop-alloc-preserved c =
    let space = sym (c.word.ensures.stays c.loop-alloc-test.true) ∙ c.word-in-loop-alloc.ensures.taken c.if-not-word.false in
    next_read c.args.ports.now.list c.requires c.args.reader.now c.loop-alloc.reader c.word-in-loop-alloc.new.self c.one_move-in-loop-alloc.new.reader c.loop-alloc.made c.loop-alloc.from
    c.in_ok-next.next c.push-in-loop-alloc.new.self c.number_behind-from-in-loop-alloc.result c.loop-alloc.invariant
    space (c.word.ensures.none c.loop-alloc-test.true) c.in_ok-push-2.ensures.ok c.number_behind-from-in-loop-alloc.ensures
    c.in_ok-next.ensures.stood.0 c.in_ok-next.ensures.stood.1 c.in_ok-next.ensures.again

pub returns-clause-stood : goal.returns-clause-stood
returns-clause-stood c =
    all_stood c.args.ports.now.list c.requires c.args.reader.now c.loop-alloc.reader c.word.new.self c.loop-alloc.made c.loop-alloc.from c.loop-alloc.invariant (c.word.ensures.taken c.loop-alloc-test.false)

pub returns-clause-again : goal.returns-clause-again
returns-clause-again c xs rest h ends e =
    all_read c.args.ports.now.list c.requires c.args.reader.now c.loop-alloc.reader c.word.new.self c.loop-alloc.made c.loop-alloc.from c.loop-alloc.invariant
    (c.word.ensures.taken c.loop-alloc-test.false) xs rest h e
