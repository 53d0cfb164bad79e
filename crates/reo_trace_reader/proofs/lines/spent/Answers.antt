use Rattle.std.proofs.Common.{◌∙◌, sym}
use Rattle.reo_trace.specs.declared.line.Ending.TheVariants.{Spent}
use Rattle.reo_trace_reader.proofs.EndingTexts.{spent_parts, load_no_digit}
use Rattle.reo_trace_reader.proofs.Steps.{passes}
use Rattle.reo_trace_reader.proofs.lines.spent.Goals as goal

pub returns-in_err-part-clause-again : goal.returns-in_err-part-clause-again
returns-in_err-part-clause-again c x rest h ends e =
    let parts = spent_parts c.args.reader.now x rest h e in
    passes c.from_residual.result c.in_err-part.field-0.0 _ parts.0 _ _ x rest
    (c.in_err-part.ensures.again parts.0 _ parts.3 (load_no_digit parts.1 rest) parts.5) c.from_residual.ensures

pub returns-in_err-load-clause-again : goal.returns-in_err-load-clause-again
returns-in_err-load-clause-again c x rest h ends e =
    let parts = spent_parts c.args.reader.now x rest h e in
    let first = c.in_ok-part.ensures.again parts.0 _ parts.3 (load_no_digit parts.1 rest) parts.5 in
    passes c.from_residual-in_err-load.result c.in_err-load.field-0.0 _ parts.1 rest _ x rest
    (c.in_err-load.ensures.again parts.1 rest parts.4 ends first.1) c.from_residual-in_err-load.ensures

pub returns-clause-again : goal.returns-clause-again
returns-clause-again c x rest h ends e =
    let parts = spent_parts c.args.reader.now x rest h e in
    let first = c.in_ok-part.ensures.again parts.0 _ parts.3 (load_no_digit parts.1 rest) parts.5 in
    let last = c.in_ok-load.ensures.again parts.1 rest parts.4 ends first.1 in
    ((λ i. Spent (first.0 i).round (first.0 i).knot (last.0 i).weight (last.0 i).budget) ∙ sym parts.2, last.1)
