use Rattle.std.specs.Prelude.{codes}
use Rattle.std.specs.Fmt.{decimal}
use Rattle.reo_top.proofs.MeasureLemmas.{appended}
use Rattle.reo_top.proofs.measuring.append_measure.Goals as goal

pub returns : goal.returns
returns c =
    appended c.args.line.now c.append_numbered.new.line c.append_numbered-2.new.line c.append_numbered-3.new.line c.append_numbered-4.new.line c.append_numbered-5.new.line c.append.new.self c.append-2.new.self c.append-3.new.self
    (codes "bench ") (decimal c.args.size) (codes ": ") (decimal c.args.primitives) (codes " primitives, ") (decimal c.args.outcome.rounds) (codes " rounds, ") (decimal c.args.outcome.written)
    (codes " written, ") (decimal c.args.outcome.delivered) (codes " delivered, ") c.args.end.now (codes "\n")
    c.in_ok-append_numbered.ensures c.in_ok-append_numbered-2.ensures c.in_ok-append_numbered-3.ensures c.in_ok-append_numbered-4.ensures c.in_ok-append_numbered-5.ensures c.in_ok-append.ensures.ok c.in_ok-append-2.ensures.ok c.in_ok-append-3.ensures.ok
