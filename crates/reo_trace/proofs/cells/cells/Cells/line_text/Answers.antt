use Rattle.reo_trace.proofs.cells.Whole.{line_is}
use Rattle.reo_trace.proofs.cells.cells.Cells.line_text.Goals as goal

pub returns : goal.returns
returns c = λ net rows wired are rows_are shown idle.
    line_is net rows c.args.self.now c.args.ports.now.list c.args.round c.args.idle c.args.moves.now c.clear.new.self c.append_head.new.text c.append_tail.new.text
    c.clear.ensures c.in_ok-append_head.ensures (c.in_ok-append_tail.ensures net are) wired are rows_are shown idle
