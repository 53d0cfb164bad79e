use Rattle.reo_trace_reader.proofs.CellTexts.{jam_reads}
use Rattle.reo_trace_reader.proofs.cells.cell.Goals as goal

pub returns-then-word-clause-again : goal.returns-then-word-clause-again
returns-then-word-clause-again c x rest h ends e = jam_reads c.args.reader.now c.word.new.self (c.word.ensures.taken c.if-word.true) x rest h e
