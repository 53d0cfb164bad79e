use Rattle.reo_trace_reader.proofs.reading.read_line.Goals as goal

pub returns-in-Some-clause-only : goal.returns-in-Some-clause-only
returns-in-Some-clause-only c answer h = c.one_line_answer.ensures c.args.ports.now.list c.args.line.now _ answer c.requires c.in-Some.ensures h

pub returns-clause-only : goal.returns-clause-only
returns-clause-only c answer h = c.one_line_answer.ensures c.args.ports.now.list c.args.line.now _ answer c.requires c.in_ok-round.ensures.found h
