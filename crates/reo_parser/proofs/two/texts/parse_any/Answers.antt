use Rattle.reo_parser.proofs.two.Only.{only}
use Rattle.reo_parser.proofs.two.texts.parse_any.Goals as goal

pub returns-clause-only : goal.returns-clause-only
returns-clause-only c answer h = only c.args.text.now c.answer_of.result answer c.answer_of.ensures h
