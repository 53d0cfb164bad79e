use Rattle.std.proofs.Common.{arith}
use Rattle.reo_lexer.specs.Lexing.{lexemes_of}
use Rattle.reo_trees.specs.ProgramsTwo.{program_two}
use Rattle.reo_trees.specs.Rules.{circuit_rules}
use Rattle.reo_trees.specs.SaysTwo.{IsDeepTwo}
use Rattle.reo_terms.proofs.Answering.{syntax-within}
use Rattle.reo_parser.proofs.Fronts.{lexemes-length}
use Rattle.reo_parser.proofs.two.Answering.{some-second, syntax-second}
use Rattle.reo_parser.proofs.two.texts.answer_within.Goals as goal

pub line_of_refusal-requires : goal.line_of_refusal-requires
line_of_refusal-requires c = some-second c.args.text.now c.args.tokens.now c.requires.second

pub returns-in-Refused : goal.returns-in-Refused
returns-in-Refused c =
    let q = rw c.in-Refused.is at c.in_ok-program.ensures in (
      c.args.tokens.now,
      c.requires.tokens,
      syntax-second (lexemes_of c.args.text.now c.args.tokens.now) c.line_of_refusal.result c.requires.second
          (syntax-within circuit_rules program_two IsDeepTwo c.args.text.now c.args.tokens.now c.in-Refused.place c.line_of_refusal.result c.requires.levels q.1
          (c.line_of_refusal.ensures c.args.text.now (omega (arith, q.0, lexemes-length c.args.text.now c.args.tokens.now)))),
    )
