use Rattle.std.proofs.Common.{get_or}
use Rattle.reo_grammar.specs.declared.kind.TokenKind.TheVariants as kinds
use Rattle.reo_lexer.specs.Lexing.{lexemes_of}
use Rattle.reo_trees.specs.ProgramsTwo.{program_two}
use Rattle.reo_trees.specs.Rules.{circuit_rules}
use Rattle.reo_trees.specs.SaysTwo.{IsDeepTwo}
use Rattle.reo_terms.proofs.Answering.{cut-real, deep-said, deep-begun, syntax-above}
use Rattle.reo_parser.proofs.two.Answering.{syntax-second, deep-second}
use Rattle.reo_parser.proofs.two.texts.answer_above.Goals as goal
use Rattle.reo_parser.proofs.two.texts.answer_above.Goals.{in-Said, in-Refused+then-refused-place, in-Refused+else-refused-place}

pub read_all-requires-clause-real : goal.read_all-requires-clause-real
read_all-requires-clause-real c =
    cut-real circuit_rules program_two IsDeepTwo c.args.text.now c.args.tokens.now c.args.place (record { kind = kinds.Name; start = 0; end = 0; line = 0 }) c.requires.levels c.requires.real

pub returns : goal.returns
returns c = elim c.match-branch-2.branch [
  | in-Said w ↦ rw w.result-is (
    c.args.tokens.now,
    c.requires.tokens,
    deep-second (lexemes_of c.args.text.now c.args.tokens.now) (get_or c.args.tokens.now c.args.place (record { kind = kinds.Name; start = 0; end = 0; line = 0 })).line c.requires.second
        (deep-said circuit_rules program_two IsDeepTwo c.args.text.now c.args.tokens.now c.args.place (record { kind = kinds.Name; start = 0; end = 0; line = 0 }) c.requires.levels w.in-Said.field-0 (rw w.in-Said.is at c.in_ok-refused.ensures)),
  )
  | in-Refused+then-refused-place w ↦
      let q = rw w.in-Refused.is at c.in_ok-refused.ensures in
      rw w.result-is (
        c.args.tokens.now,
        c.requires.tokens,
        syntax-second (lexemes_of c.args.text.now c.args.tokens.now) (get_or c.args.tokens.now w.in-Refused.refused (record { kind = kinds.Name; start = 0; end = 0; line = 0 })).line c.requires.second
            (syntax-above circuit_rules program_two IsDeepTwo c.args.text.now c.args.tokens.now c.args.place (record { kind = kinds.Name; start = 0; end = 0; line = 0 }) c.requires.levels w.in-Refused.refused q.1 w.if-refused-place.true),
      )
  | in-Refused+else-refused-place w ↦
      let q = rw w.in-Refused.is at c.in_ok-refused.ensures in
      rw w.result-is (
        c.args.tokens.now,
        c.requires.tokens,
        deep-second (lexemes_of c.args.text.now c.args.tokens.now) (get_or c.args.tokens.now c.args.place (record { kind = kinds.Name; start = 0; end = 0; line = 0 })).line c.requires.second
            (deep-begun circuit_rules program_two IsDeepTwo c.args.text.now c.args.tokens.now c.args.place (record { kind = kinds.Name; start = 0; end = 0; line = 0 }) c.requires.levels w.in-Refused.refused q.1 w.if-refused-place.false),
      )
]
