use Rattle.reo_grammar.specs.declared.kind.TokenKind.TheVariants as kinds
use Rattle.reo_script.specs.scripts.ScriptForms.{script_rules, script_form}
use Rattle.reo_script.specs.scripts.ScriptAnswers.{IsDeep}
use Rattle.reo_terms.proofs.Answering.{cut-real, deep-said, deep-begun, syntax-above}
use Rattle.reo_script.proofs.texts.said_above.Goals as goal

pub read_all-requires-clause-real : goal.read_all-requires-clause-real
read_all-requires-clause-real c =
    cut-real script_rules script_form IsDeep c.args.text.now c.args.tokens.now c.args.place (record { kind = kinds.Name; start = 0; end = 0; line = 0 }) c.requires.levels c.requires.real

pub returns-in-Said : goal.returns-in-Said
returns-in-Said c = (
  c.args.tokens.now,
  c.requires.tokens,
  deep-said script_rules script_form IsDeep c.args.text.now c.args.tokens.now c.args.place (record { kind = kinds.Name; start = 0; end = 0; line = 0 }) c.requires.levels
      c.in-Said.field-0 (rw c.in-Said.is at c.in_ok-read_all.ensures),
)

pub returns-then-refused-place : goal.returns-then-refused-place
returns-then-refused-place c =
    let q = rw c.in-Refused.is at c.in_ok-read_all.ensures in (
      c.args.tokens.now,
      c.requires.tokens,
      syntax-above script_rules script_form IsDeep c.args.text.now c.args.tokens.now c.args.place (record { kind = kinds.Name; start = 0; end = 0; line = 0 }) c.requires.levels
          c.in-Refused.refused q.1 c.if-refused-place.true,
    )

pub returns-else-refused-place : goal.returns-else-refused-place
returns-else-refused-place c =
    let q = rw c.in-Refused.is at c.in_ok-read_all.ensures in (
      c.args.tokens.now,
      c.requires.tokens,
      deep-begun script_rules script_form IsDeep c.args.text.now c.args.tokens.now c.args.place (record { kind = kinds.Name; start = 0; end = 0; line = 0 }) c.requires.levels
          c.in-Refused.refused q.1 c.if-refused-place.false,
    )
