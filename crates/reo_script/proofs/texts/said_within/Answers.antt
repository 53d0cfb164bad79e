use Rattle.std.proofs.Common.{arith, []}
use Rattle.reo_script.specs.scripts.ScriptForms.{script_rules, script_form}
use Rattle.reo_script.specs.scripts.ScriptAnswers.{IsDeep}
use Rattle.reo_script.proofs.Empty.{no-components}
use Rattle.reo_terms.proofs.Answering.{some-tokens, syntax-within}
use Rattle.reo_terms.proofs.Fronts.{lexemes-length}
use Rattle.reo_script.proofs.texts.said_within.Goals as goal

pub line_of_refusal-requires : goal.line_of_refusal-requires
line_of_refusal-requires c =
    let q = rw c.in-Refused.is at c.in_ok-components.ensures in some-tokens script_rules script_form [] no-components c.args.text.now c.args.tokens.now c.in-Refused.place q.1

pub returns-in-Refused : goal.returns-in-Refused
returns-in-Refused c =
    let q = rw c.in-Refused.is at c.in_ok-components.ensures in (
      c.args.tokens.now,
      c.requires.tokens,
      syntax-within script_rules script_form IsDeep c.args.text.now c.args.tokens.now c.in-Refused.place c.line_of_refusal.result c.requires.levels q.1
          (c.line_of_refusal.ensures c.args.text.now (omega (arith, q.0, lexemes-length c.args.text.now c.args.tokens.now))),
    )
