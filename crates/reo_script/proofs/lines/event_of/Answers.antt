use Rattle.std.proofs.Common.{ℕ, ◌+◌, ◌<◌, List, length, refl, sym, ◌∙◌, arith}
use Rattle.reo_grammar.proofs.Exact.{refused-exact}
use Rattle.reo_grammar.proofs.Refusals.{refused-silent}
use Rattle.reo_lexer.specs.declared.token.Token.{Token}
use Rattle.reo_lexer.specs.Lexing.{lexemes_of}
use Rattle.reo_trees.specs.Rules.{circuit_rules}
use Rattle.reo_trees.specs.Table.{circuit_table}
use Rattle.reo_terms.proofs.Fronts.{lexemes-length}
use Rattle.reo_terms.proofs.Whole.{all-said, rest-refused, never-out}
use Rattle.reo_script.specs.scripts.Events.{event_form}
use Rattle.reo_script.proofs.lines.event_of.Goals as goal

enough : (text : List ℕ) (ts : List Token) → length (lexemes_of text ts) < length ts + 1
enough text ts = omega (arith, lexemes-length text ts)

pub returns-then-left-eq0 : goal.returns-then-left-eq0
returns-then-left-eq0 c =
    all-said circuit_rules event_form circuit_table refl refl (lexemes_of c.args.text.now c.args.tokens.now) (length c.args.tokens.now + 1) (enough c.args.text.now c.args.tokens.now) c.in-Ok.event c.event.new.cursor
    (rw c.new-cursor.ensures at c.in-Ok.ensures) (sym c.left.ensures ∙ c.if-left-eq0.true)

pub returns-else-left-eq0 : goal.returns-else-left-eq0
returns-else-left-eq0 c =
    let (_, h, r) = rest-refused circuit_rules event_form circuit_table refl refl (lexemes_of c.args.text.now c.args.tokens.now) (length c.args.tokens.now + 1) (enough c.args.text.now c.args.tokens.now) c.in-Ok.event c.event.new.cursor
    (length c.args.tokens.now) c.left.result (sym (lexemes-length c.args.text.now c.args.tokens.now)) c.left.ensures
    (rw c.new-cursor.ensures at c.in-Ok.ensures) c.if-left-eq0.false in
    (λ e. refused-silent circuit_rules event_form (lexemes_of c.args.text.now c.args.tokens.now) _ e c.requires.real r)

pub returns-in-Err-Syntax : goal.returns-in-Err-Syntax
returns-in-Err-Syntax c =
    let ts = lexemes_of c.args.text.now c.args.tokens.now in
    let refused = refused-exact circuit_table event_form refl refl (length c.args.tokens.now + 1) ts (enough c.args.text.now c.args.tokens.now) c.event.new.cursor
    (rw c.new-cursor.ensures at (rw c.in-Err-Syntax.field-0-is at c.in-Err-Syntax.ensures)) in
    (λ e. refused-silent circuit_rules event_form ts c.event.new.cursor e c.requires.real refused)

pub unreachable-requires : goal.unreachable-requires
unreachable-requires c =
    never-out circuit_rules event_form circuit_table refl refl (lexemes_of c.args.text.now c.args.tokens.now) (length c.args.tokens.now + 1) (enough c.args.text.now c.args.tokens.now)
    (rw c.new-cursor.ensures at (rw c.in-Err-Room.field-0-is at c.in-Err-Room.ensures))
