use Rattle.std.proofs.Common.{refl, ℕ, ◌+◌, ◌<◌, List, length, sym, ◌∙◌, arith}
use Rattle.reo_lexer.specs.declared.token.Token.{Token}
use Rattle.reo_lexer.specs.Lexing.{lexemes_of}
use Rattle.reo_parser.proofs.Fronts.{lexemes-length}
use Rattle.reo_trees.specs.ProgramsTwo.{program_two}
use Rattle.reo_trees.specs.Rules.{circuit_rules}
use Rattle.reo_trees.specs.Table.{circuit_table}
use Rattle.reo_terms.proofs.Whole.{all-said, rest-refused, stop-refused, never-out}
use Rattle.reo_parser.proofs.two.texts.read_all.Goals as goal

enough : (text : List ℕ) (ts : List Token) → length (lexemes_of text ts) < length ts + 1
enough text ts = omega (arith, lexemes-length text ts)

pub returns-then-left-eq0 : goal.returns-then-left-eq0
returns-then-left-eq0 c =
    all-said circuit_rules program_two circuit_table refl refl (lexemes_of c.args.text.now c.args.tokens.now) (length c.args.tokens.now + 1) (enough c.args.text.now c.args.tokens.now) c.in-Ok.program c.program.new.cursor
    (rw c.new-cursor.ensures at c.in-Ok.ensures) (sym c.left.ensures ∙ c.if-left-eq0.true)

pub overflow_sub-result : goal.overflow_sub-result
overflow_sub-result c =
    (rest-refused circuit_rules program_two circuit_table refl refl (lexemes_of c.args.text.now c.args.tokens.now) (length c.args.tokens.now + 1) (enough c.args.text.now c.args.tokens.now) c.in-Ok.program c.program.new.cursor
    (length c.args.tokens.now) c.left-else-left-eq0.result (sym (lexemes-length c.args.text.now c.args.tokens.now)) c.left-else-left-eq0.ensures
    (rw c.new-cursor.ensures at c.in-Ok.ensures) (λ e. c.if-left-eq0.false (c.left.ensures ∙ sym c.left-else-left-eq0.ensures ∙ e))).0

pub returns-else-left-eq0 : goal.returns-else-left-eq0
returns-else-left-eq0 c =
    let (_, h, r) = rest-refused circuit_rules program_two circuit_table refl refl (lexemes_of c.args.text.now c.args.tokens.now) (length c.args.tokens.now + 1) (enough c.args.text.now c.args.tokens.now) c.in-Ok.program c.program.new.cursor
    (length c.args.tokens.now) c.left-else-left-eq0.result (sym (lexemes-length c.args.text.now c.args.tokens.now)) c.left-else-left-eq0.ensures
    (rw c.new-cursor.ensures at c.in-Ok.ensures) (λ e. c.if-left-eq0.false (c.left.ensures ∙ sym c.left-else-left-eq0.ensures ∙ e)) in
    (h, r)

pub overflow_sub-result-in-Err-Syntax : goal.overflow_sub-result-in-Err-Syntax
overflow_sub-result-in-Err-Syntax c =
    (stop-refused circuit_rules program_two circuit_table refl refl (lexemes_of c.args.text.now c.args.tokens.now) (length c.args.tokens.now + 1) (enough c.args.text.now c.args.tokens.now) c.program.new.cursor
    (length c.args.tokens.now) c.left-in-Err-Syntax.result (sym (lexemes-length c.args.text.now c.args.tokens.now)) c.left-in-Err-Syntax.ensures
    (rw c.new-cursor.ensures at (rw c.in-Err-Syntax.field-0-is at c.in-Err-Syntax.ensures))).0

pub returns-in-Err-Syntax : goal.returns-in-Err-Syntax
returns-in-Err-Syntax c =
    let (_, h, r) = stop-refused circuit_rules program_two circuit_table refl refl (lexemes_of c.args.text.now c.args.tokens.now) (length c.args.tokens.now + 1) (enough c.args.text.now c.args.tokens.now) c.program.new.cursor
    (length c.args.tokens.now) c.left-in-Err-Syntax.result (sym (lexemes-length c.args.text.now c.args.tokens.now)) c.left-in-Err-Syntax.ensures
    (rw c.new-cursor.ensures at (rw c.in-Err-Syntax.field-0-is at c.in-Err-Syntax.ensures)) in
    (h, r)

pub unreachable-requires : goal.unreachable-requires
unreachable-requires c =
    never-out circuit_rules program_two circuit_table refl refl (lexemes_of c.args.text.now c.args.tokens.now) (length c.args.tokens.now + 1) (enough c.args.text.now c.args.tokens.now)
    (rw c.new-cursor.ensures at (rw c.in-Err-Room.field-0-is at c.in-Err-Room.ensures))
