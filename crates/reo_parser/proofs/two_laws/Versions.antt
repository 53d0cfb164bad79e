-- What texts of one version are to the reader of version 1 and to that of both.
use Rattle.std.proofs.Common.{◌≡◌, ◌∙◌, ℕ, suc, true, false, List, [], ◌∷◌, length, Result, Ok, Err, refl, sym, subst, arith, codes}
use Rattle.std.specs.Str.{bytes_eq}
use Rattle.reo_grammar.specs.declared.kind.TokenKind.TheVariants as kinds
use Rattle.reo_grammar.specs.Bytes.{one_of}
use Rattle.reo_grammar.specs.Tokens.{Lexeme}
use Rattle.reo_grammar.specs.Grammar.{Says, Begins, read, reads, starts, line_of}
use Rattle.reo_grammar.specs.Grammar.Outcome.{got}
use Rattle.reo_grammar.specs.Levels.{IsAbove}
use Rattle.reo_grammar.proofs.Exact.{read-said}
use Rattle.reo_lexer.specs.declared.token.Token.{Token}
use Rattle.reo_lexer.specs.Lexing.{IsTokens, lexemes_of}
use Rattle.reo_trees.specs.declared.programs.Program.{Program}
use Rattle.reo_trees.specs.Programs.{declaration_words, declaration_form, program_form}
use Rattle.reo_trees.specs.Rules.{circuit_rules}
use Rattle.reo_trees.specs.Table.{circuit_table}
use Rattle.reo_trees.specs.Says.{most_levels}
use Rattle.reo_trees.proofs.Versions.{no_word}
use Rattle.reo_parser.proofs.Fronts.{nowhere-none}
use Rattle.reo_parser.specs.declared.fault.ParseFault.{ParseFault}
use Rattle.reo_parser.specs.declared.fault.ParseFault.TheVariants as faults
use Rattle.reo_parser.specs.Parsed.{IsSyntax, Answers}
use Rattle.reo_parser.specs.two.ParsedAny.{is_second, IsSyntaxBy, IsTooDeepBy, AnswersAny}
use Rattle.reo_parser.proofs.two.Only.{no-parts}
use Rattle.reo_parser.specs.two_laws.Versions.{IsFirst, as_any}

-- No program of version 1 begins with the name `reo`.
none-second : (t : Lexeme) (u : List Lexeme) (p : Program) → Says circuit_rules program_form (t ∷ u) p → is_second (t ∷ u) ≡ true → ⊥
none-second t u p d m =
    let room : ℕ = suc (length (t ∷ u)) in
    let read_to : read (reads circuit_rules room) program_form (t ∷ u) ≡ got p [] = read-said circuit_table program_form refl refl room (t ∷ u) (omega arith) p d in
    let word : starts declaration_words (t ∷ u) ≡ false = no_word t.kind (bytes_eq t.bytes (codes "reo")) (one_of t.bytes (codes "type" ∷ codes "connector" ∷ [])) m in
    let none : read (reads circuit_rules room) program_form (t ∷ u) ≡ got (record { declarations = [] }) (t ∷ u) = no-parts (λ ds. record { declarations = ds }) declaration_words declaration_form room t u word in
    let same : got (record { declarations = [] }) (t ∷ u) ≡ got p [] = sym none ∙ read_to in
    cc

begins-none : Begins circuit_rules program_form []
begins-none = ([], record { declarations = [] }, tt, (0, ([], (0, (refl, refl)), refl)))

refused-second : (ts : List Lexeme) → is_second ts ≡ true → IsSyntax ts (line_of ts)
refused-second [] h = absurd (cc)
refused-second (t ∷ u) h = ([], t ∷ u, refl, ([], refl, begins-none, λ (c, p, real, says). none-second t c p says h), nowhere-none (IsAbove most_levels), refl)

pub second-refused : (text : List ℕ) (ts : List Token) → IsTokens text ts → is_second (lexemes_of text ts) ≡ true → Answers text (Err (faults.Syntax (line_of (lexemes_of text ts))))
second-refused text ts are h = (ts, are, refused-second (lexemes_of text ts) h)

pub first-meant : (text : List ℕ) (r : Result Program ParseFault) → IsFirst text → Answers text r → AnswersAny text (as_any r)
first-meant text (Ok p) first h = h
first-meant text (Err (faults.Lex f)) first h = h
first-meant text (Err (faults.Syntax line)) first (ts, are, h) = (ts, are, subst (λ b. IsSyntaxBy b (lexemes_of text ts) line) (sym (first ts are)) h)
first-meant text (Err (faults.TooDeep line)) first (ts, are, h) = (ts, are, subst (λ b. IsTooDeepBy b (lexemes_of text ts) line) (sym (first ts are)) h)
first-meant text (Err faults.NoMemory) first h = h
