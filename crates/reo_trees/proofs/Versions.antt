-- No text is of two versions.
use Rattle.std.proofs.Common.{◌≡◌, ◌∙◌, ℕ, suc, Bool, true, false, ◌&&◌, List, [], ◌∷◌, ◌++◌, length, refl, sym, ap, arith, codes}
use Rattle.std.specs.Str.{bytes_eq}
use Rattle.reo_grammar.specs.declared.kind.TokenKind.{TokenKind}
use Rattle.reo_grammar.specs.declared.kind.TokenKind.TheVariants as kinds
use Rattle.reo_grammar.specs.Bytes.{one_of}
use Rattle.reo_grammar.specs.Tokens.{Lexeme, is_name, is_fixed, matches}
use Rattle.reo_grammar.specs.Tokens.Class.{named}
use Rattle.reo_grammar.specs.Grammar.{Says, read, reads, starts}
use Rattle.reo_grammar.specs.Grammar.Outcome.{got}
use Rattle.reo_grammar.proofs.Exact.{one-tree, read-said}
use Rattle.reo_lexer.specs.declared.token.Token.{Token}
use Rattle.reo_lexer.specs.Lexing.{IsTokens, lexemes_of}
use Rattle.reo_lexer.proofs.Reading.{one-list}
use Rattle.reo_trees.specs.declared.programs.Program.{Program}
use Rattle.reo_trees.specs.declared.programs_two.ProgramTwo.{ProgramTwo}
use Rattle.reo_trees.specs.declared.programs_two.AnyProgram.{AnyProgram}
use Rattle.reo_trees.specs.declared.programs_two.AnyProgram.TheVariants.{One, Two}
use Rattle.reo_trees.specs.Programs.{declaration_words, program_form}
use Rattle.reo_trees.specs.ProgramsTwo.{program_two}
use Rattle.reo_trees.specs.Rules.{circuit_rules}
use Rattle.reo_trees.specs.Table.{circuit_table}
use Rattle.reo_trees.specs.Says.{SaysProgram}
use Rattle.reo_trees.specs.SaysTwo.{SaysTwo, SaysAny}

-- Tokens of version 2 begin with the name `reo`.
begins_two : (ts : List Lexeme) (q : ProgramTwo) → Says circuit_rules program_two ts q → (t : Lexeme) × (u : List Lexeme) × (ts ≡ t ∷ u) × (matches (named (codes "reo")) t ≡ true)
begins_two ts q (k, (a, b, x, y, w, (c, d, z, v, s, (t, (e, m), _), _, _), _, _)) = (t, d ++ b, w ∙ ap (λ l. l ++ b) (s ∙ ap (λ l. l ++ d) e), m)

pub no_word : (kind : TokenKind) (x y : Bool) → (is_name kind && x) ≡ true → (is_fixed kind && y) ≡ false
no_word kinds.Name x y h = refl
no_word kinds.Word x y h = absurd (cc)
no_word kinds.Number x y h = absurd (cc)
no_word kinds.Text x y h = absurd (cc)
no_word kinds.Sign x y h = absurd (cc)

-- Those of version 1 do not.
one_is_not_two : (ts : List Lexeme) (p : Program) (q : ProgramTwo) → Says circuit_rules program_form ts p → Says circuit_rules program_two ts q → ⊥
one_is_not_two ts p q one two =
    let (t, u, w, m) = begins_two ts q two in
    let read_to : read (reads circuit_rules (suc (length ts))) program_form ts ≡ got p [] = read-said circuit_table program_form refl refl (suc (length ts)) ts (omega arith) p one in
    let word : starts declaration_words (t ∷ u) ≡ false = no_word t.kind (bytes_eq t.bytes (codes "reo")) (one_of t.bytes (codes "type" ∷ codes "connector" ∷ [])) m in
    let none : read (reads circuit_rules (suc (length ts))) program_form (t ∷ u) ≡ got (record { declarations = [] }) (t ∷ u) = rw word refl in
    let same : got (record { declarations = [] }) (t ∷ u) ≡ got p [] = sym none ∙ ap (read (reads circuit_rules (suc (length ts))) program_form) (sym w) ∙ read_to in
    cc

module _ (text : List ℕ) where
  moved : (P : List Lexeme → Type 0) (ts us : List Token) → IsTokens text ts → IsTokens text us → P (lexemes_of text us) → P (lexemes_of text ts)
  moved P ts us h i p = rw (one-list text ts us h i) p

  pub one_program_two : (p q : ProgramTwo) → SaysTwo text p → SaysTwo text q → p ≡ q
  one_program_two p q (ts, h, d, _) (us, i, e, _) =
      one-tree circuit_table program_two refl refl (lexemes_of text ts) p q d (moved (λ l. Says circuit_rules program_two l q) ts us h i e)

  pub one_program_one : (p q : Program) → SaysProgram text p → SaysProgram text q → p ≡ q
  one_program_one p q (ts, h, d, _) (us, i, e, _) =
      one-tree circuit_table program_form refl refl (lexemes_of text ts) p q d (moved (λ l. Says circuit_rules program_form l q) ts us h i e)

  apart : (p : Program) (q : ProgramTwo) → SaysProgram text p → SaysTwo text q → ⊥
  apart p q (ts, h, d, _) (us, i, e, _) = one_is_not_two (lexemes_of text ts) p q d (moved (λ l. Says circuit_rules program_two l q) ts us h i e)

  pub one_of_any : (p q : AnyProgram) → SaysAny text p → SaysAny text q → p ≡ q
  one_of_any (One p) (One q) d e = ap (λ r. One r) (one_program_one p q d e)
  one_of_any (One p) (Two q) d e = absurd (apart p q d e)
  one_of_any (Two p) (One q) d e = absurd (apart q p e d)
  one_of_any (Two p) (Two q) d e = ap (λ r. Two r) (one_program_two p q d e)
