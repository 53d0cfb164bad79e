-- A text has one answer.
use Rattle.std.proofs.Common.{◌≡◌, ◌∙◌, ◌⊎◌, inl, inr, ℕ, suc, Bool, true, false, List, [], ◌∷◌, length, Result, Ok, Err, refl, sym, ap, subst, arith, codes}
use Rattle.std.specs.Str.{bytes_eq}
use Rattle.reo_grammar.specs.declared.kind.TokenKind.TheVariants as kinds
use Rattle.reo_grammar.specs.Bytes.{one_of}
use Rattle.reo_grammar.specs.Tokens.{Lexeme, AreReal}
use Rattle.reo_grammar.specs.Tokens.{Class}
use Rattle.reo_grammar.specs.Grammar.{Says, read, reads, starts}
use Rattle.reo_grammar.specs.Grammar.Outcome.{got}
use Rattle.reo_grammar.specs.Grammar.Grammar.{nothing, made, chain}
use Rattle.reo_grammar.specs.Levels.{IsAbove, Nowhere}
use Rattle.reo_grammar.specs.Sight.{is_sighted}
use Rattle.reo_grammar.specs.Conditions.{is_productive}
use Rattle.reo_grammar.proofs.Exact.{one-tree, read-said}
use Rattle.reo_lexer.specs.declared.token.Token.{Token}
use Rattle.reo_lexer.specs.declared.token.LexFault.{LexFault}
use Rattle.reo_lexer.specs.Faults.{IsFault}
use Rattle.reo_lexer.specs.Lexing.{IsTokens, lexemes_of}
use Rattle.reo_lexer.proofs.Reading.{one-list, one-fault, not-both}
use Rattle.reo_lexer.proofs.Spans.{tokens-real}
use Rattle.reo_trees.specs.declared.programs.Program.{Program}
use Rattle.reo_trees.specs.declared.programs_two.ProgramTwo.{ProgramTwo}
use Rattle.reo_trees.specs.declared.programs_two.AnyProgram.{AnyProgram}
use Rattle.reo_trees.specs.declared.programs_two.AnyProgram.TheVariants.{One, Two}
use Rattle.reo_trees.specs.Forms.{FormOf, listed}
use Rattle.reo_trees.specs.Programs.{declaration_words, declaration_form, program_form}
use Rattle.reo_trees.specs.ProgramsTwo.{program_two}
use Rattle.reo_trees.specs.Rules.{circuit_rules}
use Rattle.reo_trees.specs.Table.{circuit_table}
use Rattle.reo_trees.specs.Says.{most_levels}
use Rattle.reo_trees.specs.SaysTwo.{IsDeepTwo}
use Rattle.reo_trees.proofs.Versions.{no_word}
use Rattle.reo_terms.specs.Refused.{IsRefusedAt, IsDeepAt}
use Rattle.reo_terms.proofs.Only.{syntax-line, deep-line, not-both-faults, said-no-syntax, said-no-deep}
use Rattle.reo_parser.specs.declared.fault.ParseFault.{ParseFault}
use Rattle.reo_parser.specs.declared.fault.ParseFault.TheVariants as faults
use Rattle.reo_parser.specs.two.ParsedAny.{is_second, IsSyntaxBy, IsTooDeepBy, AnswersAny, IsParsedAny, IsThisAny}

abbrev Answer : Type 0
Answer = Result AnyProgram ParseFault

module _ {A : Type 0} (form : FormOf A) (Deep : List Lexeme → Type 0) (whole : A → AnyProgram) where
  -- What tokens are answered by a grammar.
  abbrev Tells : List Lexeme → Answer → Type 0
  Tells ts r =
      ((p : A) × (r ≡ Ok (whole p)) × Says circuit_rules form ts p × Nowhere Deep ts)
      ⊎ (((line : ℕ) × (r ≡ Err (faults.Syntax line)) × IsRefusedAt circuit_rules form Deep ts line) ⊎ ((line : ℕ) × (r ≡ Err (faults.TooDeep line)) × IsDeepAt circuit_rules form Deep ts line))

  module _ (productive : is_productive form ≡ true) (sighted : is_sighted (circuit_table.first) (circuit_table.more) form ≡ true) (ts : List Lexeme) (real : AreReal ts) where
    one-told : (r s : Answer) → Tells ts r → Tells ts s → r ≡ s
    one-told r s (inl (p, e, d, n)) (inl (q, f, g, m)) = e ∙ ap (λ x. Ok (whole x)) (one-tree circuit_table form productive sighted ts p q d g) ∙ sym f
    one-told r s (inl (p, e, d, n)) (inr (inl (l, f, g))) = absurd (said-no-syntax circuit_rules form Deep ts real p l d g)
    one-told r s (inl (p, e, d, n)) (inr (inr (l, f, g))) = absurd (said-no-deep circuit_rules form Deep ts real l n g)
    one-told r s (inr (inl (k, e, d))) (inl (q, f, g, m)) = absurd (said-no-syntax circuit_rules form Deep ts real q k g d)
    one-told r s (inr (inl (k, e, d))) (inr (inl (l, f, g))) = e ∙ ap (λ x. Err (faults.Syntax x)) (syntax-line circuit_rules form Deep ts real k l d g) ∙ sym f
    one-told r s (inr (inl (k, e, d))) (inr (inr (l, f, g))) = absurd (not-both-faults circuit_rules form Deep ts real k l d g)
    one-told r s (inr (inr (k, e, d))) (inl (q, f, g, m)) = absurd (said-no-deep circuit_rules form Deep ts real k m d)
    one-told r s (inr (inr (k, e, d))) (inr (inl (l, f, g))) = absurd (not-both-faults circuit_rules form Deep ts real l k g d)
    one-told r s (inr (inr (k, e, d))) (inr (inr (l, f, g))) = e ∙ ap (λ x. Err (faults.TooDeep x)) (deep-line circuit_rules form Deep ts real k l d g) ∙ sym f

-- By the grammar of a version.
abbrev TellsBy : Bool → List Lexeme → Answer → Type 0
TellsBy true ts r = Tells program_two IsDeepTwo (λ p. Two p) ts r
TellsBy false ts r = Tells program_form (IsAbove most_levels) (λ p. One p) ts r

one-by : (second : Bool) (ts : List Lexeme) → AreReal ts → (r s : Answer) → TellsBy second ts r → TellsBy second ts s → r ≡ s
one-by true ts real r s h i = one-told program_two IsDeepTwo (λ p. Two p) refl refl ts real r s h i
one-by false ts real r s h i = one-told program_form (IsAbove most_levels) (λ p. One p) refl refl ts real r s h i

-- Tokens that say a program of version 2 begin with the name `reo`, and those of one of version 1 do not.
second-of : (ts : List Lexeme) (q : ProgramTwo) → Says circuit_rules program_two ts q → is_second ts ≡ true
second-of ts q (k, (a, b, x, y, w, (c, d, z, v, s, (t, (e, m), _), _, _), _, _)) = rw (w, s, e) m

-- A list of parts has none where none begins.
pub no-parts : {B C : Type 0} (g : List B → C) (c : Class) (h : FormOf B) (room : ℕ) (t : Lexeme) (u : List Lexeme)
    → starts c (t ∷ u) ≡ false → read (reads circuit_rules room) (made g (chain listed c (nothing []) h)) (t ∷ u) ≡ got (g []) (t ∷ u)
no-parts g c h room t u e = rw e refl

none-second : (ts : List Lexeme) (p : Program) → Says circuit_rules program_form ts p → is_second ts ≡ true → ⊥
none-second [] p d h = cc
none-second (t ∷ u) p d m =
    let read_to : read (reads circuit_rules (suc (length (t ∷ u)))) program_form (t ∷ u) ≡ got p [] = read-said circuit_table program_form refl refl (suc (length (t ∷ u))) (t ∷ u) (omega arith) p d in
    let word : starts declaration_words (t ∷ u) ≡ false = no_word t.kind (bytes_eq t.bytes (codes "reo")) (one_of t.bytes (codes "type" ∷ codes "connector" ∷ [])) m in
    let none : read (reads circuit_rules (suc (length (t ∷ u)))) program_form (t ∷ u) ≡ got (record { declarations = [] }) (t ∷ u) = no-parts (λ ds. record { declarations = ds }) declaration_words declaration_form (suc (length (t ∷ u))) t u word in
    let same : got (record { declarations = [] }) (t ∷ u) ≡ got p [] = sym none ∙ read_to in
    cc

first-of : (ts : List Lexeme) (p : Program) → Says circuit_rules program_form ts p → is_second ts ≡ false
first-of ts p d = by (is_second ts) refl
  where
    by : (b : Bool) → is_second ts ≡ b → is_second ts ≡ false
    by true e = absurd (none-second ts p d e)
    by false e = e

-- A text's answer, by its tokens or their fault.
abbrev Told : List ℕ → Answer → Type 0
Told text r =
    ((f : LexFault) × (r ≡ Err (faults.Lex f)) × IsFault text f)
    ⊎ ((ts : List Token) × IsTokens text ts × TellsBy (is_second (lexemes_of text ts)) (lexemes_of text ts) r)

syntax-told : (second : Bool) (ts : List Lexeme) (line : ℕ) → IsSyntaxBy second ts line → TellsBy second ts (Err (faults.Syntax line))
syntax-told true ts line h = inr (inl (line, refl, h))
syntax-told false ts line h = inr (inl (line, refl, h))

deep-told : (second : Bool) (ts : List Lexeme) (line : ℕ) → IsTooDeepBy second ts line → TellsBy second ts (Err (faults.TooDeep line))
deep-told true ts line h = inr (inr (line, refl, h))
deep-told false ts line h = inr (inr (line, refl, h))

told : (text : List ℕ) (r : Answer) → AnswersAny text r → Told text r
told text (Ok (One p)) (ts, h, d, n) = inr (ts, h, subst (λ b. TellsBy b (lexemes_of text ts) (Ok (One p))) (sym (first-of (lexemes_of text ts) p d)) (inl (p, refl, d, n)))
told text (Ok (Two p)) (ts, h, d, n) = inr (ts, h, subst (λ b. TellsBy b (lexemes_of text ts) (Ok (Two p))) (sym (second-of (lexemes_of text ts) p d)) (inl (p, refl, d, n)))
told text (Err (faults.Lex f)) h = inl (f, refl, h)
told text (Err (faults.Syntax line)) (ts, h, d) = inr (ts, h, syntax-told (is_second (lexemes_of text ts)) (lexemes_of text ts) line d)
told text (Err (faults.TooDeep line)) (ts, h, d) = inr (ts, h, deep-told (is_second (lexemes_of text ts)) (lexemes_of text ts) line d)
told text (Err faults.NoMemory) h = absurd h

one-answer : (text : List ℕ) (r s : Answer) → Told text r → Told text s → r ≡ s
one-answer text r s (inl (f, e, h)) (inl (g, d, i)) = e ∙ ap (λ z. Err (faults.Lex z)) (one-fault text f g h i) ∙ sym d
one-answer text r s (inl (f, e, h)) (inr (us, i, _)) = absurd (not-both text us f i h)
one-answer text r s (inr (ts, h, _)) (inl (g, d, i)) = absurd (not-both text ts g h i)
one-answer text r s (inr (ts, h, d)) (inr (us, i, e)) =
    one-by (is_second (lexemes_of text ts)) (lexemes_of text ts) (tokens-real text ts h) r s d
    (subst (λ l. TellsBy (is_second (lexemes_of text l)) (lexemes_of text l) s) (one-list text us ts i h) e)

pub same : (text : List ℕ) (r s : Answer) → AnswersAny text r → AnswersAny text s → r ≡ s
same text r s h i = one-answer text r s (told text r h) (told text s i)

pub only : (text : List ℕ) (r s : Answer) → IsParsedAny text r → AnswersAny text s → IsThisAny s r
only text (Ok p) s h i = same text (Ok p) s h i
only text (Err (faults.Lex f)) s h i = same text (Err (faults.Lex f)) s h i
only text (Err (faults.Syntax l)) s h i = same text (Err (faults.Syntax l)) s h i
only text (Err (faults.TooDeep l)) s h i = same text (Err (faults.TooDeep l)) s h i
only text (Err faults.NoMemory) s h i = tt
