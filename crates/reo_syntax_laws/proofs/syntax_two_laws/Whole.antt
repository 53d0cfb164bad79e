-- Canonical texts of version 2 say their programs, with the fewest groupings.
use Rattle.std.proofs.Common.{◌≡◌, ◌∙◌, ℕ, ◌≤◌, true, List, [], inl, inr, sym, subst, arith, codes}
use Rattle.reo_grammar.specs.Tokens.{Lexeme}
use Rattle.reo_grammar.specs.Tokens.Class.{fixed}
use Rattle.reo_grammar.specs.Levels.{count_of, IsAbove, Nowhere}
use Rattle.reo_lexer.specs.declared.token.Token.{Token}
use Rattle.reo_lexer.specs.Lexing.{IsTokens, lexemes_of}
use Rattle.reo_lexer.proofs.Spans.{tokens-real}
use Rattle.reo_lexer.proofs.Reading.{one-list}
use Rattle.reo_trees.specs.loops.Few.{few_in_program}
use Rattle.reo_trees.proofs.loops.Programs.{few-so, nowhere-so}
use Rattle.reo_trees.specs.declared.programs_two.ProgramTwo.{ProgramTwo}
use Rattle.reo_trees.specs.ProgramsTwo.{program_two}
use Rattle.reo_trees.specs.Says.{most_levels}
use Rattle.reo_trees.specs.SaysTwo.{IsLooped, most_loops, IsDeepTwo, SaysTwo}
use Rattle.reo_syntax.specs.Written.{HasNoMoreGroupings}
use Rattle.reo_syntax.proofs.Row.{row-tokens}
use Rattle.reo_syntax.proofs.Thin.{thin-levels, thin-fewer}
use Rattle.reo_syntax_laws.proofs.Again.{Out}
use Rattle.reo_syntax.proofs.Programs.{thin-alike}
use Rattle.reo_syntax.specs.two.Canonical.{canonical_text_two}
use Rattle.reo_syntax_laws.specs.syntax_two_laws.Unlined.{SameTwo}
use Rattle.reo_syntax_laws.specs.syntax_two_laws.Written.{SaysSameTwo, IsWrittenTwo}
use Rattle.reo_syntax_laws.proofs.syntax_two_laws.Programs.{program-out}
use Rattle.reo_syntax_laws.proofs.syntax_two_laws.Few.{few-same}
use Rattle.reo_syntax_laws.proofs.syntax_two_laws.Bare.{lines-aside}

-- Nowhere too deep: nowhere above the levels, and within eight loops.
pub nowhere-deep : (ts : List Lexeme) → Nowhere (IsAbove most_levels) ts → Nowhere (IsLooped most_loops) ts → Nowhere IsDeepTwo ts
nowhere-deep ts h k a u t e (inl d) = h a u t e d
nowhere-deep ts h k a u t e (inr d) = k a u t e d

nowhere-above : (ts : List Lexeme) → Nowhere IsDeepTwo ts → Nowhere (IsAbove most_levels) ts
nowhere-above ts h a u t e d = h a u t e (inl d)

nowhere-looped : (ts : List Lexeme) → Nowhere IsDeepTwo ts → Nowhere (IsLooped most_loops) ts
nowhere-looped ts h a u t e d = h a u t e (inr d)

-- A text whose tokens are no deeper than those of a text that says a program says the program too.
pub out-says : (text : List ℕ) (ts : List Lexeme) (p : ProgramTwo) → Out program_two text ts [] (SameTwo p) → Nowhere (IsAbove most_levels) ts → few_in_program most_loops p ≡ true → SaysSameTwo text p
out-says text ts p o h few =
    let (us, j, a) = row-tokens text o.us o.row in
    let (q, s, e) = o.says (lexemes_of text us) a in
    let above : Nowhere (IsAbove most_levels) (lexemes_of text us)
    = thin-levels most_levels (lexemes_of text us) o.us (thin-alike o.us (lexemes_of text us) a) (thin-levels most_levels o.us ts o.thin h) in
    let looped : Nowhere (IsLooped most_loops) (lexemes_of text us) = nowhere-so most_loops (lexemes_of text us) q (omega arith) s (sym (few-same most_loops p q e) ∙ few) in
    (q, (us, j, s, nowhere-deep (lexemes_of text us) above looped), e)

-- The canonical text of what a text says says the same, lines aside.
said-again : (text : List ℕ) (p : ProgramTwo) → SaysTwo text p → SaysSameTwo (canonical_text_two p) p
said-again text p (ts, i, s, l) =
    out-says (canonical_text_two p) (lexemes_of text ts) p (program-out (lexemes_of text ts) p (tokens-real text ts i) s) (nowhere-above (lexemes_of text ts) l)
    (few-so most_loops (lexemes_of text ts) p (omega arith) s (nowhere-looped (lexemes_of text ts) l))

pub says-program : (p : ProgramTwo) → IsWrittenTwo p → SaysSameTwo (canonical_text_two p) p
says-program p (text, (q, s, e)) =
    let (z, t, i) = said-again text q s in
    (z, subst (λ l. SaysTwo l z) (lines-aside q p (sym e)) t, e ∙ i)

abbrev groupings : List ℕ → List Token → ℕ
groupings text ts = count_of (fixed (codes "(")) (lexemes_of text ts)

pub has-fewest : (p : ProgramTwo) (text : List ℕ) → SaysSameTwo text p → HasNoMoreGroupings (canonical_text_two p) text
has-fewest p text (q, (vs, j, s, l), e) ts us h i =
    let o = program-out (lexemes_of text vs) q (tokens-real text vs j) s in
    let (ws, k, a) = row-tokens (canonical_text_two q) o.us o.row in
    let c : count_of (fixed (codes "(")) o.us ≤ groupings text vs = thin-fewer o.us (lexemes_of text vs) o.thin in
    let d : groupings (canonical_text_two q) ws ≤ count_of (fixed (codes "(")) o.us = thin-fewer (lexemes_of (canonical_text_two q) ws) o.us (thin-alike o.us (lexemes_of (canonical_text_two q) ws) a) in
    let m : IsTokens (canonical_text_two q) ts = subst (λ x. IsTokens x ts) (lines-aside p q e) h in
    let f : groupings (canonical_text_two q) ts ≤ groupings text us =
    subst (λ (x : List Token). groupings (canonical_text_two q) x ≤ groupings text us) (one-list (canonical_text_two q) ws ts k m)
    (subst (λ (x : List Token). groupings (canonical_text_two q) ws ≤ groupings text x) (one-list text vs us j i) (omega arith)) in
    subst (λ x. groupings x ts ≤ groupings text us) (lines-aside q p (sym e)) f
