-- A text has one answer.
use Rattle.std.proofs.Common.{inl, inr, ◌≡◌, ◌∙◌, ℕ, List, None, Result, Ok, Err, refl, sym, ap, []}
use Rattle.reo_grammar.specs.Tokens.{Lexeme}
use Rattle.reo_grammar.specs.Grammar.{Says as TokensSay}
use Rattle.reo_grammar.specs.Levels.{Nowhere}
use Rattle.reo_grammar.proofs.Exact.{one-tree}
use Rattle.reo_lexer.specs.declared.token.Token.{Token}
use Rattle.reo_lexer.specs.Lexing.{IsTokens, lexemes_of}
use Rattle.reo_lexer.proofs.Reading.{one-list, one-fault, not-both}
use Rattle.reo_lexer.proofs.Spans.{tokens-real}
use Rattle.reo_net_base.specs.declared.port.Port.{Port}
use Rattle.reo_rules.specs.Lists.{first_of}
use Rattle.reo_terms.proofs.Only.{syntax-line, deep-line, not-both-faults, said-no-syntax, said-no-deep}
use Rattle.reo_script.specs.declared.scripts.fault.ScriptFault.{ScriptFault}
use Rattle.reo_script.specs.declared.scripts.fault.ScriptFault.TheVariants as faults
use Rattle.reo_script.specs.declared.scripts.forms.ComponentForm.{ComponentForm}
use Rattle.reo_script.specs.declared.scripts.action.Script.{Script}
use Rattle.reo_script.specs.scripts.ScriptForms.{script_rules, script_form}
use Rattle.reo_script.specs.scripts.Table.{script_table}
use Rattle.reo_script.specs.scripts.ScriptRules.{breaks}
use Rattle.reo_script.specs.scripts.ScriptAnswers.{IsDeep, IsSyntax, IsTooDeep, Says, IsSaid, Answers, IsRead, IsThis, answer_by, answer_for}
use Rattle.reo_script.specs.Places.{IsFirstBreak}

module _ (text : List ℕ) where
  -- A fact on one list of tokens of the text is one on the other.
  moved : (P : List Lexeme → Type 0) (ts us : List Token) → IsTokens text ts → IsTokens text us → P (lexemes_of text us) → P (lexemes_of text ts)
  moved P ts us h i p = rw (one-list text ts us h i) p

  pub same : (r s : Result (List ComponentForm) ScriptFault) → Says text r → Says text s → r ≡ s
  same (Ok p) (Ok q) (ts, h, d, n) (us, i, e, m) =
      ap Ok (one-tree script_table script_form refl refl (lexemes_of text ts) p q d (moved (λ l. TokensSay script_rules script_form l q) ts us h i e))
  same (Ok p) (Err (faults.Lex f)) (ts, h, _, _) i = absurd (not-both text ts f h i)
  same (Ok p) (Err (faults.Syntax l)) (ts, h, d, n) (us, i, e) = absurd (said-no-syntax script_rules script_form IsDeep (lexemes_of text ts) (tokens-real text ts h) p l d (moved (λ z. IsSyntax z l) ts us h i e))
  same (Ok p) (Err (faults.TooDeep l)) (ts, h, d, n) (us, i, e) = absurd (said-no-deep script_rules script_form IsDeep (lexemes_of text ts) (tokens-real text ts h) l n (moved (λ z. IsTooDeep z l) ts us h i e))
  same (Err (faults.Lex f)) (Ok q) h (ts, i, _, _) = absurd (not-both text ts f i h)
  same (Err (faults.Lex f)) (Err (faults.Lex g)) h i = ap (λ z. Err (faults.Lex z)) (one-fault text f g h i)
  same (Err (faults.Lex f)) (Err (faults.Syntax l)) h (ts, i, _) = absurd (not-both text ts f i h)
  same (Err (faults.Lex f)) (Err (faults.TooDeep l)) h (ts, i, _) = absurd (not-both text ts f i h)
  same (Err (faults.Syntax l)) (Ok q) (ts, h, d) (us, i, e, m) =
      absurd (said-no-syntax script_rules script_form IsDeep (lexemes_of text ts) (tokens-real text ts h) q l (moved (λ z. TokensSay script_rules script_form z q) ts us h i e) d)
  same (Err (faults.Syntax l)) (Err (faults.Lex g)) (ts, h, _) i = absurd (not-both text ts g h i)
  same (Err (faults.Syntax l)) (Err (faults.Syntax m)) (ts, h, d) (us, i, e) =
      ap (λ z. Err (faults.Syntax z)) (syntax-line script_rules script_form IsDeep (lexemes_of text ts) (tokens-real text ts h) l m d (moved (λ z. IsSyntax z m) ts us h i e))
  same (Err (faults.Syntax l)) (Err (faults.TooDeep m)) (ts, h, d) (us, i, e) =
      absurd (not-both-faults script_rules script_form IsDeep (lexemes_of text ts) (tokens-real text ts h) l m d (moved (λ z. IsTooDeep z m) ts us h i e))
  same (Err (faults.TooDeep l)) (Ok q) (ts, h, d) (us, i, e, m) =
      absurd (said-no-deep script_rules script_form IsDeep (lexemes_of text ts) (tokens-real text ts h) l (moved (Nowhere (IsDeep)) ts us h i m) d)
  same (Err (faults.TooDeep l)) (Err (faults.Lex g)) (ts, h, _) i = absurd (not-both text ts g h i)
  same (Err (faults.TooDeep l)) (Err (faults.Syntax m)) (ts, h, d) (us, i, e) =
      absurd (not-both-faults script_rules script_form IsDeep (lexemes_of text ts) (tokens-real text ts h) m l (moved (λ z. IsSyntax z m) ts us h i e) d)
  same (Err (faults.TooDeep l)) (Err (faults.TooDeep m)) (ts, h, d) (us, i, e) =
      ap (λ z. Err (faults.TooDeep z)) (deep-line script_rules script_form IsDeep (lexemes_of text ts) (tokens-real text ts h) l m d (moved (λ z. IsTooDeep z m) ts us h i e))
  same (Ok p) (Err (faults.NoPort m k)) h i = elim i [ ]
  same (Ok p) (Err (faults.WrongWay m k)) h i = elim i [ ]
  same (Ok p) (Err (faults.ItemOutside m)) h i = elim i [ ]
  same (Ok p) (Err (faults.Shared m k)) h i = elim i [ ]
  same (Ok p) (Err faults.NoMemory) h i = elim i [ ]
  same (Err (faults.Lex f)) (Err (faults.NoPort m k)) h i = elim i [ ]
  same (Err (faults.Lex f)) (Err (faults.WrongWay m k)) h i = elim i [ ]
  same (Err (faults.Lex f)) (Err (faults.ItemOutside m)) h i = elim i [ ]
  same (Err (faults.Lex f)) (Err (faults.Shared m k)) h i = elim i [ ]
  same (Err (faults.Lex f)) (Err faults.NoMemory) h i = elim i [ ]
  same (Err (faults.Syntax l)) (Err (faults.NoPort m k)) h i = elim i [ ]
  same (Err (faults.Syntax l)) (Err (faults.WrongWay m k)) h i = elim i [ ]
  same (Err (faults.Syntax l)) (Err (faults.ItemOutside m)) h i = elim i [ ]
  same (Err (faults.Syntax l)) (Err (faults.Shared m k)) h i = elim i [ ]
  same (Err (faults.Syntax l)) (Err faults.NoMemory) h i = elim i [ ]
  same (Err (faults.TooDeep l)) (Err (faults.NoPort m k)) h i = elim i [ ]
  same (Err (faults.TooDeep l)) (Err (faults.WrongWay m k)) h i = elim i [ ]
  same (Err (faults.TooDeep l)) (Err (faults.ItemOutside m)) h i = elim i [ ]
  same (Err (faults.TooDeep l)) (Err (faults.Shared m k)) h i = elim i [ ]
  same (Err (faults.TooDeep l)) (Err faults.NoMemory) h i = elim i [ ]
  same (Err (faults.NoPort l n)) s h i = elim h [ ]
  same (Err (faults.WrongWay l n)) s h i = elim h [ ]
  same (Err (faults.ItemOutside l)) s h i = elim h [ ]
  same (Err (faults.Shared l n)) s h i = elim h [ ]
  same (Err faults.NoMemory) s h i = elim h [ ]

-- An answer is one that is read.
pub read_of : (text : List ℕ) (ports : List Port) (r : Result Script ScriptFault) → Answers text ports r → IsRead text ports r
read_of text ports (Ok s) h = h
read_of text ports (Err (faults.Lex f)) h = h
read_of text ports (Err (faults.Syntax l)) h = h
read_of text ports (Err (faults.TooDeep l)) h = h
read_of text ports (Err (faults.NoPort l n)) h = h
read_of text ports (Err (faults.WrongWay l n)) h = h
read_of text ports (Err (faults.ItemOutside l)) h = h
read_of text ports (Err (faults.Shared l n)) h = h
read_of text ports (Err faults.NoMemory) h = tt

-- Components without a break, with one, and a text that says none.
pub read_said : (text : List ℕ) (ports : List Port) (cs : List ComponentForm) (s : Script) → Says text (Ok cs) → breaks ports cs ≡ [] → answer_by ports cs None ≡ Ok s → IsRead text ports (Ok s)
read_said text ports cs s h none is = (Ok cs, h, ap (λ bs. answer_by ports cs (first_of bs)) none ∙ is)

pub read_broken : (text : List ℕ) (ports : List Port) (cs : List ComponentForm) (e : ScriptFault) → Says text (Ok cs) → IsFirstBreak (breaks ports cs) e → IsRead text ports (Err e)
read_broken text ports cs e h (inl memory) = rw memory tt
read_broken text ports cs e h (inr is) = read_of text ports (Err e) (Ok cs, h, ap (answer_by ports cs) is)

pub read_refused : (text : List ℕ) (ports : List Port) (e : ScriptFault) → IsSaid text (Err e) → IsRead text ports (Err e)
read_refused text ports (faults.Lex f) h = (Err (faults.Lex f), h, refl)
read_refused text ports (faults.Syntax l) h = (Err (faults.Syntax l), h, refl)
read_refused text ports (faults.TooDeep l) h = (Err (faults.TooDeep l), h, refl)
read_refused text ports (faults.NoPort l n) h = elim h [ ]
read_refused text ports (faults.WrongWay l n) h = elim h [ ]
read_refused text ports (faults.ItemOutside l) h = elim h [ ]
read_refused text ports (faults.Shared l n) h = elim h [ ]
read_refused text ports faults.NoMemory h = tt

-- A text has one answer for ports.
one_script_answer : (text : List ℕ) (ports : List Port) (r s : Result Script ScriptFault) → Answers text ports r → Answers text ports s → r ≡ s
one_script_answer text ports r s (x, h, e) (y, i, f) = sym e ∙ (ap (answer_for ports) (same text x y h i) ∙ f)

pub only : (text : List ℕ) (ports : List Port) (r s : Result Script ScriptFault) → IsRead text ports r → Answers text ports s → IsThis s r
only text ports (Ok a) s h i = one_script_answer text ports (Ok a) s h i
only text ports (Err (faults.Lex f)) s h i = one_script_answer text ports (Err (faults.Lex f)) s h i
only text ports (Err (faults.Syntax l)) s h i = one_script_answer text ports (Err (faults.Syntax l)) s h i
only text ports (Err (faults.TooDeep l)) s h i = one_script_answer text ports (Err (faults.TooDeep l)) s h i
only text ports (Err (faults.NoPort l n)) s h i = one_script_answer text ports (Err (faults.NoPort l n)) s h i
only text ports (Err (faults.WrongWay l n)) s h i = one_script_answer text ports (Err (faults.WrongWay l n)) s h i
only text ports (Err (faults.ItemOutside l)) s h i = one_script_answer text ports (Err (faults.ItemOutside l)) s h i
only text ports (Err (faults.Shared l n)) s h i = one_script_answer text ports (Err (faults.Shared l n)) s h i
only text ports (Err faults.NoMemory) s h i = tt
