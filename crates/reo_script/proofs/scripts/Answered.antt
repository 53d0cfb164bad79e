-- Every script text and every event line has an answer.
use Rattle.std.proofs.Common.{◌≡◌, ℕ, ◌+◌, ◌<◌, Bool, true, false, cond, Option, Some, None, List, [], ◌∷◌, ◌++◌, reverse, Result, Ok, Err, ◌⊎◌, inl, inr, refl, sym, ◌∙◌, ap, codes}
use Rattle.std.proofs.lemmas.List.{reverse-append, reverse-reverse}
use Rattle.reo_values.specs.declared.value.Value.{Value}
use Rattle.reo_grammar.specs.Tokens.{Lexeme, matches}
use Rattle.reo_grammar.specs.Tokens.Class.{fixed}
use Rattle.reo_grammar.specs.Grammar.{Says as TokensSay}
use Rattle.reo_grammar.specs.Levels.{Nowhere, count_of}
use Rattle.reo_lexer.specs.declared.token.Token.{Token}
use Rattle.reo_lexer.specs.declared.token.LexFault.{LexFault}
use Rattle.reo_lexer.specs.Lexing.{IsTokens, lexemes_of}
use Rattle.reo_lexer.specs.Faults.{IsFault}
use Rattle.reo_lexer.proofs.Exists.{tokens_or_fault}
use Rattle.reo_lexer.proofs.Reading.{one-list, not-both}
use Rattle.reo_lexer.proofs.Spans.{tokens-real}
use Rattle.reo_net_base.specs.declared.port.Port.{Port}
use Rattle.reo_trees.specs.declared.literals.Literal.{Literal}
use Rattle.reo_trees.specs.Rules.{circuit_rules}
use Rattle.reo_trees.specs.Table.{circuit_table}
use Rattle.reo_trees.specs.Says.{most_levels}
use Rattle.reo_terms.proofs.Only.{said-no-syntax, said-no-deep}
use Rattle.reo_terms.proofs.Decided.{Decided, either-decided, less-decided, above-decided, Answered, answered}
use Rattle.reo_script.specs.declared.scripts.forms.ComponentForm.{ComponentForm}
use Rattle.reo_script.specs.declared.scripts.action.Script.{Script}
use Rattle.reo_script.specs.declared.scripts.fault.ScriptFault.{ScriptFault}
use Rattle.reo_script.specs.declared.scripts.fault.ScriptFault.TheVariants as script_faults
use Rattle.reo_script.specs.declared.scripts.event.Event.{Event}
use Rattle.reo_script.specs.declared.scripts.event.EventForm.{EventForm}
use Rattle.reo_script.specs.declared.scripts.event.EventForm.TheVariants as forms
use Rattle.reo_script.specs.declared.scripts.event.EventFault.{EventFault}
use Rattle.reo_script.specs.declared.scripts.event.EventFault.TheVariants as faults
use Rattle.reo_script.specs.scripts.ScriptForms.{script_rules, script_form}
use Rattle.reo_script.specs.scripts.Table.{script_table}
use Rattle.reo_script.specs.scripts.ScriptRules.{goes_wrong, item_at, port_number}
use Rattle.reo_script.specs.scripts.ScriptAnswers.{IsNested, IsDeep, Says, Answers, answer_for}
use Rattle.reo_script.specs.scripts.Events.{event_form, SaysEvent, event_at, written_at, withdrawn_at, event_for, AnswersEvent}

-- A list is empty or has a last token.
last_of : (ts : List Lexeme) → (ts ≡ []) ⊎ ((a : List Lexeme) × (t : Lexeme) × (ts ≡ a ++ t ∷ []))
last_of ts = by (reverse ts) refl where
  by : (rs : List Lexeme) → reverse ts ≡ rs → (ts ≡ []) ⊎ ((a : List Lexeme) × (t : Lexeme) × (ts ≡ a ++ t ∷ []))
  by [] e = inl (sym (reverse-reverse ts) ∙ ap reverse e)
  by (t ∷ rs) e = inr (reverse rs, t, sym (reverse-reverse ts) ∙ ap reverse e ∙ reverse-append (t ∷ []) rs)

same_last : (a b : List Lexeme) (t s : Lexeme) → a ++ t ∷ [] ≡ b ++ s ∷ [] → t ≡ s
same_last a b t s e =
    let f : t ∷ reverse a ≡ s ∷ reverse b = sym (reverse-append a (t ∷ [])) ∙ ap reverse e ∙ reverse-append b (s ∷ []) in cc

nested_decided : (limit : ℕ) (ts : List Lexeme) → Decided (IsNested limit ts)
nested_decided limit ts = by (last_of ts) (less-decided (limit + count_of (fixed (codes "}")) ts) (count_of (fixed (codes "{")) ts)) where
  begins : (a : List Lexeme) (t : Lexeme) → ts ≡ a ++ t ∷ [] → (b : Bool) → matches (fixed (codes "repeat")) t ≡ b
      → Decided (limit + count_of (fixed (codes "}")) ts < count_of (fixed (codes "{")) ts) → Decided (IsNested limit ts)
  begins a t e true m (inl deep) = inl (a, t, e, m, deep)
  begins a t e true m (inr shallow) = inr (λ n. shallow n.4)
  begins a t e false m less = inr (λ n. let s : t ≡ n.1 = same_last a n.0 t n.1 (sym e ∙ n.2) in absurd (let k = rw s at m in let l = n.3 in cc))

  by : (ts ≡ []) ⊎ ((a : List Lexeme) × (t : Lexeme) × (ts ≡ a ++ t ∷ [])) → Decided (limit + count_of (fixed (codes "}")) ts < count_of (fixed (codes "{")) ts) → Decided (IsNested limit ts)
  by (inl none) less = inr (λ n. no_end n.0 n.1 (sym none ∙ n.2)) where
    no_end : (a : List Lexeme) (t : Lexeme) → [] ≡ a ++ t ∷ [] → ⊥
    no_end [] t e = cc
    no_end (x ∷ a) t e = cc
  by (inr (a, t, e)) less = begins a t e (matches (fixed (codes "repeat")) t) refl less

deep_decided : (ts : List Lexeme) → Decided (IsDeep ts)
deep_decided ts = either-decided (above-decided most_levels ts) (nested_decided 16 ts)

module _ (text : List ℕ) where
  -- What a text is answered whatever the ports.
  said : (r : Result (List ComponentForm) ScriptFault) × Says text r
  said = by (tokens_or_fault text) where
    of_tokens : (ts : List Token) → IsTokens text ts → Answered script_rules script_form IsDeep (lexemes_of text ts) → (r : Result (List ComponentForm) ScriptFault) × Says text r
    of_tokens ts are (inl (cs, (says, none))) = (Ok cs, (ts, are, says, none))
    of_tokens ts are (inr (inl (line, refused))) = (Err (script_faults.Syntax line), (ts, are, refused))
    of_tokens ts are (inr (inr (line, deep))) = (Err (script_faults.TooDeep line), (ts, are, deep))

    by : ((ts : List Token) × IsTokens text ts) ⊎ ((f : LexFault) × IsFault text f) → (r : Result (List ComponentForm) ScriptFault) × Says text r
    by (inl (ts, are)) = of_tokens ts are (answered script_rules script_form IsDeep script_table refl refl deep_decided (lexemes_of text ts) (tokens-real text ts are))
    by (inr (f, is)) = (Err (script_faults.Lex f), is)

  pub script_answered : (ports : List Port) → (answer : Result Script ScriptFault) × Answers text ports answer
  script_answered ports = (answer_for ports said.0, (said.0, said.1, refl))

-- An event that is said is no form at fault, and takes no memory.
abbrev IsCause : Result Event EventFault → Type 0
IsCause (Err faults.Form) = ⊥
IsCause (Err faults.NoMemory) = ⊥
IsCause r = Unit {0}

cause_at : (ports : List Port) (name : List ℕ) (literal : Option Literal) (then : ℕ → Result Event EventFault) → ((p : ℕ) → IsCause (then p)) → (o : Option ℕ) → IsCause (event_at ports name literal then o)
cause_at ports name literal then each None = tt
cause_at ports name literal then each (Some p) = by (goes_wrong ports (record { line = 0; port = name; literal = literal })) where
  by : (b : Bool) → IsCause (cond b (Err faults.WrongWay) (then p))
  by true = tt
  by false = each p

cause_item : (p : ℕ) (o : Option Value) → IsCause (written_at p o)
cause_item p None = tt
cause_item p (Some v) = tt

cause_gone : (o : Option ℕ) → IsCause (withdrawn_at o)
cause_gone None = tt
cause_gone (Some p) = tt

cause : (ports : List Port) (e : EventForm) → IsCause (event_for ports e)
cause ports forms.Nothing = tt
cause ports (forms.Write name literal) =
    cause_at ports name (Some literal) (λ p. written_at p (item_at ports name literal)) (λ p. cause_item p (item_at ports name literal)) (port_number ports name)
cause ports (forms.Take name) = cause_at ports name None _ (λ p. tt) (port_number ports name)
cause ports (forms.Withdraw name) = cause_gone (port_number ports name)
cause ports forms.Round = tt
cause ports forms.End = tt

module _ (line : List ℕ) (ports : List Port) where
  abbrev HasAnswer : Type 0
  HasAnswer = (answer : Result Event EventFault) × AnswersEvent line ports answer

  -- The answer to an event that the line says.
  to_event : (e : EventForm) → SaysEvent line e → (r : Result Event EventFault) → IsCause r → event_for ports e ≡ r → HasAnswer
  to_event e says (Ok v) right is = (Ok v, (e, says, is))
  to_event e says (Err faults.Form) right is = absurd right
  to_event e says (Err faults.NoPort) right is = (Err faults.NoPort, (e, says, is))
  to_event e says (Err faults.WrongWay) right is = (Err faults.WrongWay, (e, says, is))
  to_event e says (Err (faults.ItemOutside p)) right is = (Err (faults.ItemOutside p), (e, says, is))
  to_event e says (Err faults.NoMemory) right is = absurd right

  moved : (P : List Lexeme → Type 0) (ts us : List Token) → IsTokens line ts → IsTokens line us → P (lexemes_of line us) → P (lexemes_of line ts)
  moved P ts us h i p = rw (one-list line ts us h i) p

  to_tokens : (ts : List Token) → IsTokens line ts → Answered circuit_rules event_form IsDeep (lexemes_of line ts) → HasAnswer
  to_tokens ts are (inl (e, (says, none))) = to_event e (ts, are, says, none) (event_for ports e) (cause ports e) refl
  to_tokens ts are (inr (inl (l, refused))) = (
    Err faults.Form,
    (λ e says.
        said-no-syntax circuit_rules event_form IsDeep (lexemes_of line ts) (tokens-real line ts are) e l (moved (λ z. TokensSay circuit_rules event_form z e) ts says.0 are says.1 says.2) refused),
  )
  to_tokens ts are (inr (inr (l, deep))) = (
    Err faults.Form,
    (λ e says.
        said-no-deep circuit_rules event_form IsDeep (lexemes_of line ts) (tokens-real line ts are) l (moved (Nowhere IsDeep) ts says.0 are says.1 says.3) deep),
  )

  by_tokens : ((ts : List Token) × IsTokens line ts) ⊎ ((f : LexFault) × IsFault line f) → HasAnswer
  by_tokens (inl (ts, are)) = to_tokens ts are (answered circuit_rules event_form IsDeep circuit_table refl refl deep_decided (lexemes_of line ts) (tokens-real line ts are))
  by_tokens (inr (f, is)) = (Err faults.Form, (λ e says. not-both line says.0 f says.1 is))

  pub line_answered : HasAnswer
  line_answered = by_tokens (tokens_or_fault line)
