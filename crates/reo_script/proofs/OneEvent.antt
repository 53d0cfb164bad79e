-- A line has one answer.
use Rattle.std.proofs.Common.{◌≡◌, ◌∙◌, ℕ, zero, suc, ◌+◌, ◌<◌, Bool, true, false, cond, Option, Some, None, List, [], ◌∷◌, ◌++◌, length, take, Result, Ok, Err, refl, sym, ap, subst, arith}
use Rattle.reo_values.specs.declared.value.Value.{Value}
use Rattle.reo_grammar.specs.Tokens.{Lexeme}
use Rattle.reo_grammar.specs.Grammar.{Says as TokensSay}
use Rattle.reo_grammar.specs.Levels.{Nowhere}
use Rattle.reo_grammar.proofs.Exact.{one-tree}
use Rattle.reo_lexer.specs.declared.token.Token.{Token}
use Rattle.reo_lexer.specs.Lexing.{IsTokens, lexemes_of}
use Rattle.reo_lexer.proofs.Reading.{one-list}
use Rattle.reo_net_base.specs.declared.port.Port.{Port}
use Rattle.reo_trees.specs.declared.literals.Literal.{Literal}
use Rattle.reo_trees.specs.Rules.{circuit_rules}
use Rattle.reo_trees.specs.Table.{circuit_table}
use Rattle.reo_terms.specs.Refused.{IsFirstDeep}
use Rattle.reo_script.specs.declared.scripts.event.Event.{Event}
use Rattle.reo_script.specs.declared.scripts.event.EventForm.{EventForm}
use Rattle.reo_script.specs.declared.scripts.event.EventForm.TheVariants as forms
use Rattle.reo_script.specs.declared.scripts.event.EventFault.{EventFault}
use Rattle.reo_script.specs.declared.scripts.event.EventFault.TheVariants as faults
use Rattle.reo_script.specs.scripts.ScriptAnswers.{IsDeep}
use Rattle.reo_script.specs.scripts.ScriptRules.{goes_wrong, item_at, port_number}
use Rattle.reo_script.specs.scripts.Events.{event_form, SaysEvent, event_at, written_at, withdrawn_at, event_for, AnswersEvent, IsReadEvent, IsThisEvent}

-- A list up to a place, and with what stands there.
cut : (ls : List Lexeme) (n : ℕ) → n < length ls → (t : Lexeme) × (u : List Lexeme) × (ls ≡ take n ls ++ (t ∷ u)) × (take (suc n) ls ≡ take n ls ++ (t ∷ []))
cut [] n h = absurd (omega arith)
cut (x ∷ xs) zero h = (x, xs, refl, refl)
cut (x ∷ xs) (suc n) h =
    let (t, u, e, f) = cut xs n (omega arith) in
    (t, u, ap (λ l. x ∷ l) e, ap (λ l. x ∷ l) f)

module _ (text : List ℕ) where
  moved : (P : List Lexeme → Type 0) (ts us : List Token) → IsTokens text ts → IsTokens text us → P (lexemes_of text us) → P (lexemes_of text ts)
  moved P ts us h i p = rw (one-list text ts us h i) p

  -- A line with a token that is too deep says no event, nor does one whose tokens say none.
  pub deep-silent : (ts : List Token) (place : ℕ) → IsTokens text ts → IsFirstDeep IsDeep (lexemes_of text ts) place → (e : EventForm) → SaysEvent text e → ⊥
  deep-silent ts place h (w, d, n) e (us, i, says, none) =
      let (t, u, all, front) = cut (lexemes_of text ts) place w in
      let next : place + 1 ≡ suc place = omega arith in
      moved (Nowhere IsDeep) ts us h i none (take place (lexemes_of text ts)) u t all
      (subst IsDeep (ap (λ k. take k (lexemes_of text ts)) next ∙ front) d)

  pub none-silent : (ts : List Token) → IsTokens text ts → ((e : EventForm) → TokensSay circuit_rules event_form (lexemes_of text ts) e → ⊥) → (e : EventForm) → SaysEvent text e → ⊥
  none-silent ts h none e (us, i, says, _) = none e (moved (λ l. TokensSay circuit_rules event_form l e) ts us h i says)

  same-event : (e f : EventForm) → SaysEvent text e → SaysEvent text f → e ≡ f
  same-event e f (ts, h, d, _) (us, i, g, _) =
      one-tree circuit_table event_form refl refl (lexemes_of text ts) e f d (moved (λ l. TokensSay circuit_rules event_form l f) ts us h i g)

-- No event that is said is refused for its form.
no-form-cond : (b : Bool) (r : Result Event EventFault) → (Err faults.Form ≡ r → ⊥) → Err faults.Form ≡ cond b (Err faults.WrongWay) r → ⊥
no-form-cond true r n h = cc
no-form-cond false r n h = n h

no-form-at : (ports : List Port) (name : List ℕ) (literal : Option Literal) (then : ℕ → Result Event EventFault) → ((p : ℕ) → Err faults.Form ≡ then p → ⊥) → (o : Option ℕ) → Err faults.Form ≡ event_at ports name literal then o → ⊥
no-form-at ports name literal then n None h = cc
no-form-at ports name literal then n (Some p) h = no-form-cond (goes_wrong ports (record { line = 0; port = name; literal = literal })) (then p) (n p) h

no-form-item : (p : ℕ) (o : Option Value) → Err faults.Form ≡ written_at p o → ⊥
no-form-item p None h = cc
no-form-item p (Some v) h = cc

no-form-gone : (o : Option ℕ) → Err faults.Form ≡ withdrawn_at o → ⊥
no-form-gone None h = cc
no-form-gone (Some p) h = cc

no-form-take : (p : ℕ) (v : Event) → Err faults.Form ≡ Ok v → ⊥
no-form-take p v h = cc

no-form : (ports : List Port) (e : EventForm) → Err faults.Form ≡ event_for ports e → ⊥
no-form ports forms.Nothing h = cc
no-form ports (forms.Write name literal) h =
    no-form-at ports name (Some literal) (λ p. written_at p (item_at ports name literal)) (λ p. no-form-item p (item_at ports name literal)) (port_number ports name) h
no-form ports (forms.Take name) h = no-form-at ports name None _ (λ p. no-form-take p _) (port_number ports name) h
no-form ports (forms.Withdraw name) h = no-form-gone (port_number ports name) h
no-form ports forms.Round h = cc
no-form ports forms.End h = cc

-- The answer to an event that is said.
pub read-said : (text : List ℕ) (ports : List Port) (e : EventForm) (r : Result Event EventFault) → SaysEvent text e → IsThisEvent (event_for ports e) r → IsReadEvent text ports r
read-said text ports e (Ok v) says is = (e, says, sym is)
read-said text ports e (Err faults.Form) says is = absurd (no-form ports e is)
read-said text ports e (Err faults.NoPort) says is = (e, says, sym is)
read-said text ports e (Err faults.WrongWay) says is = (e, says, sym is)
read-said text ports e (Err (faults.ItemOutside p)) says is = (e, says, sym is)
read-said text ports e (Err faults.NoMemory) says is = tt

-- An event that is said, and the answer to it.
abbrev Given : List ℕ → List Port → Result Event EventFault → Type 0
Given text ports r = (e : EventForm) × SaysEvent text e × (event_for ports e ≡ r)

one : (text : List ℕ) (ports : List Port) (r s : Result Event EventFault) → Given text ports r → Given text ports s → r ≡ s
one text ports r s (e, h, is) (f, i, js) = sym is ∙ (ap (event_for ports) (same-event text e f h i) ∙ js)

-- What was answered is the one answer.
given : (text : List ℕ) (ports : List Port) (r s : Result Event EventFault) → Given text ports r → AnswersEvent text ports s → r ≡ s
given text ports r (Ok v) h i = one text ports r (Ok v) h i
given text ports r (Err faults.Form) (e, says, is) i = absurd (i e says)
given text ports r (Err faults.NoPort) h i = one text ports r (Err faults.NoPort) h i
given text ports r (Err faults.WrongWay) h i = one text ports r (Err faults.WrongWay) h i
given text ports r (Err (faults.ItemOutside p)) h i = one text ports r (Err (faults.ItemOutside p)) h i
given text ports r (Err faults.NoMemory) h i = elim i [ ]

formless : (text : List ℕ) (ports : List Port) (s : Result Event EventFault) → ((e : EventForm) → SaysEvent text e → ⊥) → AnswersEvent text ports s → Err faults.Form ≡ s
formless text ports (Ok v) h (e, says, is) = absurd (h e says)
formless text ports (Err faults.Form) h i = refl
formless text ports (Err faults.NoPort) h (e, says, is) = absurd (h e says)
formless text ports (Err faults.WrongWay) h (e, says, is) = absurd (h e says)
formless text ports (Err (faults.ItemOutside p)) h (e, says, is) = absurd (h e says)
formless text ports (Err faults.NoMemory) h i = elim i [ ]

pub only-event : (text : List ℕ) (ports : List Port) (r s : Result Event EventFault) → IsReadEvent text ports r → AnswersEvent text ports s → IsThisEvent s r
only-event text ports (Ok v) s h i = given text ports (Ok v) s h i
only-event text ports (Err faults.Form) s h i = formless text ports s h i
only-event text ports (Err faults.NoPort) s h i = given text ports (Err faults.NoPort) s h i
only-event text ports (Err faults.WrongWay) s h i = given text ports (Err faults.WrongWay) s h i
only-event text ports (Err (faults.ItemOutside p)) s h i = given text ports (Err (faults.ItemOutside p)) s h i
only-event text ports (Err faults.NoMemory) s h i = tt
