-- What an event line says, and what it is answered.
use Rattle.std.specs.Prelude.{ℕ, ◌≡◌, Option, Some, None, cond, List, codes, Result, Ok, Err}
use Rattle.reo_grammar.specs.Tokens.Class.{fixed, named}
use Rattle.reo_grammar.specs.Grammar.{Says as TokensSay}
use Rattle.reo_grammar.specs.Grammar.Grammar.{nothing, token, both, made, either, rule}
use Rattle.reo_grammar.specs.Levels.{Nowhere}
use Rattle.reo_values.specs.declared.value.Value.{Value}
use Rattle.reo_lexer.specs.declared.token.Token.{Token}
use Rattle.reo_lexer.specs.Lexing.{IsTokens, lexemes_of}
use Rattle.reo_net_base.specs.declared.port.Port.{Port}
use Rattle.reo_trees.specs.declared.literals.Literal.{Literal}
use Rattle.reo_trees.specs.Forms.{FormOf, word, name_form, ◌▸◌}
use Rattle.reo_trees.specs.Forms.Rule.{literal_rule}
use Rattle.reo_trees.specs.Rules.{circuit_rules}
use Rattle.reo_script.specs.declared.scripts.event.EventForm.{EventForm}
use Rattle.reo_script.specs.declared.scripts.event.EventForm.TheVariants as forms
use Rattle.reo_script.specs.declared.scripts.event.Event.{Event}
use Rattle.reo_script.specs.declared.scripts.event.Event.TheVariants as events
use Rattle.reo_script.specs.declared.scripts.event.EventFault.{EventFault}
use Rattle.reo_script.specs.declared.scripts.event.EventFault.TheVariants as faults
use Rattle.reo_script.specs.scripts.ScriptRules.{port_number, item_at, goes_wrong}
use Rattle.reo_script.specs.scripts.ScriptAnswers.{IsDeep}

-- A name of this text, which is no reserved word.
abbrev pub called : List ℕ → FormOf (Unit {0})
called b = made (λ t. tt) (token (named b))

-- "write" NAME literal
abbrev pub write_event : FormOf EventForm
write_event = word (codes "write") ▸ both (λ n x. forms.Write n x) name_form (rule literal_rule)

-- "take" NAME, and `withdraw` NAME
abbrev pub take_event : FormOf EventForm
take_event = word (codes "take") ▸ made (λ n. forms.Take n) name_form

abbrev pub withdraw_event : FormOf EventForm
withdraw_event = called (codes "withdraw") ▸ made (λ n. forms.Withdraw n) name_form

-- An event, or no token.
abbrev pub event_form : FormOf EventForm
event_form =
    either (fixed (codes "write")) write_event
    (either (fixed (codes "take")) take_event
    (either (named (codes "withdraw")) withdraw_event
    (either (named (codes "round")) (made (λ u. forms.Round) (called (codes "round")))
    (either (named (codes "end")) (made (λ u. forms.End) (called (codes "end"))) (nothing forms.Nothing)))))

-- The line's tokens say the event, and none of them is too deep.
abbrev pub SaysEvent : List ℕ → EventForm → Type 0
SaysEvent line e = (ts : List Token) × IsTokens line ts × TokensSay circuit_rules event_form (lexemes_of line ts) e × Nowhere IsDeep (lexemes_of line ts)

-- At a port that is there: an event, where it goes this way.
abbrev pub event_at : List Port → List ℕ → Option Literal → (ℕ → Result Event EventFault) → Option ℕ → Result Event EventFault
event_at ports name literal then None = Err faults.NoPort
event_at ports name literal then (Some port) =
    cond (goes_wrong ports (record { line = 0; port = name; literal = literal })) (Err faults.WrongWay) (then port)

-- A write of an item, where the literal is one.
abbrev pub written_at : ℕ → Option Value → Result Event EventFault
written_at port None = Err (faults.ItemOutside port)
written_at port (Some item) = Ok (events.Write port item)

-- A withdrawal, at any port that is there.
abbrev pub withdrawn_at : Option ℕ → Result Event EventFault
withdrawn_at None = Err faults.NoPort
withdrawn_at (Some port) = Ok (events.Withdraw port)

-- A write, a take and a withdrawal for these ports, or the first of these causes that holds: no port, another way, outside
-- the type.
abbrev pub written_event : List Port → List ℕ → Literal → Result Event EventFault
written_event ports name literal = event_at ports name (Some literal) (λ port. written_at port (item_at ports name literal)) (port_number ports name)

abbrev pub taken_event : List Port → List ℕ → Result Event EventFault
taken_event ports name = event_at ports name None (λ port. Ok (events.Take port)) (port_number ports name)

abbrev pub withdrawn_event : List Port → List ℕ → Result Event EventFault
withdrawn_event ports name = withdrawn_at (port_number ports name)

-- The event for these ports, or its cause.
abbrev pub event_for : List Port → EventForm → Result Event EventFault
event_for ports forms.Nothing = Ok events.Nothing
event_for ports (forms.Write name literal) = written_event ports name literal
event_for ports (forms.Take name) = taken_event ports name
event_for ports (forms.Withdraw name) = withdrawn_event ports name
event_for ports forms.Round = Ok events.Round
event_for ports forms.End = Ok events.End

-- The answer to a line: that to the event that it says, or `Form` where it says none.
abbrev pub AnswersEvent : List ℕ → List Port → Result Event EventFault → Type 0
AnswersEvent line ports (Err faults.Form) = (e : EventForm) → SaysEvent line e → ⊥
AnswersEvent line ports (Err faults.NoMemory) = ⊥
AnswersEvent line ports answer = (e : EventForm) × SaysEvent line e × (event_for ports e ≡ answer)

-- It is answered so, or out of memory.
abbrev pub IsReadEvent : List ℕ → List Port → Result Event EventFault → Type 0
IsReadEvent line ports (Err faults.NoMemory) = Unit {0}
IsReadEvent line ports r = AnswersEvent line ports r

-- What was answered is this answer, or out of memory.
abbrev pub IsThisEvent : Result Event EventFault → Result Event EventFault → Type 0
IsThisEvent answer (Err faults.NoMemory) = Unit {0}
IsThisEvent answer r = r ≡ answer

-- Every line has an answer, for any ports.
abbrev pub EachLineIsAnswered : Type 0
EachLineIsAnswered = (line : List ℕ) (ports : List Port) → (answer : Result Event EventFault) × AnswersEvent line ports answer
