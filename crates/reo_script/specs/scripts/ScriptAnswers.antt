-- What a script text is answered.
use Rattle.std.specs.Prelude.{◌≡◌, ◌⊎◌, ℕ, ◌+◌, ◌<◌, true, Option, Some, None, List, [], ◌∷◌, ◌++◌, map, codes, Result, Ok, Err}
use Rattle.reo_grammar.specs.Tokens.{Lexeme, matches}
use Rattle.reo_grammar.specs.Tokens.Class.{fixed}
use Rattle.reo_grammar.specs.Grammar.{Says as TokensSay}
use Rattle.reo_terms.specs.Refused.{IsRefusedAt, IsDeepAt}
use Rattle.reo_grammar.specs.Levels.{IsAbove, Nowhere, count_of}
use Rattle.reo_lexer.specs.declared.token.Token.{Token}
use Rattle.reo_lexer.specs.Lexing.{IsTokens, lexemes_of}
use Rattle.reo_lexer.specs.Faults.{IsFault}
use Rattle.reo_trees.specs.Says.{most_levels}
use Rattle.reo_net_base.specs.declared.port.Port.{Port}
use Rattle.reo_script.specs.declared.scripts.fault.ScriptFault.{ScriptFault}
use Rattle.reo_script.specs.declared.scripts.fault.ScriptFault.TheVariants as faults
use Rattle.reo_script.specs.declared.scripts.forms.ComponentForm.{ComponentForm}
use Rattle.reo_script.specs.declared.scripts.action.Script.{Script}
use Rattle.reo_rules.specs.Lists.{first_of}
use Rattle.reo_script.specs.scripts.ScriptForms.{script_rules, script_form}
use Rattle.reo_script.specs.scripts.ScriptRules.{breaks, component_for}

-- The last of these tokens is a `repeat` that stands in so many others; a `{` more is open there, that of its component.
abbrev pub IsNested : ℕ → List Lexeme → Type 0
IsNested limit ts =
    (a : List Lexeme) × (t : Lexeme) × (ts ≡ a ++ (t ∷ [])) × (matches (fixed (codes "repeat")) t ≡ true)
    × (limit + count_of (fixed (codes "}")) ts < count_of (fixed (codes "{")) ts)

-- A level above 64, or a repeat within sixteen others.
abbrev pub IsDeep : List Lexeme → Type 0
IsDeep ts = IsAbove most_levels ts ⊎ IsNested 16 ts

-- The text's tokens say these components, and none of them is too deep.
abbrev pub SaysScript : List ℕ → List ComponentForm → Type 0
SaysScript text cs = (ts : List Token) × IsTokens text ts × TokensSay script_rules script_form (lexemes_of text ts) cs × Nowhere IsDeep (lexemes_of text ts)

-- The tokens are refused on this line, and none before that is too deep.
abbrev pub IsSyntax : List Lexeme → ℕ → Type 0
IsSyntax ts line = IsRefusedAt script_rules script_form IsDeep ts line

-- The first token that is too deep is on this line, and those up to and including it begin a script.
abbrev pub IsTooDeep : List Lexeme → ℕ → Type 0
IsTooDeep ts line = IsDeepAt script_rules script_form IsDeep ts line

-- What a text is answered whatever the ports: the components that it says, or why it says none.
abbrev pub Says : List ℕ → Result (List ComponentForm) ScriptFault → Type 0
Says text (Ok cs) = SaysScript text cs
Says text (Err (faults.Lex f)) = IsFault text f
Says text (Err (faults.Syntax line)) = (ts : List Token) × IsTokens text ts × IsSyntax (lexemes_of text ts) line
Says text (Err (faults.TooDeep line)) = (ts : List Token) × IsTokens text ts × IsTooDeep (lexemes_of text ts) line
Says text (Err fault) = ⊥

-- It is answered so, or out of memory.
abbrev pub IsSaid : List ℕ → Result (List ComponentForm) ScriptFault → Type 0
IsSaid text (Err faults.NoMemory) = Unit {0}
IsSaid text r = Says text r

-- The answer to components: the script for these ports, or the first break of the first rule that is broken.
abbrev pub answer_by : List Port → List ComponentForm → Option ScriptFault → Result Script ScriptFault
answer_by ports cs None = Ok (record { components = map (component_for ports) cs })
answer_by ports cs (Some fault) = Err fault

abbrev pub answer_for : List Port → Result (List ComponentForm) ScriptFault → Result Script ScriptFault
answer_for ports (Ok cs) = answer_by ports cs (first_of (breaks ports cs))
answer_for ports (Err fault) = Err fault

-- This is the answer to the text, for these ports.
abbrev pub Answers : List ℕ → List Port → Result Script ScriptFault → Type 0
Answers text ports answer = (r : Result (List ComponentForm) ScriptFault) × Says text r × (answer_for ports r ≡ answer)

-- It is answered so, or out of memory.
abbrev pub IsRead : List ℕ → List Port → Result Script ScriptFault → Type 0
IsRead text ports (Err faults.NoMemory) = Unit {0}
IsRead text ports r = Answers text ports r

-- What was answered is this answer, or out of memory.
abbrev pub IsThis : Result Script ScriptFault → Result Script ScriptFault → Type 0
IsThis answer (Err faults.NoMemory) = Unit {0}
IsThis answer r = r ≡ answer

-- Every text has an answer, for any ports: a script or a refusal.
abbrev pub EachScriptIsAnswered : Type 0
EachScriptIsAnswered = (text : List ℕ) (ports : List Port) → (answer : Result Script ScriptFault) × Answers text ports answer
