-- Why texts are refused, for all layers alike.
use Rattle.std.specs.Prelude.{ℕ, ◌≡◌, ◌++◌, List, [], Option, Some, None, Err, codes}
use Rattle.std.specs.Fmt.{decimal}
use Rattle.reo_lexer.specs.declared.token.LexFault.{LexFault}
use Rattle.reo_lexer.specs.declared.token.LexFault.TheVariants as lexing
use Rattle.reo_parser.specs.declared.fault.ParseFault.{ParseFault}
use Rattle.reo_parser.specs.declared.fault.ParseFault.TheVariants as faults
use Rattle.reo_parser.specs.two.ParsedAny.{AnswersAny}
use Rattle.reo_trees.specs.declared.programs.Program.{Program}
use Rattle.reo_trees.specs.declared.programs_two.ProgramTwo.{ProgramTwo}
use Rattle.reo_trees.specs.SaysTwo.{SaysTwo}
use Rattle.reo_expand.specs.declared.base.fault.ExpandFault.{ExpandFault}
use Rattle.reo_expand.specs.declared.base.fault.ExpandFault.TheVariants as expansions
use Rattle.reo_expand.specs.base.Steps.{walk_of}
use Rattle.reo_circuit_texts.specs.Circuits.{SaysCircuit}
use Rattle.reo_rules.specs.declared.fault.FlatFault.{FlatFault}
use Rattle.reo_rules.specs.declared.fault.FlatFault.TheVariants as rules
use Rattle.reo_flat.specs.Refusals.{IsRefused}
use Rattle.reo_net_base.specs.declared.port.Port.{Port}
use Rattle.reo_script.specs.declared.scripts.fault.ScriptFault.{ScriptFault}
use Rattle.reo_script.specs.declared.scripts.fault.ScriptFault.TheVariants as scripts
use Rattle.reo_script.specs.scripts.ScriptAnswers.{Answers as ScriptAnswers}
use Rattle.reo_trace_reader.specs.declared.texts.fault.TraceFault.{TraceFault}
use Rattle.reo_trace_reader.specs.declared.texts.fault.TraceFault.TheVariants as traces
use Rattle.reo_trace_reader.specs.texts.Answers.{Answers as TraceAnswers}
use Rattle.reo_command.specs.declared.refusal.Refusal.{Refusal}

-- A cause on a line.
abbrev pub on_line : ℕ → List ℕ → Option Refusal
on_line line words = Some (record { line = Some line; words = words })

-- The refusal of a text without tokens. Out of memory is none.
abbrev pub lex_refusal : LexFault → Option Refusal
lex_refusal (lexing.BadByte line) = on_line line (codes "bad byte")
lex_refusal (lexing.OpenText line) = on_line line (codes "open text")
lex_refusal (lexing.NumberTooLong line) = on_line line (codes "number too long")
lex_refusal lexing.NoMemory = None

-- The refusal of a circuit text that says no program.
abbrev pub parse_refusal : ParseFault → Option Refusal
parse_refusal (faults.Lex fault) = lex_refusal fault
parse_refusal (faults.Syntax line) = on_line line (codes "syntax")
parse_refusal (faults.TooDeep line) = on_line line (codes "too deep")
parse_refusal faults.NoMemory = None

-- A cause on no line.
abbrev pub on_no_line : List ℕ → Option Refusal
on_no_line words = Some (record { line = None; words = words })

-- The refusal of a program that has no expansion. Out of memory is none.
abbrev pub expand_refusal : ExpandFault → Option Refusal
expand_refusal (expansions.Unbound line name) = on_line line (name ++ codes " unbound")
expand_refusal (expansions.Index line) = on_line line (codes "index")
expand_refusal (expansions.Number line) = on_line line (codes "arity")
expand_refusal expansions.TooMany = on_no_line (codes "too many")
expand_refusal expansions.NoMemory = None

-- The refusal of a program that breaks a rule. Out of memory is none.
abbrev pub flat_refusal : FlatFault → Option Refusal
flat_refusal (rules.Twice line name) = on_line line (name ++ codes " twice")
flat_refusal (rules.Unknown line name) = on_line line (name ++ codes " unknown")
flat_refusal (rules.Mistyped line) = on_line line (codes "mistyped")
flat_refusal (rules.Range line) = on_line line (codes "range")
flat_refusal (rules.Arity line) = on_line line (codes "arity")
flat_refusal (rules.Direction line node) = on_line line (codes "direction " ++ node)
flat_refusal (rules.Dangling line node) = on_line line (codes "dangling " ++ node)
flat_refusal rules.NoMain = on_no_line (codes "no main")
flat_refusal rules.TooMany = on_no_line (codes "too many")
flat_refusal (rules.Cycle node) = on_no_line (codes "cycle " ++ node)
flat_refusal rules.NoMemory = None

-- The refusal of a script text, for the ports of its circuit. Out of memory is none.
abbrev pub script_refusal : ScriptFault → Option Refusal
script_refusal (scripts.Lex fault) = lex_refusal fault
script_refusal (scripts.Syntax line) = on_line line (codes "syntax")
script_refusal (scripts.TooDeep line) = on_line line (codes "too deep")
script_refusal (scripts.NoPort line name) = on_line line (codes "no port " ++ name)
script_refusal (scripts.WrongWay line name) = on_line line (codes "wrong way " ++ name)
script_refusal (scripts.ItemOutside line) = on_line line (codes "outside")
script_refusal (scripts.Shared line name) = on_line line (codes "shared " ++ name)
script_refusal scripts.NoMemory = None

-- The refusal of a text that is no trace, for the ports of its circuit. Out of memory is none.
abbrev pub trace_refusal : TraceFault → Option Refusal
trace_refusal (traces.Line line) = on_no_line (codes "line " ++ decimal line)
trace_refusal traces.NoMemory = None

-- Where the cause is.
abbrev pub line_text : Option ℕ → List ℕ
line_text None = []
line_text (Some line) = codes "line " ++ decimal line ++ codes ": "

-- The line and the words of a refusal.
abbrev pub refusal_text : Refusal → List ℕ
refusal_text r = line_text r.line ++ r.words

-- The text says no program of its version, and is refused so.
abbrev pub RefusesProgram : List ℕ → Refusal → Type 0
RefusesProgram text r = (fault : ParseFault) × AnswersAny text (Err fault) × (parse_refusal fault ≡ Some r)

-- The text says a program of version 2 that stands for none, and is refused so, by the first refusal that is met.
abbrev pub RefusesExpansion : List ℕ → Refusal → Type 0
RefusesExpansion text r = (program : ProgramTwo) × (fault : ExpandFault) × SaysTwo text program × (walk_of program ≡ Err fault) × (expand_refusal fault ≡ Some r)

-- The text says a program, or one that stands for one, that breaks a rule, and is refused so.
abbrev pub RefusesCircuit : List ℕ → Refusal → Type 0
RefusesCircuit text r = (program : Program) × (fault : FlatFault) × SaysCircuit text program × IsRefused program fault × (flat_refusal fault ≡ Some r)

-- The text says no script for these ports, and is refused so.
abbrev pub RefusesScript : List Port → List ℕ → Refusal → Type 0
RefusesScript ports text r = (fault : ScriptFault) × ScriptAnswers text ports (Err fault) × (script_refusal fault ≡ Some r)

-- The text is no trace for these ports, and is refused so.
abbrev pub RefusesTrace : List Port → List ℕ → Refusal → Type 0
RefusesTrace ports text r = (fault : TraceFault) × TraceAnswers ports text (Err fault) × (trace_refusal fault ≡ Some r)
