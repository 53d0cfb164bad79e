-- What reading all tokens gives.
use Rattle.std.specs.Prelude.{◌≤◌, List, length, drop}
use Rattle.reo_grammar.specs.Tokens.{Lexeme}
use Rattle.reo_grammar.specs.Grammar.{Says, Refused}
use Rattle.reo_script.specs.scripts.ScriptForms.{script_rules, script_form}
use Rattle.reo_script.specs.declared.texts.ScriptReading.{ScriptReading as Answer}
use Rattle.reo_script.specs.declared.texts.ScriptReading.TheVariants as outcomes

-- The tokens say the components, or are refused at the place, which is past the last one where they only begin a script.
abbrev pub IsRead : List Lexeme → Answer → Type 0
IsRead ts (outcomes.Said cs) = Says script_rules script_form ts cs
IsRead ts (outcomes.Refused place) = (place ≤ length ts) × Refused script_rules script_form ts (drop place ts)
