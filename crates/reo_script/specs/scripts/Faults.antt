-- The faults of tokens among those of scripts.
use Rattle.reo_lexer.specs.declared.token.LexFault.{LexFault}
use Rattle.reo_lexer.specs.declared.token.LexFault.TheVariants as lexing
use Rattle.reo_script.specs.declared.scripts.fault.ScriptFault.{ScriptFault}
use Rattle.reo_script.specs.declared.scripts.fault.ScriptFault.TheVariants as faults

-- Out of memory is one answer for both.
abbrev pub fault_of_lex : LexFault → ScriptFault
fault_of_lex lexing.NoMemory = faults.NoMemory
fault_of_lex f = faults.Lex f
