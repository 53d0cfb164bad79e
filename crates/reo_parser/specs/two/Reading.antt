-- What reading all tokens of a text of version 2 gives.
use Rattle.std.specs.Prelude.{◌≤◌, List, length, drop}
use Rattle.reo_grammar.specs.Tokens.{Lexeme}
use Rattle.reo_grammar.specs.Grammar.{Says, Refused}
use Rattle.reo_trees.specs.Rules.{circuit_rules}
use Rattle.reo_trees.specs.ProgramsTwo.{program_two}
use Rattle.reo_parser.specs.declared.two.texts.Parsing.{Parsing as Answer}
use Rattle.reo_parser.specs.declared.two.texts.Parsing.TheVariants as outcomes

-- The tokens say the program, or are refused at the place, which is past the last one where they only begin a text.
abbrev pub IsRead : List Lexeme → Answer → Type 0
IsRead ts (outcomes.Said p) = Says circuit_rules program_two ts p
IsRead ts (outcomes.Refused place) = (place ≤ length ts) × Refused circuit_rules program_two ts (drop place ts)
