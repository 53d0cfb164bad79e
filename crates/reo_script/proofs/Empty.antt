-- No tokens say the script of no component.
use Rattle.std.proofs.Common.{[], refl}
use Rattle.reo_grammar.specs.Grammar.{Says}
use Rattle.reo_script.specs.scripts.ScriptForms.{script_rules, script_form}

pub no-components : Says script_rules script_form [] []
no-components = (0, (0, (refl, refl)))
