-- Ends that may not stand at parameters.
use Rattle.std.specs.Prelude.{ℕ, not, List, map}
use Rattle.std.specs.List.{list_any}
use Rattle.reo_trees.specs.declared.programs.Parameter.{Parameter}
use Rattle.reo_rules.specs.declared.fault.FlatFault.{FlatFault}
use Rattle.reo_rules.specs.declared.fault.FlatFault.TheVariants as faults
use Rattle.reo_rules.specs.Lists.{where_true}
use Rattle.reo_rules.specs.Touches.{Touch, touch}
use Rattle.reo_rules.specs.Direction.{goes_against}
use Rattle.reo_rules_names.specs.declared.ends.EndsAtNames.{EndsAtNames}
use Rattle.reo_rules_names.specs.EndsAtNames.{AreEnds}

-- The break where an end goes against a parameter of its name.
abbrev pub against : List Parameter → ℕ → Touch → List FlatFault
against ps line t = where_true (list_any (goes_against t) ps) (faults.Direction line t.name)

-- The table has a sink end for each `in` parameter, and a source end for each `out` parameter.
abbrev pub AreClosed : List Parameter → EndsAtNames → Type 0
AreClosed ps table = AreEnds (map (λ (p : Parameter). touch p.name (not p.inward)) ps) table
