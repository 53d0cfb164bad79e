-- The static rules on names, types and ends, in their order.
use Rattle.std.specs.Prelude.{◌≡◌, List, [], ◌++◌}
use Rattle.reo_trees.specs.declared.programs.Declaration.{Declaration}
use Rattle.reo_rules.specs.declared.fault.FlatFault.{FlatFault}
use Rattle.reo_rules.specs.Twice.{twice}
use Rattle.reo_rules.specs.Unknown.{unknown}
use Rattle.reo_rules.specs.Mistyped.{mistyped}
use Rattle.reo_rules.specs.Ranges.{out_of_range}
use Rattle.reo_rules.specs.Arity.{arity}
use Rattle.reo_rules.specs.Direction.{direction}
use Rattle.reo_rules.specs.Dangling.{dangling}

-- All breaks of these rules, rule by rule and each in text order: the first is the first break of the first broken rule.
abbrev pub rule_breaks : List Declaration → List FlatFault
rule_breaks ds = twice ds ++ (unknown ds ++ (mistyped ds ++ (out_of_range ds ++ (arity ds ++ (direction ds ++ dangling ds)))))

-- No name stands twice, and none is unknown.
pub record KeepsNames (ds : List Declaration) : Type 0 where
  pub no_twice : twice ds ≡ []
  pub no_unknown : unknown ds ≡ []

-- And the types of each item fit.
pub record KeepsTypes (ds : List Declaration) : Type 0 where
  pub names : KeepsNames ds
  pub no_mistyped : mistyped ds ≡ []

-- And all of these rules hold.
pub record KeepsRules (ds : List Declaration) : Type 0 where
  pub types : KeepsTypes ds
  pub no_range : out_of_range ds ≡ []
  pub no_arity : arity ds ≡ []
  pub no_direction : direction ds ≡ []
  pub no_dangling : dangling ds ≡ []
