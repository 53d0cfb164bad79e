-- Why a program has no circuit.
use Rattle.std.specs.Prelude.{ℕ, ◌≡◌, Some, List, [], ◌++◌, slice_index, slice_index_or}
use Rattle.reo_net_base.specs.Wired.{IsLeastOnCycle, NoCycle}
use Rattle.reo_net_base.specs.Net.{from_sides, to_sides}
use Rattle.reo_trees.specs.declared.programs.Declaration.{Declaration}
use Rattle.reo_trees.specs.declared.programs.Program.{Program}
use Rattle.reo_rules.specs.declared.fault.FlatFault.{FlatFault}
use Rattle.reo_rules.specs.declared.fault.FlatFault.TheVariants as faults
use Rattle.reo_rules.specs.Lists.{first_of}
use Rattle.reo_flat.specs.Flat.{nodes_of, homes_in, net_of_program}
use Rattle.reo_rules.specs.Rules.{rule_breaks}
use Rattle.reo_flat.specs.Sizes.{no_main, too_many}

-- All breaks of the rules but that on cycles, rule by rule.
abbrev pub breaks : List Declaration → List FlatFault
breaks ds = rule_breaks ds ++ (no_main ds ++ too_many ds)

-- The node of the least joint on a directed cycle, which is the first node that lies on one.
pub record IsOnCycleFirst (ds : List Declaration) (node : List ℕ) : Type 0 where
  pub joint : ℕ
  pub least : IsLeastOnCycle (from_sides (net_of_program ds)) (to_sides (net_of_program ds)) joint
  pub home : slice_index_or (nodes_of ds) (slice_index (homes_in ds) joint) [] ≡ node

-- The refusal: the first break of the first broken rule. `NoMemory` may come at any time.
abbrev pub IsRefused : Program → FlatFault → Type 0
IsRefused p faults.NoMemory = Unit {0}
IsRefused p (faults.Cycle node) = (breaks p.declarations ≡ []) × IsOnCycleFirst p.declarations node
IsRefused p fault = first_of (breaks p.declarations) ≡ Some fault

-- No rule is broken.
pub record IsAccepted (p : Program) : Type 0 where
  pub no_break : breaks p.declarations ≡ []
  pub no_cycle : NoCycle (from_sides (net_of_program p.declarations)) (to_sides (net_of_program p.declarations))
