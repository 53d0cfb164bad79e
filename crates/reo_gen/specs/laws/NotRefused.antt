-- What is accepted is not refused.
use Rattle.std.specs.Prelude.{◌≡◌}
use Rattle.reo_trees.specs.declared.programs.Program.{Program}
use Rattle.reo_rules.specs.declared.fault.FlatFault.{FlatFault}
use Rattle.reo_rules.specs.declared.fault.FlatFault.TheVariants as faults
use Rattle.reo_flat.specs.Refusals.{IsAccepted, IsRefused}

-- A program that breaks no rule is refused for want of memory alone.
abbrev pub AcceptedIsNotRefused : Type 0
AcceptedIsNotRefused = (p : Program) (fault : FlatFault) → IsAccepted p → IsRefused p fault → fault ≡ faults.NoMemory
