-- Each program has one expansion, or one first refusal.
use Rattle.std.specs.Prelude.{◌≡◌, ◌⊎◌, Err}
use Rattle.reo_trees.specs.declared.programs.Program.{Program}
use Rattle.reo_trees.specs.declared.programs_two.ProgramTwo.{ProgramTwo}
use Rattle.reo_expand.specs.declared.base.fault.ExpandFault.{ExpandFault}
use Rattle.reo_expand.specs.declared.base.fault.ExpandFault.TheVariants as faults
use Rattle.reo_expand.specs.base.Steps.{IsExpanded, IsUnexpanded, walk_of}

-- No program stands for two, and none that stands for one is refused, but for want of memory.
pub record OneExpansion : Type 0 where
  pub one : (p : ProgramTwo) (q r : Program) → IsExpanded p q → IsExpanded p r → q ≡ r
  pub no_refusal : (p : ProgramTwo) (q : Program) (f : ExpandFault) → IsExpanded p q → IsUnexpanded p f → f ≡ faults.NoMemory

-- Each program stands for a program, or has one first refusal.
pub record ExpandedOrRefused : Type 0 where
  pub some : (p : ProgramTwo) → ((q : Program) × IsExpanded p q) ⊎ ((f : ExpandFault) × (walk_of p ≡ Err f))
  pub one : (p : ProgramTwo) (f g : ExpandFault) → walk_of p ≡ Err f → IsUnexpanded p g → (g ≡ faults.NoMemory) ⊎ (g ≡ f)
