-- The answer of a walk.
use Rattle.std.proofs.Common.{◌≡◌, ◌⊎◌, ℕ, Result, Ok, Err, refl, inl, inr}
use Rattle.reo_trees.specs.declared.programs.Program.{Program}
use Rattle.reo_trees.specs.declared.programs_two.ProgramTwo.{ProgramTwo}
use Rattle.reo_expand.specs.declared.base.fault.ExpandFault.{ExpandFault}
use Rattle.reo_expand.specs.declared.base.fault.ExpandFault.TheVariants as faults
use Rattle.reo_expand.specs.base.Expansion.{expansion}
use Rattle.reo_expand.specs.base.Steps.{IsExpanded, IsUnexpanded, walk_of}

same_fault : (f g : ExpandFault) (r : Result ℕ ExpandFault) → r ≡ Err f → r ≡ Err g → g ≡ f
same_fault f g r a b = cc

answered : (p : ProgramTwo) (r : Result ℕ ExpandFault) → walk_of p ≡ r → ((q : Program) × IsExpanded p q) ⊎ ((f : ExpandFault) × (walk_of p ≡ Err f))
answered p (Ok n) is = inl (expansion p, record { count = n; walked_to = is; is = refl })
answered p (Err f) is = inr (f, is)

pub some_answer : (p : ProgramTwo) → ((q : Program) × IsExpanded p q) ⊎ ((f : ExpandFault) × (walk_of p ≡ Err f))
some_answer p = answered p (walk_of p) refl

pub one_refusal : (p : ProgramTwo) (f g : ExpandFault) → walk_of p ≡ Err f → IsUnexpanded p g → (g ≡ faults.NoMemory) ⊎ (g ≡ f)
one_refusal p f g is (inl memory) = inl memory
one_refusal p f g is (inr other) = inr (same_fault f g (walk_of p) is other)
