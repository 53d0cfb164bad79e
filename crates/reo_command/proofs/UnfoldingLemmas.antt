-- A text says one program of a circuit, or is refused for one cause.
use Rattle.std.proofs.Common.{◌≡◌, ◌∙◌, inl, inr, ℕ, List, sym, ap, refl}
use Rattle.std.specs.Prelude.{Result, Ok, Err, Some, IfOk}
use Rattle.reo_trees.specs.declared.programs.Program.{Program}
use Rattle.reo_trees.specs.declared.programs_two.ProgramTwo.{ProgramTwo}
use Rattle.reo_trees.specs.declared.programs_two.AnyProgram.TheVariants.{One, Two}
use Rattle.reo_expand.specs.declared.base.fault.ExpandFault.{ExpandFault}
use Rattle.reo_expand.specs.base.Steps.{walk_of, IsExpanded}
use Rattle.reo_command.specs.ReadSteps.{IsExpandedAs}
use Rattle.reo_circuit_texts.specs.Circuits.{SaysCircuit}
use Rattle.reo_circuit_texts.proofs.OneLemmas.{one_of_two, not_both}
use Rattle.reo_command.specs.declared.refusal.Refusal.{Refusal}
use Rattle.reo_command.specs.declared.role.Role.TheVariants.{Circuit}
use Rattle.reo_command.specs.declared.stop.Stop.{Stop}
use Rattle.reo_command.specs.declared.stop.Stop.TheVariants.{Refused}
use Rattle.reo_command.specs.Readings.{UnfoldingStops}
use Rattle.reo_command.specs.Refusals.{expand_refusal, RefusesExpansion}
use Rattle.reo_command.proofs.CircuitLemmas.{not_refused, program_stop}
use Rattle.reo_command.proofs.ResultLemmas.{ok_is_no_fault, fault_is, some_is}

-- A program is walked in one way.
one_walk : (p q : ProgramTwo) (f g : ExpandFault) → p ≡ q → walk_of p ≡ Err f → walk_of q ≡ Err g → f ≡ g
one_walk p q f g is a b = fault_is f g (walk_of p) (walk_of q) a b (ap walk_of is)

not_walked : (p q : ProgramTwo) (n : ℕ) (f : ExpandFault) → p ≡ q → walk_of p ≡ Ok n → walk_of q ≡ Err f → ⊥
not_walked p q n f is a b = ok_is_no_fault n f (walk_of p) (walk_of q) a b (ap walk_of is)

module _ (text : List ℕ) where
  one_expansion_refusal : (r s : Refusal) → RefusesExpansion text r → RefusesExpansion text s → r ≡ s
  one_expansion_refusal r s (p, f, says, walked, told) (q, g, other, walks, so) =
      some_is r s (Some r) (Some s) refl refl (sym told ∙ ap expand_refusal (one_walk p q f g (one_of_two text p q says other) walked walks) ∙ so)

  -- What the text says stops nothing.
  pub unfolding_apart : (p : Program) (s : Stop) → SaysCircuit text p → UnfoldingStops text s → ⊥
  unfolding_apart p s (inl one) (inl (r, refused, is)) = not_refused text (One p) r one refused
  unfolding_apart p s (inl one) (inr (r, (q, f, two, walked, told), is)) = not_both text p q one two
  unfolding_apart p s (inr (q, two, expanded)) (inl (r, refused, is)) = not_refused text (Two q) r two refused
  unfolding_apart p s (inr (q, two, expanded)) (inr (r, (t, f, other, walked, told), is)) = not_walked q t expanded.count f (one_of_two text q t two other) expanded.walked_to walked

  pub unfolding_stop : (s t : Stop) → UnfoldingStops text s → UnfoldingStops text t → s ≡ t
  unfolding_stop s t (inl a) (inl b) = program_stop text s t a b
  unfolding_stop s t (inl (r, refused, is)) (inr (q, (p, f, two, walked, told), so)) = absurd (not_refused text (Two p) r two refused)
  unfolding_stop s t (inr (q, (p, f, two, walked, told), so)) (inl (r, refused, is)) = absurd (not_refused text (Two p) r two refused)
  unfolding_stop s t (inr (r, a, is)) (inr (q, b, so)) = is ∙ ap (Refused Circuit) (one_expansion_refusal r q a b) ∙ sym so

  -- Its stops are refusals.
  pub unfolding_refusal : (s : Stop) → UnfoldingStops text s → (r : Refusal) × (s ≡ Refused Circuit r)
  unfolding_refusal s (inl (r, a, is)) = (r, is)
  unfolding_refusal s (inr (r, a, is)) = (r, is)

-- What holds of an expansion holds of what was answered.
pub on_expanded : (q : ProgramTwo) (P : Program → Type 0) (r : Result Program Stop) → IsExpandedAs q r → ((p : Program) → IsExpanded q p → P p) → IfOk r P
on_expanded q P (Ok p) h f = f p h
on_expanded q P (Err s) h f = tt
