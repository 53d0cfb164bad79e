-- A text says one program.
use Rattle.std.proofs.Common.{◌≡◌, ◌∙◌, inl, inr, ℕ, List, sym, subst}
use Rattle.std.specs.Prelude.{Result, Ok}
use Rattle.reo_trees.specs.declared.programs.Program.{Program}
use Rattle.reo_trees.specs.declared.programs_two.ProgramTwo.{ProgramTwo}
use Rattle.reo_trees.specs.declared.programs_two.AnyProgram.{AnyProgram}
use Rattle.reo_trees.specs.declared.programs_two.AnyProgram.TheVariants.{One, Two}
use Rattle.reo_trees.specs.Says.{SaysProgram}
use Rattle.reo_trees.specs.SaysTwo.{SaysTwo, SaysAny}
use Rattle.reo_parser.specs.declared.fault.ParseFault.{ParseFault}
use Rattle.reo_parser.proofs.two.Only.{same}
use Rattle.reo_expand.specs.base.Expansion.{expansion}
use Rattle.reo_circuit_texts.specs.Circuits.{SaysCircuit}

ok_is : (a b : AnyProgram) → ◌≡◌ {A = Result AnyProgram ParseFault} (Ok a) (Ok b) → a ≡ b
ok_is a b e = cc

one_is : (p q : Program) → One p ≡ One q → p ≡ q
one_is p q e = cc

two_is : (p q : ProgramTwo) → Two p ≡ Two q → p ≡ q
two_is p q e = cc

one_is_two : (p : Program) (q : ProgramTwo) → One p ≡ Two q → ⊥
one_is_two p q e = cc

-- Of either version.
pub one_any : (text : List ℕ) (a b : AnyProgram) → SaysAny text a → SaysAny text b → a ≡ b
one_any text a b says other = ok_is a b (same text (Ok a) (Ok b) says other)

module _ (text : List ℕ) where
  pub one_of_one : (p q : Program) → SaysProgram text p → SaysProgram text q → p ≡ q
  one_of_one p q says other = one_is p q (one_any text (One p) (One q) says other)

  pub one_of_two : (p q : ProgramTwo) → SaysTwo text p → SaysTwo text q → p ≡ q
  one_of_two p q says other = two_is p q (one_any text (Two p) (Two q) says other)

  pub not_both : (p : Program) (q : ProgramTwo) → SaysProgram text p → SaysTwo text q → ⊥
  not_both p q says other = one_is_two p q (one_any text (One p) (Two q) says other)

  pub one_program : (p q : Program) → SaysCircuit text p → SaysCircuit text q → p ≡ q
  one_program p q (inl a) (inl b) = one_of_one p q a b
  one_program p q (inl a) (inr (t, b, expanded)) = absurd (not_both p t a b)
  one_program p q (inr (s, a, expanded)) (inl b) = absurd (not_both q s b a)
  one_program p q (inr (s, a, expanded)) (inr (t, b, other)) = expanded.is ∙ sym (subst (λ (u : ProgramTwo). q ≡ expansion u) (one_of_two t s b a) other.is)
