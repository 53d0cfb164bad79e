use Rattle.std.proofs.Common.{inl, inr, sym, subst}
use Rattle.reo_trees.specs.declared.programs.Program.{Program}
use Rattle.reo_syntax_laws.specs.trees_laws.Spelled.{IsSpelled}
use Rattle.reo_circuit_texts.proofs.laws.circuits_are_spelled.Goals as goal

pub returns : goal.returns
returns c = λ text p says. elim says [
  | inl one ↦ c.programs_are_spelled.ensures text p one
  | inr two ↦ subst (λ (q : Program). IsSpelled q) (sym two.2.is) (c.expansions_are_spelled.ensures two.0 (c.programs_two_are_spelled.ensures text two.0 two.1))
]
