use Rattle.std.proofs.Common.{inl, inr, sym, subst, arith}
use Rattle.reo_trees.specs.declared.programs.Program.{Program}
use Rattle.reo_syntax_laws.specs.trees_laws.Spelled.{IsSpelled}
use Rattle.reo_circuit_texts.proofs.PlainLemmas.{plain_names}
use Rattle.reo_circuit_texts.proofs.laws.circuit_names_are_plain.Goals as goal

pub returns : goal.returns
returns c = λ text p short says. elim says [
  | inl one ↦ c.names_are_plain.ensures text p short one
  | inr two ↦
      let spelled = subst (λ (q : Program). IsSpelled q) (sym two.2.is) (c.expansions_are_spelled.ensures two.0 (c.programs_two_are_spelled.ensures text two.0 two.1)) in
      plain_names 65536 p (omega arith) spelled (c.expansions_are_few.ensures two.0 p two.2)
]
