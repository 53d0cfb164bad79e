use Rattle.std.proofs.Common.{◌<◌, ◌^◌, length, subst, arith, inl, inr}
use Rattle.std.specs.List.{All}
use Rattle.reo_trees.specs.declared.programs_two.AnyProgram.{AnyProgram}
use Rattle.reo_trees.specs.SaysTwo.{SaysAny}
use Rattle.reo_syntax_laws.specs.trees_laws.Spelled.{IsSpelled}
use Rattle.reo_rules.specs.Scopes.{connectors_of}
use Rattle.reo_flat.specs.flatten_laws.Plain.{HasPlainNames}
use Rattle.reo_command.proofs.UnfoldingLemmas.{on_expanded}
use Rattle.reo_command.proofs.texts.unfolding_of.Goals as goal

pub returns-in-Ok-One-clause-spelled : goal.returns-in-Ok-One-clause-spelled
returns-in-Ok-One-clause-spelled c =
    let says = subst (λ (p : AnyProgram). SaysAny c.args.text.now p) c.in-Ok-One.field-0-is c.in-Ok-One.ensures in
    c.circuits_are_spelled.ensures c.args.text.now c.in-Ok-One.program (inl says)

pub returns-in-Ok-One-clause-plain : goal.returns-in-Ok-One-clause-plain
returns-in-Ok-One-clause-plain c =
    let few = c.requires.few in
    let short : length c.args.text.now < 2 ^ 64 = omega (arith, few) in
    let says = subst (λ (p : AnyProgram). SaysAny c.args.text.now p) c.in-Ok-One.field-0-is c.in-Ok-One.ensures in
    c.circuit_names_are_plain.ensures c.args.text.now c.in-Ok-One.program short (inl says)

pub returns-in-Ok-Two-clause-spelled : goal.returns-in-Ok-Two-clause-spelled
returns-in-Ok-Two-clause-spelled c =
    let says = subst (λ (p : AnyProgram). SaysAny c.args.text.now p) c.in-Ok-Two.field-0-is c.in-Ok-Two.ensures in
    on_expanded c.in-Ok-Two.program IsSpelled c.expansion_of.result c.expansion_of.ensures
    (λ p expanded. c.circuits_are_spelled.ensures c.args.text.now p (inr (c.in-Ok-Two.program, says, expanded)))

pub returns-in-Ok-Two-clause-plain : goal.returns-in-Ok-Two-clause-plain
returns-in-Ok-Two-clause-plain c =
    let few = c.requires.few in
    let short : length c.args.text.now < 2 ^ 64 = omega (arith, few) in
    let says = subst (λ (p : AnyProgram). SaysAny c.args.text.now p) c.in-Ok-Two.field-0-is c.in-Ok-Two.ensures in
    on_expanded c.in-Ok-Two.program (λ p. All HasPlainNames (connectors_of p.declarations)) c.expansion_of.result c.expansion_of.ensures
    (λ p expanded. c.circuit_names_are_plain.ensures c.args.text.now p short (inr (c.in-Ok-Two.program, says, expanded)))
