-- By the number of the name.
use Rattle.std.proofs.Common.{arith, ◌≡◌, ◌∙◌, ◌++◌, sym, ap, subst, position, bytes_eq, get_or, IfOk, inl, inr}
use Rattle.reo_rules.specs.Scopes.{parameter_names}
use Rattle.reo_unfold.proofs.Positions.{place_is}
use Rattle.reo_unfold.proofs.NameLemmas.{flat_at_parameter, flat_at_node, flat_nowhere}
use Rattle.reo_unfold.proofs.names.flat_name.Goals as goal

pub returns-then-number-arguments : goal.returns-then-number-arguments
returns-then-number-arguments c ps rest names count =
    let is = place_is (bytes_eq c.args.name.now) (parameter_names ps ++ rest) c.in-Some.number ((λ i. position (bytes_eq (sym c.as_slice.ensures i)) (sym names i)) ∙ sym c.find.ensures ∙ c.in-Some.is) in
    let given = flat_at_parameter c.args.path.now rest c.args.name.now ps c.args.arguments.now c.index-arguments-number.result (omega arith) (omega arith) in
    subst (λ v. IfOk c.copy.result (λ b. b ≡ v)) (c.index-arguments-number.is ∙ ap (λ k. get_or c.args.arguments.now k c.index-arguments-number.result) (sym is) ∙ sym given) c.copy.ensures

pub returns-else-number-parameters : goal.returns-else-number-parameters
returns-else-number-parameters c ps rest names count =
    let is = place_is (bytes_eq c.args.name.now) (parameter_names ps ++ rest) c.in-Some.number ((λ i. position (bytes_eq (sym c.as_slice.ensures i)) (sym names i)) ∙ sym c.find.ensures ∙ c.in-Some.is) in
    let declared = flat_at_node c.args.path.now rest c.args.name.now ps c.args.arguments.now
    (λ within. elim c.else-number-parameters.either [ inl far ↦ let late = far.1 in omega arith | inr late ↦ absurd (omega arith) ]) in
    subst (λ v. IfOk c.node_name.result (λ b. b ≡ v)) (sym declared) c.node_name.ensures

pub returns-in-None : goal.returns-in-None
returns-in-None c ps rest names count =
    let none = (λ i. position (bytes_eq (sym c.as_slice.ensures i)) (sym names i)) ∙ sym c.find.ensures ∙ c.in-None.is in
    let declared = flat_nowhere c.args.path.now rest c.args.name.now ps c.args.arguments.now none in
    subst (λ v. IfOk c.node_name-in-None.result (λ b. b ≡ v)) (sym declared) c.node_name-in-None.ensures
