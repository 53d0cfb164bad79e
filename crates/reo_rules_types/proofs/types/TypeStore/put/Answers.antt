-- The kind first, and then the type.
use Rattle.std.proofs.Common.{◌≡◌, ◌∙◌, Some, ap, sym, subst, slice_get}
use Rattle.std.specs.Prelude.{IfOk}
use Rattle.reo_exprs.specs.Kinds.{kind_of}
use Rattle.reo_exprs.proofs.Steps.{kind_twice}
use Rattle.reo_rules_types.specs.Cells.{kindred_of}
use Rattle.reo_rules_types.proofs.Kept.{kept_cell, kept_fits}
use Rattle.reo_rules_types.proofs.types.TypeStore.put.Goals as goal

pub keep-requires-in-Some-clause-kind : goal.keep-requires-in-Some-clause-kind
keep-requires-in-Some-clause-kind c =
    let is = c.in-Some.ensures.1 in
    ap kind_of is ∙ kind_twice (kindred_of c.args.self.now c.args.cell) ∙ sym is

pub keep-requires-in-Some-2-clause-fits : goal.keep-requires-in-Some-2-clause-fits
keep-requires-in-Some-2-clause-fits c = kept_fits c.args.self.now c.keep-in-Some.new.self c.in_ok-kind-in-Some.ensures.keeps c.args.cell c.requires

pub keep-requires-in-Some-2-clause-kind : goal.keep-requires-in-Some-2-clause-kind
keep-requires-in-Some-2-clause-kind c =
    c.in_ok-kind-in-Some.ensures.number ∙ ap Some (c.in-Some.ensures.1 ∙ ap kind_of (sym (kept_cell c.args.self.now c.keep-in-Some.new.self c.in_ok-kind-in-Some.ensures.keeps c.args.cell c.requires)))

pub returns-in_ok-kind-in-Some-clause-number : goal.returns-in_ok-kind-in-Some-clause-number
returns-in_ok-kind-in-Some-clause-number c =
    subst (λ k. IfOk c.keep-in-Some-2.result (λ n. slice_get c.keep-in-Some-2.new.self n ≡ Some k)) (kept_cell c.args.self.now c.keep-in-Some.new.self c.in_ok-kind-in-Some.ensures.keeps c.args.cell c.requires) c.keep-in-Some-2.ensures.number
