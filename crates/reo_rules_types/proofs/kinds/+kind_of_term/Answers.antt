-- The kinds of the parts, and then of the whole.
use Rattle.std.proofs.Common.{◌∙◌, ℕ, Some, refl, sym, ap, subst, pos}
use Rattle.std.specs.Prelude.{IfOk}
use Rattle.reo_values.specs.declared.kindred.Kindred.TheVariants as kinds
use Rattle.reo_exprs.specs.Kinds.{kind_of}
use Rattle.reo_trees.specs.declared.terms.TermForm.TheVariants as forms
use Rattle.reo_rules_types.specs.Cells.{type_at}
use Rattle.reo_rules_types.specs.Scoped.{typed}
use Rattle.reo_rules_types.specs.Kinded.{kind_of_form, IsMade}
use Rattle.reo_rules_types.proofs.Kept.{kept_below, keeps_both}
use Rattle.reo_rules_types.proofs.Scoped.{known_kept}
use Rattle.reo_rules_types.proofs.OfKinds.{form_kind, made_none, made_some, leaf, same_form, two_made, three_made}
use Rattle.reo_rules_types.proofs.Formed.{one_some, one_none, two_some, two_left, two_right, if_some, if_condition, if_yes, if_no}
use Rattle.reo_rules_types.proofs.Sizes.{one_smaller, two_smaller, if_smaller}
use Rattle.reo_rules_types.proofs.kinds.+kind_of_term.Goals as goal

pub returns-in-It-clause-kind : goal.returns-in-It-clause-kind
returns-in-It-clause-kind t c = leaf _ _ c.args.form.now forms.It _ _ (kind_of (type_at c.args.types.now c.args.of)) c.in-It.is refl c.kind.ensures

pub returns-in_ok-put-in-Unit-clause-kind : goal.returns-in_ok-put-in-Unit-clause-kind
returns-in_ok-put-in-Unit-clause-kind t c = leaf _ _ c.args.form.now forms.Unit _ _ kinds.Unit c.in-Unit.is refl c.in_ok-put-in-Unit.ensures.number

pub returns-in_ok-put-in-Bool-clause-kind : goal.returns-in_ok-put-in-Bool-clause-kind
returns-in_ok-put-in-Bool-clause-kind t c = leaf _ _ c.args.form.now (forms.Bool _) _ _ kinds.Bool c.in-Bool.is refl c.in_ok-put-in-Bool.ensures.number

pub returns-in_ok-put-in-Int-clause-kind : goal.returns-in_ok-put-in-Int-clause-kind
returns-in_ok-put-in-Int-clause-kind t c = leaf _ _ c.args.form.now (forms.Int _) _ _ (kinds.Int (pos 0) (pos 0)) c.in-Int.is refl c.in_ok-put-in-Int.ensures.number

pub returns-in_ok-put-in-Text-clause-kind : goal.returns-in_ok-put-in-Text-clause-kind
returns-in_ok-put-in-Text-clause-kind t c = leaf _ _ c.args.form.now (forms.Text _) _ _ (kinds.Text 0) c.in-Text.is refl c.in_ok-put-in-Text.ensures.number

-- One operand.
pub one_kind-requires-clause-bare : goal.one_kind-requires-clause-bare
one_kind-requires-clause-bare t c =
    let types = c.args.types.now in
    let made = made_some c.kind_of_term.new.types c.in_ok-x-in-One.field-0 _ c.in-Some.x c.in-Some.is c.in_ok-x-in-One.ensures.kind in
    form_kind (typed types c.args.declared.now) c.get.result.now.form (type_at types c.args.of) _ made.1

pub returns-in-Some-clause-kind : goal.returns-in-Some-clause-kind
returns-in-Some-clause-kind t c =
    let types = c.args.types.now in
    let made = made_some c.kind_of_term.new.types c.in_ok-x-in-One.field-0 _ c.in-Some.x c.in-Some.is c.in_ok-x-in-One.ensures.kind in
    subst (λ k. IfOk c.one_kind.result (λ m. IsMade c.one_kind.new.types m k))
    (one_some (type_at types c.args.of) (typed types c.args.declared.now) c.args.form.now c.in-One.op c.get.result.now _ (c.in-One.is ∙ ap (forms.One c.in-One.op) (sym c.get.ensures)) made.1)
    c.one_kind.ensures.kind

pub returns-in-None-clause-kind : goal.returns-in-None-clause-kind
returns-in-None-clause-kind t c =
    let types = c.args.types.now in
    one_none (type_at types c.args.of) (typed types c.args.declared.now) c.args.form.now c.in-One.op c.get.result.now (c.in-One.is ∙ ap (forms.One c.in-One.op) (sym c.get.ensures))
    (made_none c.kind_of_term.new.types c.in_ok-x-in-One.field-0 _ c.in_ok-x-in-One.ensures.kind (λ n e. let h = sym c.in-None.is ∙ e in absurd (cc)))

-- Two operands.
pub returns-in_default-clause-kind : goal.returns-in_default-clause-kind
returns-in_default-clause-kind t c =
    let types = c.args.types.now in
    two_left (type_at types c.args.of) (typed types c.args.declared.now) c.args.form.now c.in-Two.op c.get-pair.result.now (c.in-Two.is ∙ ap (forms.Two c.in-Two.op) (sym c.get-pair.ensures))
    (made_none c.kind_of_term-in-Two.new.types c.in_ok-x-in-Two.field-0 _ c.in_ok-x-in-Two.ensures.kind c.in_default.not-Some)

pub kind_of_term-requires-in-Two-2 : goal.kind_of_term-requires-in-Two-2
kind_of_term-requires-in-Two-2 t c =
    let keeps = c.in_ok-x-in-Two.ensures.keeps in
    let types = c.kind_of_term-in-Two.new.types in
    let is = c.in-Two.is ∙ ap (forms.Two c.in-Two.op) (sym c.get-pair.ensures) in (
      (two_smaller c.args.form.now c.in-Two.op c.get-pair.result.now t is c.decreases).1,
      (known_kept c.args.types.now types keeps c.args.declared.now c.requires.known, kept_below c.args.types.now types keeps c.args.of c.requires.of),
    )

pub returns-in_default-2-clause-kind : goal.returns-in_default-2-clause-kind
returns-in_default-2-clause-kind t c =
    let types = c.args.types.now in
    let types1 = c.kind_of_term-in-Two.new.types in
    let p = c.get-pair.result.now in
    two_right (type_at types c.args.of) (typed types c.args.declared.now) c.args.form.now c.in-Two.op p (c.in-Two.is ∙ ap (forms.Two c.in-Two.op) (sym c.get-pair.ensures))
    (sym (same_form types types1 c.in_ok-x-in-Two.ensures.keeps c.args.declared.now c.requires.known c.args.of c.requires.of p.right.form)
    ∙ made_none c.kind_of_term-in-Two-2.new.types c.in_ok-y-in-Two.field-0 _ c.in_ok-y-in-Two.ensures.kind c.in_default-2.not-Some)

-- The two kinds, once both are there.
both : (t : ℕ) (c : goal.After-two_kind-arg-in-Two-1 t) → IsMade c.kind_of_term-in-Two-2.new.types (Some c.in-Some-2.x) (kind_of_form (typed c.args.types.now c.args.declared.now) c.get-pair.result.now.left.form (type_at c.args.types.now c.args.of))
    × IsMade c.kind_of_term-in-Two-2.new.types (Some c.in-Some-3.y) (kind_of_form (typed c.args.types.now c.args.declared.now) c.get-pair.result.now.right.form (type_at c.args.types.now c.args.of))
both t c =
    two_made c.args.types.now c.kind_of_term-in-Two.new.types c.kind_of_term-in-Two-2.new.types c.in_ok-x-in-Two.ensures.keeps c.in_ok-y-in-Two.ensures.keeps c.args.declared.now c.requires.known c.args.of c.requires.of
    c.get-pair.result.now.left.form c.get-pair.result.now.right.form c.in_ok-x-in-Two.field-0 c.in_ok-y-in-Two.field-0 c.in-Some-2.x c.in-Some-3.y c.in-Some-2.is c.in-Some-3.is c.in_ok-x-in-Two.ensures.kind c.in_ok-y-in-Two.ensures.kind

pub two_kind-requires-clause-left : goal.two_kind-requires-clause-left
two_kind-requires-clause-left t c = (both t c).0.0

pub two_kind-requires-clause-left_bare : goal.two_kind-requires-clause-left_bare
two_kind-requires-clause-left_bare t c = form_kind _ c.get-pair.result.now.left.form _ _ (both t c).0.1

pub two_kind-requires-clause-right_bare : goal.two_kind-requires-clause-right_bare
two_kind-requires-clause-right_bare t c = form_kind _ c.get-pair.result.now.right.form _ _ (both t c).1.1

pub returns-in-Some-3-clause-kind : goal.returns-in-Some-3-clause-kind
returns-in-Some-3-clause-kind t c =
    let types = c.args.types.now in
    let made = two_made c.args.types.now c.kind_of_term-in-Two.new.types c.kind_of_term-in-Two-2.new.types c.in_ok-x-in-Two.ensures.keeps c.in_ok-y-in-Two.ensures.keeps c.args.declared.now c.requires.known c.args.of c.requires.of
    c.get-pair.result.now.left.form c.get-pair.result.now.right.form c.in_ok-x-in-Two.field-0 c.in_ok-y-in-Two.field-0 c.in-Some-2.x c.in-Some-3.y c.in-Some-2.is c.in-Some-3.is c.in_ok-x-in-Two.ensures.kind c.in_ok-y-in-Two.ensures.kind in
    subst (λ k. IfOk c.two_kind.result (λ m. IsMade c.two_kind.new.types m k))
    (two_some (type_at types c.args.of) (typed types c.args.declared.now) c.args.form.now c.in-Two.op c.get-pair.result.now _ _ (c.in-Two.is ∙ ap (forms.Two c.in-Two.op) (sym c.get-pair.ensures)) made.0.1 made.1.1)
    c.two_kind.ensures.kind

-- Three parts.
pub returns-in_default-3-clause-kind : goal.returns-in_default-3-clause-kind
returns-in_default-3-clause-kind t c =
    let types = c.args.types.now in
    if_condition (type_at types c.args.of) (typed types c.args.declared.now) c.args.form.now c.get-parts.result.now (c.in-If.is ∙ ap forms.If (sym c.get-parts.ensures))
    (made_none c.kind_of_term-in-If.new.types c.in_ok-c-in-If.field-0 _ c.in_ok-c-in-If.ensures.kind c.in_default-3.not-Some)

pub kind_of_term-requires-in-If-2 : goal.kind_of_term-requires-in-If-2
kind_of_term-requires-in-If-2 t c =
    let keeps = c.in_ok-c-in-If.ensures.keeps in
    let types = c.kind_of_term-in-If.new.types in
    let is = c.in-If.is ∙ ap forms.If (sym c.get-parts.ensures) in (
      (if_smaller c.args.form.now c.get-parts.result.now t is c.decreases).1,
      (known_kept c.args.types.now types keeps c.args.declared.now c.requires.known, kept_below c.args.types.now types keeps c.args.of c.requires.of),
    )

pub returns-in_default-4-clause-kind : goal.returns-in_default-4-clause-kind
returns-in_default-4-clause-kind t c =
    let types = c.args.types.now in
    let p = c.get-parts.result.now in
    if_yes (type_at types c.args.of) (typed types c.args.declared.now) c.args.form.now p (c.in-If.is ∙ ap forms.If (sym c.get-parts.ensures))
    (sym (same_form types c.kind_of_term-in-If.new.types c.in_ok-c-in-If.ensures.keeps c.args.declared.now c.requires.known c.args.of c.requires.of p.yes.form)
    ∙ made_none c.kind_of_term-in-If-2.new.types c.in_ok-yes-in-If.field-0 _ c.in_ok-yes-in-If.ensures.kind c.in_default-4.not-Some)

pub kind_of_term-requires-in-If-3 : goal.kind_of_term-requires-in-If-3
kind_of_term-requires-in-If-3 t c =
    let types2 = c.kind_of_term-in-If-2.new.types in
    let keeps = keeps_both c.args.types.now c.kind_of_term-in-If.new.types types2 c.in_ok-c-in-If.ensures.keeps c.in_ok-yes-in-If.ensures.keeps in
    let is = c.in-If.is ∙ ap forms.If (sym c.get-parts.ensures) in (
      (if_smaller c.args.form.now c.get-parts.result.now t is c.decreases).2,
      (known_kept c.args.types.now types2 keeps c.args.declared.now c.requires.known, kept_below c.args.types.now types2 keeps c.args.of c.requires.of),
    )

pub returns-in_default-5-clause-kind : goal.returns-in_default-5-clause-kind
returns-in_default-5-clause-kind t c =
    let types = c.args.types.now in
    let types2 = c.kind_of_term-in-If-2.new.types in
    let keeps = keeps_both types c.kind_of_term-in-If.new.types types2 c.in_ok-c-in-If.ensures.keeps c.in_ok-yes-in-If.ensures.keeps in
    let p = c.get-parts.result.now in
    if_no (type_at types c.args.of) (typed types c.args.declared.now) c.args.form.now p (c.in-If.is ∙ ap forms.If (sym c.get-parts.ensures))
    (sym (same_form types types2 keeps c.args.declared.now c.requires.known c.args.of c.requires.of p.no.form)
    ∙ made_none c.kind_of_term-in-If-3.new.types c.in_ok-no-in-If.field-0 _ c.in_ok-no-in-If.ensures.kind c.in_default-5.not-Some)

-- The three kinds, once all are there.
all : (t : ℕ) (c : goal.In-Some-6 t)
    → IsMade c.kind_of_term-in-If-3.new.types (Some c.in-Some-4.c) (kind_of_form (typed c.args.types.now c.args.declared.now) c.get-parts.result.now.condition.form (type_at c.args.types.now c.args.of))
    × IsMade c.kind_of_term-in-If-3.new.types (Some c.in-Some-5.yes) (kind_of_form (typed c.args.types.now c.args.declared.now) c.get-parts.result.now.yes.form (type_at c.args.types.now c.args.of))
    × IsMade c.kind_of_term-in-If-3.new.types (Some c.in-Some-6.no) (kind_of_form (typed c.args.types.now c.args.declared.now) c.get-parts.result.now.no.form (type_at c.args.types.now c.args.of))
all t c =
    three_made c.args.types.now c.kind_of_term-in-If.new.types c.kind_of_term-in-If-2.new.types c.in_ok-c-in-If.ensures.keeps c.in_ok-yes-in-If.ensures.keeps c.args.declared.now c.requires.known c.args.of c.requires.of
    c.kind_of_term-in-If-3.new.types c.in_ok-no-in-If.ensures.keeps c.get-parts.result.now.condition.form c.get-parts.result.now.yes.form c.get-parts.result.now.no.form c.in_ok-c-in-If.field-0 c.in_ok-yes-in-If.field-0 c.in_ok-no-in-If.field-0
    c.in-Some-4.c c.in-Some-5.yes c.in-Some-6.no c.in-Some-4.is c.in-Some-5.is c.in-Some-6.is c.in_ok-c-in-If.ensures.kind c.in_ok-yes-in-If.ensures.kind c.in_ok-no-in-If.ensures.kind

pub choice_kind-requires-clause-condition : goal.choice_kind-requires-clause-condition
choice_kind-requires-clause-condition t c = (all t c).0.0

pub choice_kind-requires-clause-yes : goal.choice_kind-requires-clause-yes
choice_kind-requires-clause-yes t c = (all t c).1.0

pub choice_kind-requires-clause-yes_bare : goal.choice_kind-requires-clause-yes_bare
choice_kind-requires-clause-yes_bare t c = form_kind _ c.get-parts.result.now.yes.form _ _ (all t c).1.1

pub choice_kind-requires-clause-no_bare : goal.choice_kind-requires-clause-no_bare
choice_kind-requires-clause-no_bare t c = form_kind _ c.get-parts.result.now.no.form _ _ (all t c).2.1

pub returns-in-Some-6-clause-kind : goal.returns-in-Some-6-clause-kind
returns-in-Some-6-clause-kind t c =
    let types = c.args.types.now in
    let made = three_made c.args.types.now c.kind_of_term-in-If.new.types c.kind_of_term-in-If-2.new.types c.in_ok-c-in-If.ensures.keeps c.in_ok-yes-in-If.ensures.keeps c.args.declared.now c.requires.known c.args.of c.requires.of
    c.kind_of_term-in-If-3.new.types c.in_ok-no-in-If.ensures.keeps c.get-parts.result.now.condition.form c.get-parts.result.now.yes.form c.get-parts.result.now.no.form c.in_ok-c-in-If.field-0 c.in_ok-yes-in-If.field-0 c.in_ok-no-in-If.field-0
    c.in-Some-4.c c.in-Some-5.yes c.in-Some-6.no c.in-Some-4.is c.in-Some-5.is c.in-Some-6.is c.in_ok-c-in-If.ensures.kind c.in_ok-yes-in-If.ensures.kind c.in_ok-no-in-If.ensures.kind in
    subst (IsMade c.kind_of_term-in-If-3.new.types c.choice_kind.result)
    (if_some (type_at types c.args.of) (typed types c.args.declared.now) c.args.form.now c.get-parts.result.now _ _ _ (c.in-If.is ∙ ap forms.If (sym c.get-parts.ensures)) made.0.1 made.1.1 made.2.1)
    c.choice_kind.ensures

-- The first calls.
pub kind_of_term-requires : goal.kind_of_term-requires
kind_of_term-requires t c =
    (one_smaller c.args.form.now c.in-One.op c.get.result.now t (c.in-One.is ∙ ap (forms.One c.in-One.op) (sym c.get.ensures)) c.decreases, (c.requires.known, c.requires.of))

pub kind_of_term-requires-in-Two : goal.kind_of_term-requires-in-Two
kind_of_term-requires-in-Two t c =
    ((two_smaller c.args.form.now c.in-Two.op c.get-pair.result.now t (c.in-Two.is ∙ ap (forms.Two c.in-Two.op) (sym c.get-pair.ensures)) c.decreases).0, (c.requires.known, c.requires.of))

pub kind_of_term-requires-in-If : goal.kind_of_term-requires-in-If
kind_of_term-requires-in-If t c =
    ((if_smaller c.args.form.now c.get-parts.result.now t (c.in-If.is ∙ ap forms.If (sym c.get-parts.ensures)) c.decreases).0, (c.requires.known, c.requires.of))
