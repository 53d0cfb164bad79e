use Rattle.std.proofs.Common.{◌+◌, ◌<◌, ◌≡◌, ◌∙◌, true, false, not, ◌&&◌, ◌||◌, ap, sym, subst, refl, rules, arith}
use Rattle.std.specs.Prelude.{if◌then◌else◌}
use Rattle.std.specs.Int.{w64}
use Rattle.std.proofs.lemmas.Int.{to_z-of_z}
use Rattle.reo_values.specs.declared.operator.Binary.TheVariants as binary
use Rattle.reo_values.specs.declared.kindred.Kindred.TheVariants as kinds
use Rattle.reo_values.specs.declared.value.Value.TheVariants as values
use Rattle.reo_values.specs.Pair.{left_of, right_of}
use Rattle.reo_exprs.specs.declared.expr.Expr.TheVariants as exprs
use Rattle.reo_exprs.specs.Interval.{is_near}
use Rattle.reo_exprs.specs.Typing.{IsTyped, may_stand_right}
use Rattle.reo_exprs.specs.Valued.{truth, number, same_value, unary_value, binary_value, value_of_expr}
use Rattle.reo_exprs.specs.Views.{value_of_view, work, work_of_view}
use Rattle.reo_exprs.proofs.Children.{typed_operand, typed_operands, typed_parts, near_value}
use Rattle.reo_exprs.proofs.Same.{test_told, same_flip}
use Rattle.reo_exprs.proofs.Seen.{one_work, two_work, if_work, by_numbers, divisor_fits, result_near, waiting_left, waiting_right, waiting_same, waiting_other, seen_pair, both_waiting}
use Rattle.reo_exprs.proofs.Trees.{value-One, value-Two, value-If}
use Rattle.reo_exprs.proofs.view.+seeing.Goals as goal

pub view_of-view_of-requires : goal.view_of-view_of-requires
view_of-view_of-requires t c =
    let is = c.in-One.is ∙ ap (λ x. exprs.One c.in-One.op x) (sym c.get.ensures) in
    let more = one_work c.args.expr.now c.in-One.op c.get.result.now is in
    (subst (λ n. work c.get.result.now < n) c.decreases (omega arith), (typed_operand c.args.expr.now c.args.of.now c.requires.typed c.in-One.op c.get.result.now is, c.requires.member))

pub view_of-one_view-requires : goal.view_of-one_view-requires
view_of-one_view-requires t c =
    let is = c.in-One.is ∙ ap (λ x. exprs.One c.in-One.op x) (sym c.get.ensures) in
    let more = one_work c.args.expr.now c.in-One.op c.get.result.now is in
    let less = c.view_of.ensures.work in
    let close = near_value c.get.result.now c.args.of.now (typed_operand c.args.expr.now c.args.of.now c.requires.typed c.in-One.op c.get.result.now is) c.args.item.now c.requires.member in
    (subst (λ n. work_of_view c.view_of.result + 1 < n) c.decreases (omega arith), (c.view_of.ensures.typed, (subst (λ v. is_near (number v) ≡ true) (sym c.view_of.ensures.value) close, c.requires.member)))

pub view_of-two_view-requires : goal.view_of-two_view-requires
view_of-two_view-requires t c =
    let is = c.in-Two.is ∙ ap (λ p. exprs.Two c.in-Two.op p) (sym c.get-pair.ensures) in
    let more = two_work c.args.expr.now c.in-Two.op c.get-pair.result.now is in
    (subst (λ n. work c.get-pair.result.now.left + work c.get-pair.result.now.right + 2 < n) c.decreases (omega arith), (c.in_default.not-Pair, (subst (λ e. IsTyped e c.args.of.now) is c.requires.typed, c.requires.member)))

pub view_of-view_of-requires-in-If : goal.view_of-view_of-requires-in-If
view_of-view_of-requires-in-If t c =
    let is = c.in-If.is ∙ ap exprs.If (sym c.get-parts.ensures) in
    let more = if_work c.args.expr.now c.get-parts.result.now is in
    (subst (λ n. work c.get-parts.result.now.condition < n) c.decreases (omega arith), ((typed_parts c.args.expr.now c.args.of.now c.requires.typed c.get-parts.result.now is).0, c.requires.member))

pub view_of-view_of-requires-then-truth : goal.view_of-view_of-requires-then-truth
view_of-view_of-requires-then-truth t c =
    let is = c.in-If.is ∙ ap exprs.If (sym c.get-parts.ensures) in
    let more = if_work c.args.expr.now c.get-parts.result.now is in
    (subst (λ n. work c.get-parts.result.now.yes < n) c.decreases (omega arith), ((typed_parts c.args.expr.now c.args.of.now c.requires.typed c.get-parts.result.now is).1, c.requires.member))

pub view_of-view_of-requires-else-truth : goal.view_of-view_of-requires-else-truth
view_of-view_of-requires-else-truth t c =
    let is = c.in-If.is ∙ ap exprs.If (sym c.get-parts.ensures) in
    let more = if_work c.args.expr.now c.get-parts.result.now is in
    (subst (λ n. work c.get-parts.result.now.no < n) c.decreases (omega arith), ((typed_parts c.args.expr.now c.args.of.now c.requires.typed c.get-parts.result.now is).2, c.requires.member))

pub view_of-returns-in-One-clause-value : goal.view_of-returns-in-One-clause-value
view_of-returns-in-One-clause-value t c =
    let is = c.in-One.is ∙ ap (λ x. exprs.One c.in-One.op x) (sym c.get.ensures) in
    c.one_view.ensures.value ∙ ap (λ v. unary_value c.in-One.op v) c.view_of.ensures.value ∙ sym (value-One c.in-One.op c.get.result.now c.args.item.now) ∙ sym (ap (λ e. value_of_expr e c.args.item.now) is)

pub view_of-returns-in-One-clause-work : goal.view_of-returns-in-One-clause-work
view_of-returns-in-One-clause-work t c =
    let is = c.in-One.is ∙ ap (λ x. exprs.One c.in-One.op x) (sym c.get.ensures) in
    let more = one_work c.args.expr.now c.in-One.op c.get.result.now is in
    let less = c.view_of.ensures.work in
    let next = c.one_view.ensures.work in
    omega arith

pub view_of-returns-in-Pair-clause-value : goal.view_of-returns-in-Pair-clause-value
view_of-returns-in-Pair-clause-value t c =
    let is = c.in-Two.is ∙ ap (λ p. exprs.Two c.in-Two.op p) (sym c.get-pair.ensures) in
    sym (value-Two binary.Pair c.get-pair.result.now c.args.item.now) ∙ sym (ap (λ o. value_of_expr (exprs.Two o c.get-pair.result.now) c.args.item.now) c.in-Pair.is) ∙ sym (ap (λ e. value_of_expr e c.args.item.now) is)

pub view_of-returns-in-Pair-clause-typed : goal.view_of-returns-in-Pair-clause-typed
view_of-returns-in-Pair-clause-typed t c =
    let is = c.in-Two.is ∙ ap (λ p. exprs.Two c.in-Two.op p) (sym c.get-pair.ensures) in
    typed_operands c.args.expr.now c.args.of.now c.requires.typed c.in-Two.op c.get-pair.result.now is

pub view_of-returns-in-Pair-clause-work : goal.view_of-returns-in-Pair-clause-work
view_of-returns-in-Pair-clause-work t c =
    let is = c.in-Two.is ∙ ap (λ p. exprs.Two c.in-Two.op p) (sym c.get-pair.ensures) in
    let more = two_work c.args.expr.now c.in-Two.op c.get-pair.result.now is in
    omega arith

pub view_of-returns-then-truth-clause-value : goal.view_of-returns-then-truth-clause-value
view_of-returns-then-truth-clause-value t c =
    let is = c.in-If.is ∙ ap exprs.If (sym c.get-parts.ensures) in
    let test : true ≡ truth (value_of_expr c.get-parts.result.now.condition c.args.item.now) = c.if-truth.ensures ∙ ap truth c.view_of-in-If.ensures.value in
    c.view_of-then-truth.ensures.value ∙ ap (λ b. if b then value_of_expr c.get-parts.result.now.yes c.args.item.now else value_of_expr c.get-parts.result.now.no c.args.item.now) test ∙ sym (value-If c.get-parts.result.now c.args.item.now) ∙ sym (ap (λ e. value_of_expr e c.args.item.now) is)

pub view_of-returns-then-truth-clause-work : goal.view_of-returns-then-truth-clause-work
view_of-returns-then-truth-clause-work t c =
    let is = c.in-If.is ∙ ap exprs.If (sym c.get-parts.ensures) in
    let more = if_work c.args.expr.now c.get-parts.result.now is in
    let less = c.view_of-then-truth.ensures.work in
    omega arith

pub view_of-returns-else-truth-clause-value : goal.view_of-returns-else-truth-clause-value
view_of-returns-else-truth-clause-value t c =
    let is = c.in-If.is ∙ ap exprs.If (sym c.get-parts.ensures) in
    let test : false ≡ truth (value_of_expr c.get-parts.result.now.condition c.args.item.now) = c.if-truth.ensures ∙ ap truth c.view_of-in-If.ensures.value in
    c.view_of-else-truth.ensures.value ∙ ap (λ b. if b then value_of_expr c.get-parts.result.now.yes c.args.item.now else value_of_expr c.get-parts.result.now.no c.args.item.now) test ∙ sym (value-If c.get-parts.result.now c.args.item.now) ∙ sym (ap (λ e. value_of_expr e c.args.item.now) is)

pub view_of-returns-else-truth-clause-work : goal.view_of-returns-else-truth-clause-work
view_of-returns-else-truth-clause-work t c =
    let is = c.in-If.is ∙ ap exprs.If (sym c.get-parts.ensures) in
    let more = if_work c.args.expr.now c.get-parts.result.now is in
    let less = c.view_of-else-truth.ensures.work in
    omega arith

pub one_view-returns-in-Pair-clause-value : goal.one_view-returns-in-Pair-clause-value
one_view-returns-in-Pair-clause-value t c =
    c.view_of.ensures.value ∙ sym (waiting_left c.args.x c.in-Pair.pair c.args.item.now c.in-Pair.is) ∙ sym (ap (λ o. unary_value o (value_of_view c.args.x c.args.item.now)) c.in-First.is)

pub one_view-returns-in-Pair-x-clause-value : goal.one_view-returns-in-Pair-x-clause-value
one_view-returns-in-Pair-x-clause-value t c =
    c.view_of-in-Pair-x.ensures.value ∙ sym (waiting_right c.args.x c.in-Pair-x.pair c.args.item.now c.in-Pair-x.is) ∙ sym (ap (λ o. unary_value o (value_of_view c.args.x c.args.item.now)) c.in-Second.is)

pub one_view-returns-in-Item-clause-value : goal.one_view-returns-in-Item-clause-value
one_view-returns-in-Item-clause-value t c =
    c.left_part.ensures ∙ sym (ap (λ v. left_of (value_of_view v c.args.item.now)) c.in-Item.is) ∙ sym (ap (λ o. unary_value o (value_of_view c.args.x c.args.item.now)) c.in-First.is)

pub one_view-returns-in-Item-x-clause-value : goal.one_view-returns-in-Item-x-clause-value
one_view-returns-in-Item-x-clause-value t c =
    c.right_part.ensures ∙ sym (ap (λ v. right_of (value_of_view v c.args.item.now)) c.in-Item-x.is) ∙ sym (ap (λ o. unary_value o (value_of_view c.args.x c.args.item.now)) c.in-Second.is)

pub is_item-returns-in-Item-default : goal.is_item-returns-in-Item-default
is_item-returns-in-Item-default t c =
    test_told c.same_item.result c.in-Item-default.part.now c.args.value.now c.same_item.ensures ∙ sym (ap (λ v. same_value (value_of_view v c.args.item.now) c.args.value.now) c.in-Item-default.is-0)

pub is_item-returns-then-is_item : goal.is_item-returns-then-is_item
is_item-returns-then-is_item t c =
    let whole = waiting_same c.args.x c.in-Pair-Pair.pair c.args.value.now c.get-couple.result.now c.args.item.now c.in-Pair-Pair.is-0 (c.in-Pair-Pair.is-1 ∙ ap values.Pair (sym c.get-couple.ensures)) in
    let left : same_value (value_of_expr c.in-Pair-Pair.pair.now.left c.args.item.now) c.get-couple.result.now.left ≡ true = sym (c.if-is_item.ensures ∙ ap (λ v. same_value v c.get-couple.result.now.left) c.view_of.ensures.value) in
    c.is_item-then-is_item.ensures ∙ ap (λ v. same_value v c.get-couple.result.now.right) c.view_of-then-is_item.ensures.value
    ∙ (λ i. sym left i && same_value (value_of_expr c.in-Pair-Pair.pair.now.right c.args.item.now) c.get-couple.result.now.right) ∙ sym whole

pub is_item-returns-else-is_item : goal.is_item-returns-else-is_item
is_item-returns-else-is_item t c =
    let whole = waiting_same c.args.x c.in-Pair-Pair.pair c.args.value.now c.get-couple.result.now c.args.item.now c.in-Pair-Pair.is-0 (c.in-Pair-Pair.is-1 ∙ ap values.Pair (sym c.get-couple.ensures)) in
    let left : same_value (value_of_expr c.in-Pair-Pair.pair.now.left c.args.item.now) c.get-couple.result.now.left ≡ false = sym (c.if-is_item.ensures ∙ ap (λ v. same_value v c.get-couple.result.now.left) c.view_of.ensures.value) in
    c.if-is_item.false ∙ (λ i. sym left i && same_value (value_of_expr c.in-Pair-Pair.pair.now.right c.args.item.now) c.get-couple.result.now.right) ∙ sym whole

pub is_item-returns-in_default-6 : goal.is_item-returns-in_default-6
is_item-returns-in_default-6 t c =
    sym (waiting_other c.args.x c.in_default.field-0-0 c.args.value.now c.args.item.now c.in_default.is-0 c.in_default.not-Pair-1)

pub same_made-returns-then-not-same_view : goal.same_made-returns-then-not-same_view
same_made-returns-then-not-same_view t c =
    let left : false ≡ same_value (value_of_expr c.in-Pair-Pair.a.now.left c.args.item.now) (value_of_expr c.in-Pair-Pair.b.now.left c.args.item.now) = c.if-not-same_view.ensures ∙ (λ i. same_value (c.view_of-left.ensures.value i) (c.view_of-other.ensures.value i)) in
    (λ i. left i && same_value (value_of_expr c.in-Pair-Pair.a.now.right c.args.item.now) (value_of_expr c.in-Pair-Pair.b.now.right c.args.item.now)) ∙ sym (both_waiting c.args.x c.args.y c.in-Pair-Pair.a c.in-Pair-Pair.b c.args.item.now c.in-Pair-Pair.is-0 c.in-Pair-Pair.is-1)

pub same_made-returns-else-not-same_view : goal.same_made-returns-else-not-same_view
same_made-returns-else-not-same_view t c =
    let left : true ≡ same_value (value_of_expr c.in-Pair-Pair.a.now.left c.args.item.now) (value_of_expr c.in-Pair-Pair.b.now.left c.args.item.now) = c.if-not-same_view.ensures ∙ (λ i. same_value (c.view_of-left.ensures.value i) (c.view_of-other.ensures.value i)) in
    c.same_view-in-Pair-Pair.ensures ∙ (λ i. same_value (c.view_of-right.ensures.value i) (c.view_of-other-in-Pair-Pair.ensures.value i))
    ∙ (λ i. left i && same_value (value_of_expr c.in-Pair-Pair.a.now.right c.args.item.now) (value_of_expr c.in-Pair-Pair.b.now.right c.args.item.now)) ∙ sym (both_waiting c.args.x c.args.y c.in-Pair-Pair.a c.in-Pair-Pair.b c.args.item.now c.in-Pair-Pair.is-0 c.in-Pair-Pair.is-1)

pub same_made-returns-in_default-6 : goal.same_made-returns-in_default-6
same_made-returns-in_default-6 t c =
    sym (waiting_other c.args.x c.in_default.field-0-0 (value_of_view c.args.y c.args.item.now) c.args.item.now c.in_default.is-0 (seen_pair c.args.y c.args.item.now c.requires.right_made c.in_default.not-Pair-1))

pub same_view-returns-in-Item : goal.same_view-returns-in-Item
same_view-returns-in-Item t c =
    c.is_item.ensures ∙ same_flip (value_of_view c.args.y c.args.item.now) c.in-Item.part.now ∙ sym (ap (λ v. same_value (value_of_view v c.args.item.now) (value_of_view c.args.y c.args.item.now)) c.in-Item.is)

pub two_view-view_of-x-requires : goal.two_view-view_of-x-requires
two_view-view_of-x-requires t c =
    (subst (λ n. work c.args.pair.now.left < n) c.decreases (omega arith), ((typed_operands (exprs.Two c.args.op c.args.pair.now) c.args.of.now c.requires.typed c.args.op c.args.pair.now refl).0, c.requires.member))

pub two_view-view_of-y-requires : goal.two_view-view_of-y-requires
two_view-view_of-y-requires t c =
    (subst (λ n. work c.args.pair.now.right < n) c.decreases (omega arith), ((typed_operands (exprs.Two c.args.op c.args.pair.now) c.args.of.now c.requires.typed c.args.op c.args.pair.now refl).1, c.requires.member))

pub two_view-returns-in-Or-clause-value : goal.two_view-returns-in-Or-clause-value
two_view-returns-in-Or-clause-value t c =
    ap values.Bool (c.either.ensures ∙ (λ i. c.truth.ensures i || c.truth-in-Or.ensures i)) ∙ (λ i. binary_value (sym c.in-Or.is i) (c.view_of-x.ensures.value i) (c.view_of-y.ensures.value i)) ∙ sym (value-Two c.args.op c.args.pair.now c.args.item.now)

pub two_view-returns-in-And-clause-value : goal.two_view-returns-in-And-clause-value
two_view-returns-in-And-clause-value t c =
    ap values.Bool (c.both.ensures ∙ (λ i. c.truth-in-And.ensures i && c.truth-in-And-2.ensures i)) ∙ (λ i. binary_value (sym c.in-And.is i) (c.view_of-x.ensures.value i) (c.view_of-y.ensures.value i)) ∙ sym (value-Two c.args.op c.args.pair.now c.args.item.now)

pub two_view-returns-in-Eq-clause-value : goal.two_view-returns-in-Eq-clause-value
two_view-returns-in-Eq-clause-value t c =
    ap values.Bool c.same_view.ensures ∙ (λ i. binary_value (sym c.in-Eq.is i) (c.view_of-x.ensures.value i) (c.view_of-y.ensures.value i)) ∙ sym (value-Two c.args.op c.args.pair.now c.args.item.now)

pub two_view-returns-in-Ne-clause-value : goal.two_view-returns-in-Ne-clause-value
two_view-returns-in-Ne-clause-value t c =
    ap (λ b. values.Bool (not b)) c.same_view-in-Ne.ensures ∙ (λ i. binary_value (sym c.in-Ne.is i) (c.view_of-x.ensures.value i) (c.view_of-y.ensures.value i)) ∙ sym (value-Two c.args.op c.args.pair.now c.args.item.now)

pub two_view-calculated-requires : goal.two_view-calculated-requires
two_view-calculated-requires t c =
    let x = to_z-of_z w64 c.number.result (search rules) ∙ (c.number.ensures ∙ ap number c.view_of-x.ensures.value) in
    let y = to_z-of_z w64 c.number-in_default.result (search rules) ∙ (c.number-in_default.ensures ∙ ap number c.view_of-y.ensures.value) in
    record {
      apart = c.requires.apart;
      fits = ap (λ v. is_near (number v)) ((λ i. binary_value c.args.op (values.Int (x i)) (values.Int (y i))) ∙ by_numbers c.args.op (value_of_expr c.args.pair.now.left c.args.item.now) (value_of_expr c.args.pair.now.right c.args.item.now) c.in_default.not-Or c.in_default.not-And c.in_default.not-Eq c.in_default.not-Ne c.requires.apart) ∙ result_near c.args.op c.args.pair.now c.args.of.now c.args.item.now c.requires.typed c.requires.member;
      divisor = (λ i. may_stand_right c.args.op (kinds.Int (y i) (y i))) ∙ divisor_fits c.args.op c.args.pair.now c.args.of.now c.args.item.now c.requires.typed c.requires.member;
    }

pub two_view-returns-in_default : goal.two_view-returns-in_default
two_view-returns-in_default t c =
    let x = to_z-of_z w64 c.number.result (search rules) ∙ (c.number.ensures ∙ ap number c.view_of-x.ensures.value) in
    let y = to_z-of_z w64 c.number-in_default.result (search rules) ∙ (c.number-in_default.ensures ∙ ap number c.view_of-y.ensures.value) in
    record {
      value = c.calculated.ensures.value c.args.item.now ∙ (λ i. binary_value c.args.op (values.Int (x i)) (values.Int (y i))) ∙ by_numbers c.args.op (value_of_expr c.args.pair.now.left c.args.item.now) (value_of_expr c.args.pair.now.right c.args.item.now) c.in_default.not-Or c.in_default.not-And c.in_default.not-Eq c.in_default.not-Ne c.requires.apart ∙ sym (value-Two c.args.op c.args.pair.now c.args.item.now);
      typed = c.calculated.ensures.typed c.args.of.now;
      work = c.calculated.ensures.work;
    }
