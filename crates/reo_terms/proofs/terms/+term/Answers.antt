use Rattle.std.proofs.Common.{refl, sym, ◌∙◌, codes}
use Rattle.reo_values.specs.declared.operator.Binary.TheVariants as binaries
use Rattle.reo_trees.specs.Operators.{products, product_operator, sums, sum_operator}
use Rattle.reo_trees.specs.Terms.{unary_form, product_form, comparison_form, and_form}
use Rattle.reo_terms.proofs.Turns.{operator_turn, word_turn}
use Rattle.reo_terms.proofs.terms.+term.Goals as goal

pub product-product-smaller : goal.product-product-smaller
product-product-smaller t c =
    (operator_turn products product_operator unary_form refl refl c.args.room c.product.left c.in_ok-operator.operator c.in_ok-right.right c.product.cursor c.product_operator.new.cursor c.unary-in-product.new.cursor
    (sym c.product-test.ensures) c.in_ok-operator.ensures c.in_ok-right.ensures).0

pub product-product-preserved : goal.product-product-preserved
product-product-preserved t c =
    rw c.in_ok-left-2.ensures.ok
    (sym (operator_turn products product_operator unary_form refl refl c.args.room c.product.left c.in_ok-operator.operator c.in_ok-right.right c.product.cursor c.product_operator.new.cursor c.unary-in-product.new.cursor
    (sym c.product-test.ensures) c.in_ok-operator.ensures c.in_ok-right.ensures).1 ∙ c.product.invariant)

pub sum-sum-smaller : goal.sum-sum-smaller
sum-sum-smaller t c =
    (operator_turn sums sum_operator product_form refl refl c.args.room c.sum.left c.in_ok-operator.operator c.in_ok-right.right c.sum.cursor c.sum_operator.new.cursor c.product-in-sum.new.cursor
    (sym c.sum-test.ensures) c.in_ok-operator.ensures c.in_ok-right.ensures).0

pub sum-sum-preserved : goal.sum-sum-preserved
sum-sum-preserved t c =
    rw c.in_ok-left-2.ensures.ok
    (sym (operator_turn sums sum_operator product_form refl refl c.args.room c.sum.left c.in_ok-operator.operator c.in_ok-right.right c.sum.cursor c.sum_operator.new.cursor c.product-in-sum.new.cursor
    (sym c.sum-test.ensures) c.in_ok-operator.ensures c.in_ok-right.ensures).1 ∙ c.sum.invariant)

pub and_term-and_term-smaller : goal.and_term-and_term-smaller
and_term-and_term-smaller t c =
    (word_turn binaries.And (codes "&&") comparison_form refl refl c.args.room c.and_term.left c.in_ok-right.right c.and_term.cursor c.expect.new.self c.comparison-in-and_term.new.cursor
    (sym c.and_term-test.ensures) c.in_ok-expect.ensures.read c.in_ok-right.ensures).0

pub and_term-and_term-preserved : goal.and_term-and_term-preserved
and_term-and_term-preserved t c =
    rw c.in_ok-left-2.ensures.ok
    (sym (word_turn binaries.And (codes "&&") comparison_form refl refl c.args.room c.and_term.left c.in_ok-right.right c.and_term.cursor c.expect.new.self c.comparison-in-and_term.new.cursor
    (sym c.and_term-test.ensures) c.in_ok-expect.ensures.read c.in_ok-right.ensures).1 ∙ c.and_term.invariant)

pub or_term-or_term-smaller : goal.or_term-or_term-smaller
or_term-or_term-smaller t c =
    (word_turn binaries.Or (codes "||") and_form refl refl c.args.room c.or_term.left c.in_ok-right.right c.or_term.cursor c.expect.new.self c.and_term-in-or_term.new.cursor
    (sym c.or_term-test.ensures) c.in_ok-expect.ensures.read c.in_ok-right.ensures).0

pub or_term-or_term-preserved : goal.or_term-or_term-preserved
or_term-or_term-preserved t c =
    rw c.in_ok-left-2.ensures.ok
    (sym (word_turn binaries.Or (codes "||") and_form refl refl c.args.room c.or_term.left c.in_ok-right.right c.or_term.cursor c.expect.new.self c.and_term-in-or_term.new.cursor
    (sym c.or_term-test.ensures) c.in_ok-expect.ensures.read c.in_ok-right.ensures).1 ∙ c.or_term.invariant)
