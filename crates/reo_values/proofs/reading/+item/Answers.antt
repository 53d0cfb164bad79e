use Rattle.std.proofs.Common.{◌∙◌, ◌<◌, ap, subst, sym, Ok, Err}
use Rattle.reo_values.proofs.Pairs.{levels}
use Rattle.reo_values.specs.declared.kindred.Kindred.TheVariants as kinds
use Rattle.reo_values.proofs.Again.{words_again, HasWords-other, reads_err, reads_none, pair_valid, pair_deeper, pair_parts, pair_found, left_reads, right_reads, pair_reads}
use Rattle.reo_values.proofs.reading.+item.Goals as goal

pub word_item-requires : goal.word_item-requires
word_item-requires t c = record { valid = c.requires; words = HasWords-other c.args.kindred.now c.in_default.not-Text c.in_default.not-Pair }

pub returns-in_default-clause-again : goal.returns-in_default-clause-again
returns-in_default-clause-again t c =
    words_again c.word_item.result c.word.result.now c.args.reader.now c.word.new.self c.args.kindred.now c.requires
    (HasWords-other c.args.kindred.now c.in_default.not-Text c.in_default.not-Pair)
    c.word.ensures.all c.word.ensures.word c.word.ensures.ends c.word_item.ensures.found c.word_item.ensures.none

pub item-requires : goal.item-requires
item-requires t c =
    let is = c.in-Pair.is ∙ ap kinds.Pair (sym c.get-twins.ensures) in (
      subst (λ n. levels c.get-twins.result.now.left < n) c.decreases (pair_deeper c.args.kindred.now c.get-twins.result.now is).0,
      (pair_valid c.args.kindred.now c.get-twins.result.now is c.requires).0,
    )

pub item-requires-in-Pair : goal.item-requires-in-Pair
item-requires-in-Pair t c =
    let is = c.in-Pair.is ∙ ap kinds.Pair (sym c.get-twins.ensures) in (
      subst (λ n. levels c.get-twins.result.now.right < n) c.decreases (pair_deeper c.args.kindred.now c.get-twins.result.now is).1,
      (pair_valid c.args.kindred.now c.get-twins.result.now is c.requires).1,
    )

pub returns-in_err-expect-in-Pair-clause-again : goal.returns-in_err-expect-in-Pair-clause-again
returns-in_err-expect-in-Pair-clause-again t c item rest h ends e =
    let is = c.in-Pair.is ∙ ap kinds.Pair (sym c.get-twins.ensures) in
    let parts = pair_parts c.args.kindred.now c.get-twins.result.now c.args.reader.now is item rest h e in
    reads_err c.from_residual.result c.in_err-expect-in-Pair.field-0.0 _ item rest c.from_residual.ensures
    (λ fault. c.in_err-expect-in-Pair.ensures.none (ap Err fault) _ parts.4)

pub returns-in_err-left-in-Pair-clause-again : goal.returns-in_err-left-in-Pair-clause-again
returns-in_err-left-in-Pair-clause-again t c item rest h ends e =
    let is = c.in-Pair.is ∙ ap kinds.Pair (sym c.get-twins.ensures) in
    let left = left_reads c.args.kindred.now c.get-twins.result.now c.args.reader.now is item rest h e c.expect.new.self c.item.new.reader (Err c.in_err-left-in-Pair.field-0.0)
    c.in_ok-expect-in-Pair.ensures.found c.in_err-left-in-Pair.ensures.again in
    reads_err c.from_residual-in_err-left-in-Pair.result c.in_err-left-in-Pair.field-0.0 _ item rest c.from_residual-in_err-left-in-Pair.ensures (reads_none _ _ _ _ left)

pub returns-in_err-expect-in-Pair-2-clause-again : goal.returns-in_err-expect-in-Pair-2-clause-again
returns-in_err-expect-in-Pair-2-clause-again t c item rest h ends e =
    let is = c.in-Pair.is ∙ ap kinds.Pair (sym c.get-twins.ensures) in
    let left = left_reads c.args.kindred.now c.get-twins.result.now c.args.reader.now is item rest h e c.expect.new.self c.item.new.reader (Ok c.in_ok-left-in-Pair.left)
    c.in_ok-expect-in-Pair.ensures.found c.in_ok-left-in-Pair.ensures.again in
    reads_err c.from_residual-in_err-expect-in-Pair-2.result c.in_err-expect-in-Pair-2.field-0.0 _ item rest c.from_residual-in_err-expect-in-Pair-2.ensures
    (λ fault. c.in_err-expect-in-Pair-2.ensures.none (ap Err fault) _ left.1)

pub returns-in_err-right-in-Pair-clause-again : goal.returns-in_err-right-in-Pair-clause-again
returns-in_err-right-in-Pair-clause-again t c item rest h ends e =
    let is = c.in-Pair.is ∙ ap kinds.Pair (sym c.get-twins.ensures) in
    let right = right_reads c.args.kindred.now c.get-twins.result.now c.args.reader.now is item rest h e c.expect.new.self c.item.new.reader c.expect-in-Pair.new.self c.item-in-Pair.new.reader
    c.in_ok-left-in-Pair.left (Err c.in_err-right-in-Pair.field-0.0)
    c.in_ok-expect-in-Pair.ensures.found c.in_ok-left-in-Pair.ensures.again c.in_ok-expect-in-Pair-2.ensures.found c.in_err-right-in-Pair.ensures.again in
    reads_err c.from_residual-in_err-right-in-Pair.result c.in_err-right-in-Pair.field-0.0 _ item rest c.from_residual-in_err-right-in-Pair.ensures (reads_none _ _ _ _ right)

pub returns-in_err-expect-in-Pair-3-clause-again : goal.returns-in_err-expect-in-Pair-3-clause-again
returns-in_err-expect-in-Pair-3-clause-again t c item rest h ends e =
    let is = c.in-Pair.is ∙ ap kinds.Pair (sym c.get-twins.ensures) in
    let right = right_reads c.args.kindred.now c.get-twins.result.now c.args.reader.now is item rest h e c.expect.new.self c.item.new.reader c.expect-in-Pair.new.self c.item-in-Pair.new.reader
    c.in_ok-left-in-Pair.left (Ok c.in_ok-right-in-Pair.right)
    c.in_ok-expect-in-Pair.ensures.found c.in_ok-left-in-Pair.ensures.again c.in_ok-expect-in-Pair-2.ensures.found c.in_ok-right-in-Pair.ensures.again in
    reads_err c.from_residual-in_err-expect-in-Pair-3.result c.in_err-expect-in-Pair-3.field-0.0 _ item rest c.from_residual-in_err-expect-in-Pair-3.ensures
    (λ fault. c.in_err-expect-in-Pair-3.ensures.none (ap Err fault) _ right.1)

pub returns-in_ok-couple-in-Pair-clause-found : goal.returns-in_ok-couple-in-Pair-clause-found
returns-in_ok-couple-in-Pair-clause-found t c =
    let is = c.in-Pair.is ∙ ap kinds.Pair (sym c.get-twins.ensures) in
    pair_found c.args.kindred.now c.get-twins.result.now c.args.reader.now is c.in_ok-couple-in-Pair.couple c.in_ok-left-in-Pair.left c.in_ok-right-in-Pair.right
    c.expect.new.self c.item.new.reader c.expect-in-Pair.new.self c.item-in-Pair.new.reader c.expect-in-Pair-2.new.self
    c.in_ok-couple-in-Pair.ensures c.in_ok-left-in-Pair.ensures.found.0 c.in_ok-right-in-Pair.ensures.found.0
    c.in_ok-expect-in-Pair.ensures.found c.in_ok-left-in-Pair.ensures.found.1 c.in_ok-expect-in-Pair-2.ensures.found c.in_ok-right-in-Pair.ensures.found.1 c.in_ok-expect-in-Pair-3.ensures.found

pub returns-in_ok-couple-in-Pair-clause-again : goal.returns-in_ok-couple-in-Pair-clause-again
returns-in_ok-couple-in-Pair-clause-again t c item rest h ends e =
    let is = c.in-Pair.is ∙ ap kinds.Pair (sym c.get-twins.ensures) in
    pair_reads c.args.kindred.now c.get-twins.result.now c.args.reader.now is item rest h e c.in_ok-couple-in-Pair.couple c.in_ok-left-in-Pair.left c.in_ok-right-in-Pair.right
    c.expect.new.self c.item.new.reader c.expect-in-Pair.new.self c.item-in-Pair.new.reader c.expect-in-Pair-2.new.self
    c.in_ok-couple-in-Pair.ensures c.in_ok-expect-in-Pair.ensures.found c.in_ok-left-in-Pair.ensures.again c.in_ok-expect-in-Pair-2.ensures.found c.in_ok-right-in-Pair.ensures.again
    c.in_ok-expect-in-Pair-3.ensures.found
