use Rattle.std.proofs.Common.{arith, ◌<◌, ◌+◌, length}
use Rattle.std.proofs.lemmas.Result.{err_from_is_err_and}
use Rattle.reo_lexer.proofs.Next.{at-end, no-space, no-comment, fault-found, lead-found, finds-fault, below, few-lines, from}
use Rattle.reo_lexer.proofs.lexer.next_token.Goals as goal

pub returns-then-start-text : goal.returns-then-start-text
returns-then-start-text c = record { found = at-end c.args.text.now c.args.at c.args.line c.gap_length-gap.result c.requires.within c.gap_length-gap.ensures.rest c.if-start-text.true }

pub front_of-requires-clause-no_space : goal.front_of-requires-clause-no_space
front_of-requires-clause-no_space c = no-space c.args.text.now c.args.at c.args.line c.gap_length-gap.result c.requires.within c.gap_length-gap.ensures.rest
    (below c.args.text.now c.args.at c.gap_length-gap.result c.requires.within c.gap_length-gap.ensures.within c.if-start-text.false)

pub front_of-requires-clause-no_comment : goal.front_of-requires-clause-no_comment
front_of-requires-clause-no_comment c = no-comment c.args.text.now c.args.at c.args.line c.gap_length-gap.result c.requires.within c.gap_length-gap.ensures.rest
    (below c.args.text.now c.args.at c.gap_length-gap.result c.requires.within c.gap_length-gap.ensures.within c.if-start-text.false)

pub returns-in_err-front : goal.returns-in_err-front
returns-in_err-front c =
    let p = err_from_is_err_and c.from_residual.result c.from_residual.ensures.1 in
    rw (p.1, p.2) (record {
      found = finds-fault c.args.text.now c.args.at c.args.line c.in_err-front.field-0.0
          (fault-found c.args.text.now c.args.at c.args.line c.gap_length-gap.result c.requires.within c.gap_length-gap.ensures.rest
          (below c.args.text.now c.args.at c.gap_length-gap.result c.requires.within c.gap_length-gap.ensures.within c.if-start-text.false)
          c.lines_in.result c.lines_in.ensures.count c.in_err-front.field-0.0 c.in_err-front.ensures.err);
    })

pub returns : goal.returns
returns c =
    let below_end : c.args.at + c.gap_length-gap.result < length c.args.text.now
    = below c.args.text.now c.args.at c.gap_length-gap.result c.requires.within c.gap_length-gap.ensures.within c.if-start-text.false in
    let f = lead-found c.args.text.now c.args.at c.args.line c.gap_length-gap.result c.requires.within c.gap_length-gap.ensures.rest below_end
    c.lines_in.result c.lines_in.ensures.count c.in_ok-front.front.kind c.in_ok-front.front.length c.in_ok-front.ensures.ok in
    record { found = (f.0, omega (arith, f.1), f.2, omega (arith, few-lines c.lines_in.result c.gap_length-gap.result (from c.args.text.now c.args.at) c.lines_in.ensures.few)) }
