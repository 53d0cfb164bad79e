use Rattle.std.proofs.Common.{◌+◌, ◌<◌, ◌≤◌, take, get_or, arith}
use Rattle.reo_grammar.specs.declared.kind.TokenKind.TheVariants as kinds
use Rattle.reo_lexer.specs.Lexing.{lexeme_of, lexemes_of}
use Rattle.reo_cursor.specs.Reading.{lexeme_seen}
use Rattle.reo_terms.proofs.Counts.{operators-small, above-yes, above-no}
use Rattle.reo_parser.proofs.Fronts.{take-next, nowhere-none, nowhere-more, lexemes-length}
use Rattle.reo_trees.specs.SaysTwo.{IsDeepTwo}
use Rattle.reo_parser.specs.two.LoopDepth.{Deepens}
use Rattle.reo_parser.proofs.two.Loops.{deepens-next}
use Rattle.reo_parser.proofs.two.depth.first_deep.Goals as goal

pub loop-place-init : goal.loop-place-init
loop-place-init c = record { counts = c.new-depth.ensures; below = nowhere-none IsDeepTwo }

pub after-depth-requires-clause-operators : goal.after-depth-requires-clause-operators
after-depth-requires-clause-operators c =
    let h : c.loop-place.depth.levels.operators ≤ c.loop-place.place
    = operators-small c.args.text.now c.args.tokens.now c.loop-place.place c.loop-place.depth.levels c.loop-place.invariant.counts.levels in
    let i : c.loop-place.place < 4294967296 = omega arith in
    omega arith

pub is_deep-requires-clause-operators : goal.is_deep-requires-clause-operators
is_deep-requires-clause-operators c =
    let n : Deepens c.after-depth.result (take (c.loop-place.place + 1) (lexemes_of c.args.text.now c.args.tokens.now))
    = deepens-next c.args.text.now c.args.tokens.now c.loop-place.place (record { kind = kinds.Name; start = 0; end = 0; line = 0 }) c.loop-place.depth c.after-depth.result (lexeme_seen c.seen_of.result)
    c.loop-place-test.true c.seen_of.ensures c.loop-place.invariant.counts c.after-depth.ensures in
    let h : c.after-depth.result.levels.operators ≤ c.loop-place.place + 1
    = operators-small c.args.text.now c.args.tokens.now (c.loop-place.place + 1) c.after-depth.result.levels n.levels in
    let i : c.loop-place.place < 4294967296 = omega arith in
    omega arith

pub returns-then-is_deep : goal.returns-then-is_deep
returns-then-is_deep c =
    let n : Deepens c.after-depth.result (take (c.loop-place.place + 1) (lexemes_of c.args.text.now c.args.tokens.now))
    = deepens-next c.args.text.now c.args.tokens.now c.loop-place.place (record { kind = kinds.Name; start = 0; end = 0; line = 0 }) c.loop-place.depth c.after-depth.result (lexeme_seen c.seen_of.result)
    c.loop-place-test.true c.seen_of.ensures c.loop-place.invariant.counts c.after-depth.ensures in
    let p : IsDeepTwo (take (c.loop-place.place + 1) (lexemes_of c.args.text.now c.args.tokens.now))
    = above-yes c.is_deep.result (IsDeepTwo (take (c.loop-place.place + 1) (lexemes_of c.args.text.now c.args.tokens.now)))
    (c.is_deep.ensures (take (c.loop-place.place + 1) (lexemes_of c.args.text.now c.args.tokens.now)) n) c.if-is_deep.true in
    (omega (arith, lexemes-length c.args.text.now c.args.tokens.now), p, c.loop-place.invariant.below)

pub loop-place-preserved : goal.loop-place-preserved
loop-place-preserved c =
    let n : Deepens c.after-depth.result (take (c.loop-place.place + 1) (lexemes_of c.args.text.now c.args.tokens.now))
    = deepens-next c.args.text.now c.args.tokens.now c.loop-place.place (record { kind = kinds.Name; start = 0; end = 0; line = 0 }) c.loop-place.depth c.after-depth.result (lexeme_seen c.seen_of.result)
    c.loop-place-test.true c.seen_of.ensures c.loop-place.invariant.counts c.after-depth.ensures in
    let e = take-next c.args.text.now c.args.tokens.now c.loop-place.place (record { kind = kinds.Name; start = 0; end = 0; line = 0 }) c.loop-place-test.true in
    record {
      counts = n;
      below = rw e
          (nowhere-more IsDeepTwo (take c.loop-place.place (lexemes_of c.args.text.now c.args.tokens.now)) (lexeme_of c.args.text.now (get_or c.args.tokens.now c.loop-place.place (record { kind = kinds.Name; start = 0; end = 0; line = 0 })))
          c.loop-place.invariant.below
          (rw (← e)
          (above-no c.is_deep.result (IsDeepTwo (take (c.loop-place.place + 1) (lexemes_of c.args.text.now c.args.tokens.now)))
          (c.is_deep.ensures (take (c.loop-place.place + 1) (lexemes_of c.args.text.now c.args.tokens.now)) n) c.if-is_deep.false)));
    }
