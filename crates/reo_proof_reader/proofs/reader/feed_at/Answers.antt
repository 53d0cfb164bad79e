use Rattle.std.proofs.lemmas.List.Elements.{All-more}
use Rattle.reo_proof_texts.specs.Cuts.{IsInLine}
use Rattle.reo_proof_reader.proofs.reader.feed_at.Goals as goal

pub loop-at-preserved : goal.loop-at-preserved
loop-at-preserved c = All-more IsInLine c.args.text.now c.loop-at.at 0 c.loop-at-test.true c.loop-at.invariant c.if-byte-eq10.false

pub returns-then-byte-eq10 : goal.returns-then-byte-eq10
returns-then-byte-eq10 c = record { in_range = c.loop-at-test.true; before = c.loop-at.invariant; here = c.if-byte-eq10.true }
