-- One more has passed.
use Rattle.std.proofs.Common.{◌≡◌, rules, false, arith}
use Rattle.reo_players.proofs.PacedLemmas.{one_more_passed}
use Rattle.reo_players.proofs.players.Players.pass_each.Goals as goal

pub loop-place-preserved : goal.loop-place-preserved
loop-place-preserved c =
    let l = c.loop-place in
    let stays : c.goes.result ≡ false = search rules in
    record {
      from = let le = l.invariant.from in omega arith;
      are = one_more_passed c.args.from l.place c.args.self.now l.self c.advance-stays.new.self l.invariant.are l.invariant.from c.advance-stays.result c.advance-stays.ensures (c.goes.ensures.awake stays) (c.goes.ensures.last stays);
    }
