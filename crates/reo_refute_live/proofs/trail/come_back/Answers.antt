use Rattle.std.proofs.Common.{length, List, [], ◌∷◌, ap, length-append, arith}
use Rattle.reo_refute_live.specs.support.Families.{family_of}
use Rattle.reo_refute_live.specs.declared.trail.Gone.{Gone}
use Rattle.reo_refute_live.proofs.TrailLemmas.{back_lost, kept_back, lost_more}
use Rattle.reo_refute_live.proofs.trail.come_back.Goals as goal

pub loop-gone-preserved : goal.loop-gone-preserved
loop-gone-preserved c =
    let last : Gone = c.in-Some.last in
    let kept = c.loop-gone.invariant.kept in
    record {
      kept = kept_back c.args.lists.now c.loop-gone.table c.restore.new.table c.loop-gone.gone c.pop.new.self last kept c.in-Some.ensures (c.restore.ensures.live c.args.lists.now kept.live) c.restore.ensures.back;
      lost = lost_more (family_of c.restore.new.table) (family_of c.loop-gone.table) (family_of c.args.table.now) c.pop.new.self c.loop-gone.gone c.args.gone.now
          (back_lost (family_of c.loop-gone.table) (family_of c.restore.new.table) c.loop-gone.gone c.pop.new.self last c.in-Some.ensures c.restore.ensures.back) c.loop-gone.invariant.lost;
      within = omega (arith, c.loop-gone-test.true, c.len.ensures, ap (λ (l : List Gone). length l) c.in-Some.ensures, length-append c.pop.new.self (last ∷ []));
    }
