use Rattle.reo_refute_live.specs.support.Families.{family_of}
use Rattle.reo_refute_live.proofs.TrailLemmas.{lost_one, kept_gone}
use Rattle.reo_refute_live.proofs.trail.let_go.Goals as goal

pub returns-clause-kept : goal.returns-clause-kept
returns-clause-kept c =
    let lost = lost_one (family_of c.args.table.now) (family_of c.clear.new.table) c.args.gone.now c.push.new.self c.args.joint c.args.value c.requires.live c.clear.ensures.gone c.in_ok-push.ensures.ok in
    kept_gone c.args.lists.now c.args.table.now c.clear.new.table c.args.gone.now c.push.new.self c.args.joint c.args.value c.requires.kept c.requires.joint c.requires.live
    (c.clear.ensures.live c.args.lists.now c.requires.kept.live) c.in_ok-push.ensures.ok lost

pub returns-clause-lost : goal.returns-clause-lost
returns-clause-lost c =
    lost_one (family_of c.args.table.now) (family_of c.clear.new.table) c.args.gone.now c.push.new.self c.args.joint c.args.value c.requires.live c.clear.ensures.gone c.in_ok-push.ensures.ok
