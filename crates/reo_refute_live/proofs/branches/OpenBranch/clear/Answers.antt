use Rattle.reo_refute_live.specs.support.Families.{family_of}
use Rattle.reo_refute_live.proofs.OpenLemmas.{same_open, splits_after, all_since}
use Rattle.reo_refute_live.proofs.branches.OpenBranch.clear.Goals as goal

pub returns-clause-open : goal.returns-clause-open
returns-clause-open c =
    let old = c.args.self.now in
    record {
      kept = c.in_ok-let_go.ensures.kept;
      splits = splits_after c.args.lists.now (family_of old.table) (family_of c.let_go.new.table) old.gone c.let_go.new.gone c.in_ok-let_go.ensures.lost old.splits c.requires.open.splits;
      nested = c.requires.open.nested;
    }

pub returns-clause-rest : goal.returns-clause-rest
returns-clause-rest c =
    let old = c.args.self.now in
    same_open c.args.lists.now (family_of old.table) (family_of c.let_go.new.table) old.gone c.let_go.new.gone c.in_ok-let_go.ensures.lost old.splits
    (all_since c.args.lists.now (family_of old.table) old.gone old.splits c.requires.open.splits)
