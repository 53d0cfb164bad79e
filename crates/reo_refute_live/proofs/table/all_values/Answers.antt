use Rattle.std.proofs.Common.{◌∙◌, map, ap}
use Rattle.std.proofs.lemmas.List.{take_all}
use Rattle.reo_refute_live.proofs.TableLemmas.{whole, all_whole}
use Rattle.reo_refute_live.proofs.table.all_values.Goals as goal

pub returns-clause-all : goal.returns-clause-all
returns-clause-all c =
    (all_whole c.args.lists.now c.loop-list.table (c.loop-list.invariant ∙ ap (map whole) (take_all c.loop-list.list-index c.args.lists.now c.loop-list-test.false))).1

pub returns-clause-live : goal.returns-clause-live
returns-clause-live c =
    (all_whole c.args.lists.now c.loop-list.table (c.loop-list.invariant ∙ ap (map whole) (take_all c.loop-list.list-index c.args.lists.now c.loop-list-test.false))).0
