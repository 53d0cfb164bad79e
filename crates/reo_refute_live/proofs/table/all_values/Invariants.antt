use Rattle.std.proofs.Common.{◌≡◌, map, take}
use Rattle.reo_refute_live.proofs.TableLemmas.{whole}
use Rattle.reo_refute_live.proofs.table.all_values.Given as goal

-- The entries of the joints so far.
abbrev pub invariant-loop-list : goal.invariant-loop-list
invariant-loop-list l = l.table ≡ map whole (take l.list-index l.lists)
