use Rattle.std.proofs.Common.{◌≡◌, length}
use Rattle.reo_search.specs.choices.Trying.{AreSingles}
use Rattle.reo_search.proofs.choices.choices.push_single.Given as goal

abbrev pub invariant-loop-index : goal.invariant-loop-index
invariant-loop-index l = record {
  count : l.index ≡ length l.codes;
  singles : AreSingles l.left l.fn.codes l.codes;
}
