use Rattle.std.proofs.Common.{◌≡◌, length}
use Rattle.reo_kinds.specs.Kinds.{behaviour_of}
use Rattle.reo_mark_search.specs.MarkFinding.{IsMarkSearch}
use Rattle.reo_net_base.specs.Net.{net_of}
use Rattle.reo_net_base.specs.Sides.{side_count}
use Rattle.reo_search_tests.proofs.mark_search_tests.tests.searched.Given as goal

-- What is kept serves the circuit, and there is a row for each side.
abbrev pub invariant-loop-part : goal.invariant-loop-part
invariant-loop-part l = record {
  search : IsMarkSearch (net_of behaviour_of l.circuit) l.search;
  rows : length l.rows ≡ side_count (net_of behaviour_of l.circuit);
}
