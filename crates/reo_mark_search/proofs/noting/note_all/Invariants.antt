use Rattle.std.proofs.Common.{◌≡◌, length}
use Rattle.reo_net_base.specs.Net.{net_of}
use Rattle.reo_mark_search.specs.Fitting.{AreOpenSides, AreReset}
use Rattle.reo_mark_search.proofs.noting.note_all.Given as goal

-- The sides so far are noted, and have all marks.
abbrev pub invariant-loop-index : goal.invariant-loop-index
invariant-loop-index g l = record {
  one_form : length l.forms ≡ length l.initial.forms;
  one_each : length l.sets ≡ length l.initial.sets;
  noted : AreOpenSides (net_of g.P.Primitive.behaviour l.circuit) l.sides l.index l.forms;
  reset : AreReset (net_of g.P.Primitive.behaviour l.circuit) l.spots l.sides l.index l.sets;
}
