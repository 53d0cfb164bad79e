use Rattle.std.proofs.Common.{◌≡◌, ◌≤◌, ◌+◌, ◌*◌, ◌-◌, length, take, drop}
use Rattle.reo_net_base.specs.Net.{net_of}
use Rattle.reo_search.specs.choices.Remaining.{choices_of}
use Rattle.reo_search.specs.choices.Trying.{MayRestartOn, HasNextOf}
use Rattle.reo_search.specs.choices.Best.{IsBetter}
use Rattle.reo_search.specs.choices.KnotSearch.{inside_of, names_in}
use Rattle.reo_search.proofs.choices.choices.+improve.Given as goal

abbrev pub decreases-improve : goal.decreases-improve
decreases-improve g l = length l.searched.now.loops.now - length l.codes.now

abbrev pub invariant-loop-index : goal.invariant-loop-index
invariant-loop-index g l = record {
  better : IsBetter (HasNextOf (net_of g.P.Primitive.behaviour l.searched.basis.now.circuit.now) (names_in l.searched) (inside_of l.searched) l.searched.loops.now l.initial.codes (take l.index l.next)) (net_of g.P.Primitive.behaviour l.searched.basis.now.circuit.now) l.searched.turn l.searched.places.now l.fn.best l.best;
  codes_are : l.codes ≡ l.initial.codes;
  tables : MayRestartOn (net_of g.P.Primitive.behaviour l.searched.basis.now.circuit.now) l.searched.basis.now l.state;
  ticks : l.steps ≤ l.fn.steps + l.index * choices_of (drop (length l.initial.codes + 1) l.left);
}
