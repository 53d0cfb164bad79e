use Rattle.std.proofs.Common.{◌≡◌, [], take}
use Rattle.reo_net_base.specs.Net.{net_of}
use Rattle.reo_rows.specs.RowFlags.{AreAlikeTables}
use Rattle.reo_rows.specs.Sets.{family_of, names_of}
use Rattle.reo_propagate.specs.Queues.{among}
use Rattle.reo_propagate.specs.Basis.{IsSearchOn}
use Rattle.reo_walk.specs.Walking.{IsWalking}
use Rattle.reo_walk.proofs.walking.walk.Given as goal

abbrev pub invariant-loop-index : goal.invariant-loop-index
invariant-loop-index g l = record {
  alike : AreAlikeTables l.fn.state.alive l.state.alive;
  search : IsSearchOn (net_of g.P.Primitive.behaviour l.basis.circuit.now) l.basis (among l.sides) l.state;
  empty : l.state.queue.line ≡ [];
  walking : IsWalking (net_of g.P.Primitive.behaviour l.basis.circuit.now) (names_of l.basis.items.now) (among l.sides) l.turn (family_of l.fn.state.alive) (family_of l.state.alive) (take l.index l.places) l.chosen;
}
