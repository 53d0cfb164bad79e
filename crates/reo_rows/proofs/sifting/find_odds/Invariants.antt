use Rattle.std.proofs.Common.{◌≡◌, ◌<◌, ℕ, length, get_or}
use Rattle.reo_net_base.specs.Net.{net_of}
use Rattle.reo_rows.specs.declared.groups.Odd.{Odd}
use Rattle.reo_rows.specs.Groups.{IsOdd}
use Rattle.reo_rows.specs.Sets.{family_of}
use Rattle.reo_rows.proofs.sifting.find_odds.Given as goal

abbrev pub invariant-loop-group : goal.invariant-loop-group
invariant-loop-group g l = record {
  one_each : length l.odds ≡ l.group;
  odd : (k : ℕ) (d : Odd) → k < l.group → IsOdd (net_of g.P.Primitive.behaviour l.basis.circuit.now) (family_of l.alive) l.side k (get_or l.odds k d);
}
