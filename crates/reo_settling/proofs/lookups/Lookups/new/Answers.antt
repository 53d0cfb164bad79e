use Rattle.std.proofs.Common.{false, ℕ, List, [], length, ap, arith, rules}
use Rattle.std.proofs.lemmas.List.{length-replicate}
use Rattle.reo_settling.proofs.lookups.Lookups.new.Goals as goal

none : List ℕ
none = []

pub returns : goal.returns
unfolding none
returns g c = λ kept. record {
  orders = c.in_ok-orders.ensures;
  one_list = omega (arith, ap length c.in_ok-flowing.ensures, length-replicate c.count.result none, c.count.ensures);
  flowing = λ told. absurd (cc);
  one_each = omega (arith, ap length c.in_ok-fresh.ensures, length-replicate c.count-2.result false, c.count-2.ensures);
  tables = tt;
  bounds = c.in_ok-bounds.ensures;
  plans = search rules;
  marks = c.in_ok-marks.ensures;
}
