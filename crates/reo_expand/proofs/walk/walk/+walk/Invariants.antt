use Rattle.std.proofs.Common.{◌≡◌, ◌≤◌, ◌++◌, Ok, take}
use Rattle.std.specs.List.{flat_map}
use Rattle.reo_expand.specs.base.Expansion.{items_in}
use Rattle.reo_expand.specs.base.Steps.{steps_in, two_in, walked}
use Rattle.reo_expand.proofs.base.Turning.{turn_steps, turn_items}
use Rattle.reo_expand.proofs.walk.walk.+walk.Given as goal

abbrev pub invariant-item-loop-turn : goal.invariant-item-loop-turn
invariant-item-loop-turn l = record {
  walked : walked l.initial.walk.count (turn_steps l.before l.initial.bound l.variable l.row l.span.first l.turn) ≡ Ok l.walk.count;
  made : l.out ≡ l.initial.out ++ turn_items l.initial.bound l.variable l.row l.span.first l.turn;
  bound : l.bound ≡ l.initial.bound;
  small : l.walk.count ≤ 65536;
}

abbrev pub invariant-items-loop-next : goal.invariant-items-loop-next
invariant-items-loop-next l = record {
  walked : walked l.initial.walk.count (steps_in (flat_map two_in l.before) l.initial.bound (take l.next-index l.items)) ≡ Ok l.walk.count;
  made : l.out ≡ l.initial.out ++ items_in l.initial.bound (take l.next-index l.items);
  bound : l.bound ≡ l.initial.bound;
  small : l.walk.count ≤ 65536;
}
