-- What a front tells of cycles.
use Rattle.std.proofs.Common.{◌≡◌, ℕ, Bool, List, length, ◌∙◌}
use Rattle.reo_net_base.specs.order.Front.{IsFront, AreOff}
use Rattle.reo_net_base.proofs.order.WalkLemmas.{fed_off_cycle, on_cycle_back}

module _ (from to : List ℕ) where
  -- The arrows of a front are on no cycle.
  pub front_off : (order : List ℕ) (placed : List Bool) → IsFront from to order placed → AreOff from to placed
  front_off order placed front = record {
    flags = front.queue.flags;
    none_on_cycle = λ j is on. let there = front.queue.there j is in fed_off_cycle from to order front.fed there.0 j there.1 there.2 on;
  }

  -- Nor are those of a front against the arrows.
  pub back_off : length to ≡ length from → (order : List ℕ) (placed : List Bool) → IsFront to from order placed → AreOff from to placed
  back_off one_each order placed back = record {
    flags = back.queue.flags ∙ one_each;
    none_on_cycle = λ j is on. let there = back.queue.there j is in fed_off_cycle to from order back.fed there.0 j there.1 there.2 (on_cycle_back from to one_each j on);
  }
