-- Rows of a part that were found by marks, and rows that were searched after them.
use Rattle.std.proofs.Common.{◌∙◌, ℕ, ◌<◌, ◌≤◌, List}
use Rattle.std.specs.Prelude.{Result, Ok, Err, MatchResult}
use Rattle.reo_net_base.specs.Net.{Net}
use Rattle.reo_net_base.specs.Wired.{IsWired, IsOrder}
use Rattle.reo_net_laws.specs.Knots.{Knotted, AreKnots, in_knot, knot_count}
use Rattle.reo_mark_search.specs.MarkFinding.{AreRowsElsewhere, HasFirstRows}
use Rattle.reo_item_bounds.specs.Bounds.{HasBounds}
use Rattle.reo_item_bounds.proofs.Within.{within}
use Rattle.reo_part_plans.specs.Plannings.{IsPartPlanned}

-- Rows that were found of a part within its bounds are planned.
pub found_planned : (net : Net) → IsWired net → (order : List ℕ) → IsOrder net order → (knots : Knotted) → AreKnots net knots → (k : ℕ) → k < knot_count knots
    → (turn budget choices : ℕ) → HasBounds net (in_knot knots.numbers k) choices → choices ≤ budget → (old new : List ℕ)
    → HasFirstRows net (in_knot knots.numbers k) turn new → AreRowsElsewhere (in_knot knots.numbers k) old new → IsPartPlanned budget net knots turn k old new
found_planned net wired order is_order knots are k lt turn budget choices has le old new found elsewhere = record {
  one_each = elsewhere.one_each;
  within = within net wired order is_order (in_knot knots.numbers k) (are.are_knots k lt).closed choices has budget le;
  first = record { others = found.those; items = found.first.items; first = found.first.first; same = found.same };
  others = elsewhere.others;
}

-- What is planned after rows of the part changed is planned from the start.
planned_after : (budget : ℕ) (net : Net) (knots : Knotted) (turn k : ℕ) (old mid new : List ℕ) → AreRowsElsewhere (in_knot knots.numbers k) old mid
    → IsPartPlanned budget net knots turn k mid new → IsPartPlanned budget net knots turn k old new
planned_after budget net knots turn k old mid new elsewhere planned = record {
  one_each = planned.one_each ∙ elsewhere.one_each;
  within = planned.within;
  first = planned.first;
  others = λ s h. planned.others s h ∙ elsewhere.others s h;
}

pub searched_after : {X E : Type 0} (r : Result X E) (F : E → Type 0) (budget : ℕ) (net : Net) (knots : Knotted) (turn k : ℕ) (old mid new : List ℕ) → AreRowsElsewhere (in_knot knots.numbers k) old mid
    → MatchResult r (λ _. IsPartPlanned budget net knots turn k mid new) F → MatchResult r (λ _. IsPartPlanned budget net knots turn k old new) F
searched_after (Ok x) F budget net knots turn k old mid new elsewhere planned = planned_after budget net knots turn k old mid new elsewhere planned
searched_after (Err e) F budget net knots turn k old mid new elsewhere fault = fault
