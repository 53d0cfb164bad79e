-- Where no side waits, all are at rest.
use Rattle.std.proofs.Common.{◌≡◌, ℕ, ◌<◌, ◌≤◌, Bool, true, false, List, [], length, get_or, refl, sym, subst, arith, None}
use Rattle.std.proofs.lemmas.List.{get_or_default}
use Rattle.reo_net_base.specs.Net.{Net, Side, all_sides, no_side, row_count}
use Rattle.reo_net_base.specs.Sides.{side_count}
use Rattle.reo_net_base.specs.Wired.{IsWired}
use Rattle.reo_net_laws.specs.Ends.{IsRowOf}
use Rattle.reo_joint_values.specs.declared.value.JointValue.{JointValue}
use Rattle.reo_joint_values.specs.Values.{Names, Family}
use Rattle.reo_joint_values.specs.Supported.{IsSupported, IsNarrowed}
use Rattle.reo_joint_values.specs.Works.{RowWorks}
use Rattle.reo_side_tables.specs.Marks.{side_in}
use Rattle.reo_rows.specs.declared.rows.Rows.{Rows}
use Rattle.reo_rows.specs.RowFlags.{flag}
use Rattle.reo_rows.specs.Sets.{family_of}
use Rattle.reo_rows.proofs.Codes.{flag_in}
use Rattle.reo_propagate.specs.declared.queue.WaitingSides.{WaitingSides}
use Rattle.reo_propagate.specs.Narrow.{IsAtRest, IsTended, nobody}
use Rattle.reo_walk.specs.declared.place.KeyPlace.{KeyPlace}
use Rattle.reo_walk.specs.declared.walking.Least.{Least}
use Rattle.reo_walk.specs.Places.{side_of_place, number_of, held_to}
use Rattle.reo_walk.specs.Settling.{HasNone}
use Rattle.reo_walk.specs.Walking.{IsLeastBelow, IsBest, IsStepped}
use Rattle.reo_walk.proofs.Settling.{none_left}
use Rattle.reo_walk.proofs.Stepping.{held_already}
pub use Rattle.reo_propagate.proofs.Among.{among_at}

module _ (net : Net) (names : Names) (inside : ℕ → Bool) (alive : List (List Bool)) (rows : Rows) (queue : WaitingSides) (tended : IsTended net names inside (nobody net) alive rows queue) (empty : queue.line ≡ []) where
  rest_for : (side : ℕ) → inside side ≡ true → side < side_count net → (t : Bool) → get_or queue.waits side true ≡ t → IsAtRest net names (family_of alive) side rows
  rest_for side is lt true waits =
      let stands = tended.waiting side is waits in
      let none : stands.0 < 0 = subst (λ (xs : List ℕ). stands.0 < length xs) empty stands.1 in
      absurd (omega (arith, none))
  rest_for side is lt false slept = tended.at_rest side is (λ e. omega (arith, lt, e)) slept

  pub rest_of : (side : ℕ) → inside side ≡ true → side < side_count net → IsAtRest net names (family_of alive) side rows
  rest_of side is lt = rest_for side is lt (get_or queue.waits side true) refl

  pub supported_of : ((side : ℕ) → inside side ≡ true → side < side_count net) → IsSupported net names inside (family_of alive)
  supported_of real side is = (rest_of side is (real side is)).settled

-- A row that has its flag is one of the table.
pub live_row : (net : Net) (live : List (List Bool)) (side row : ℕ) → side < side_count net → length (get_or live side []) ≡ row_count (side_in net side) → flag live side row ≡ true → IsRowOf net side row
live_row net live side row side_lt width f = λ d.
    let lt = flag_in live side row f in
    let here : get_or (all_sides net.primitives) side no_side ≡ get_or (all_sides net.primitives) side d = get_or_default (all_sides net.primitives) side no_side d side_lt in
    subst (λ (s : Side). row < row_count s) here (omega (arith, lt, width))

module _ (net : Net) (wired : IsWired net) (names : Names) (inside : ℕ → Bool) (turn : ℕ) (p : KeyPlace) (family : Family) (rows : Rows) (is_in : inside (side_of_place p) ≡ true) where
  abbrev width : ℕ
  width = length (get_or rows.live (side_of_place p) [])

  -- No row has its flag: no assignment is left.
  pub none_of : ((row : ℕ) → RowWorks net names family (side_of_place p) row → flag rows.live (side_of_place p) row ≡ true) → IsBest net turn p rows.live width None → HasNone net names inside family
  none_of live none = none_left net wired names inside family (side_of_place p) is_in (λ r works. none r (flag_in rows.live (side_of_place p) r (live r works)) (live r works))

  module _ (least : Least) (best : IsLeastBelow net turn p rows.live width least) (rest : IsAtRest net names family (side_of_place p) rows)
      (side_lt : side_of_place p < side_count net) (width_is : width ≡ row_count (side_in net (side_of_place p))) where
    row_in : IsRowOf net (side_of_place p) least.row
    row_in = live_row net rows.live (side_of_place p) least.row side_lt width_is best.set

    none_less : (r : ℕ) → RowWorks net names family (side_of_place p) r → number_of net turn p least.row ≤ number_of net turn p r
    none_less r works = let f = rest.sifted.works r works in best.none_less r (flag_in rows.live (side_of_place p) r f) f

    -- A step that holds the place to the least number.
    pub stepped_to : (next : Family) → IsNarrowed net names inside (held_to net p least.row family) next → ((j : ℕ) (v : JointValue) → next j v ≡ true → family j v ≡ true) → IsSupported net names inside next
        → IsStepped net names inside turn p family next least.number
    stepped_to next narrowed less supported = record {
      row = least.row;
      in_table = row_in;
      works = rest.sifted.only least.row best.set;
      number_is = sym best.number;
      least = none_less;
      narrowed = narrowed;
      less = less;
      supported = supported;
    }

    -- A step at which there is nothing to be held.
    pub stepped_alone : least.alone ≡ true → IsSupported net names inside family → IsStepped net names inside turn p family family least.number
    stepped_alone alone supported =
        stepped_to family
        (held_already net wired names inside turn p family least.row side_lt row_in rest.settled (λ r works. let f = rest.sifted.works r works in best.alone alone r (flag_in rows.live (side_of_place p) r f) f))
        (λ j v h. h) supported
