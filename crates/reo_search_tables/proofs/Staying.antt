-- Tables that are right on a set stay so where the circuit changes elsewhere.
use Rattle.std.proofs.Common.{◌≡◌, inl, inr, ℕ, ◌+◌, ◌*◌, ◌<◌, Bool, true, cond, List, [], length, get_or, refl, ap, sym, ◌∙◌, subst, arith}
use Rattle.std.specs.Prelude.{◌==◌}
use Rattle.reo_net_base.specs.declared.joint.End.{End}
use Rattle.reo_net_base.specs.declared.joint.Joint.{Joint}
use Rattle.reo_net_base.specs.Behaviour.{Behaviour}
use Rattle.reo_net_base.specs.Net.{Net, Side, all_sides, no_side, first_side, row_count, behaviour_at, side_at}
use Rattle.reo_net_base.specs.Shapes.{SameShapes}
use Rattle.reo_net_base.specs.Sides.{side_count}
use Rattle.reo_net_base.specs.Wired.{IsWired, IsEnd}
use Rattle.reo_net_circuit.proofs.ReshapeLemmas.{first_same, side_same}
use Rattle.reo_net_laws.specs.Alike.{SameSide, AreAlike}
use Rattle.reo_net_laws.specs.Ends.{mark_in}
use Rattle.reo_net_laws.specs.Parts.{IsClosed}
use Rattle.reo_net_laws.proofs.Sides.{side_is, owner_of, owner_side, side_at_place}
use Rattle.reo_net_laws.proofs.Shapes.{count_same}
use Rattle.reo_joint_values.specs.Values.{joint_of, giver_side, taker_side}
use Rattle.reo_side_tables.specs.declared.board.Board.{Board}
use Rattle.reo_side_tables.specs.declared.board.Flow.{Flow}
use Rattle.reo_side_tables.specs.Boards.{IsBoard, IsFlow}
use Rattle.reo_side_tables.specs.Listing.{Lists}
use Rattle.reo_side_tables.specs.Marks.{byte_of, side_in, groups_in, end_at, common_at_joint, IsJointOf, TakesFlow, GivesFlow, IsApartAt}
use Rattle.reo_joint_values.specs.Standing.{no_joint}
use Rattle.reo_joint_values.specs.Many.{IsJointIn}
use Rattle.reo_reach.proofs.StayLemmas.{reached_stays}
use Rattle.reo_search_tables.specs.declared.tables.SearchTables.{SearchTables}
use Rattle.reo_search_tables.specs.SearchTables.{IsSideRight, AreRightOn}
use Rattle.reo_search_tables.specs.Laws.{RightTablesStay, RoomStays}

pub same_side : (b d : Behaviour) (side : ℕ) → d ≡ b → SameSide b d side
same_side b d side e = subst (λ (x : Behaviour). SameSide b x side) (sym e) record {
  rows = refl;
  mark = λ row end lt of. refl;
  class = λ row turn lt. refl;
  from = λ row end gives. refl;
  given = λ row end taken gives. refl;
  passes = λ row end item lt of takes. refl;
}

-- A list of what can be said in other words.
lists_as : (holds also : ℕ → Type 0) (list : List ℕ) → ((k : ℕ) → holds k → also k) → ((k : ℕ) → also k → holds k) → Lists holds list → Lists also list
lists_as holds also list to back is = record { sound = λ m lt. to (get_or list m 0) (is.sound m lt); whole = λ k h. is.whole k (back k h) }

abbrev numbered : ℕ → Behaviour → Side
numbered number b = record { of = b; number = number }

module _ (bs ds : List Behaviour) (js : List Joint) (wired : IsWired (record { primitives = bs; joints = js })) (inside : ℕ → Bool) (shapes : SameShapes bs ds)
    (same : (i side : ℕ) → i < length bs → side < (behaviour_at bs i).sides → inside (first_side bs i + side) ≡ true → behaviour_at ds i ≡ behaviour_at bs i) where
  abbrev net : Net
  net = record { primitives = bs; joints = js }

  abbrev other : Net
  other = record { primitives = ds; joints = js }

  giver_same : (j : ℕ) → j < length js → giver_side other j ≡ giver_side net j
  giver_same j lt = side_same bs ds shapes js (get_or js j no_joint).giver (wired.givers j no_joint lt)

  taker_same : (j : ℕ) → j < length js → taker_side other j ≡ taker_side net j
  taker_same j lt = side_same bs ds shapes js (get_or js j no_joint).taker (wired.takers j no_joint lt)

  at_on : (side j : ℕ) → IsJointOf net side j → IsJointOf other side j
  at_on side j is = record { in_range = is.in_range; here = elim is.here [ inl e ↦ inl (giver_same j is.in_range ∙ e) | inr e ↦ inr (taker_same j is.in_range ∙ e) ] }

  at_back : (side j : ℕ) → IsJointOf other side j → IsJointOf net side j
  at_back side j is = record { in_range = is.in_range; here = elim is.here [ inl e ↦ inl (sym (giver_same j is.in_range) ∙ e) | inr e ↦ inr (sym (taker_same j is.in_range) ∙ e) ] }

  mark_same : (row : ℕ) (e : End) → IsEnd bs e → inside (side_at net e) ≡ true → mark_in other row e ≡ mark_in net row e
  unfolding mark_in
  mark_same row e is h =
      ap (λ (b : Behaviour). b.mark (b.side_of e.end) row e.end)
      (same e.primitive ((behaviour_at bs e.primitive).side_of e.end) is.0 ((wired.lawful e.primitive is.0).sides_in e.end is.1) (ap inside (sym (side_at_place net e)) ∙ h))

  alike : AreAlike net other inside
  alike = record {
    joints = refl;
    count = shapes.count;
    shape = shapes.same;
    sides = λ i side i_in side_in h. same_side (behaviour_at bs i) (behaviour_at ds i) side (same i side i_in side_in h);
  }

  -- A side of the set.
  module _ (side : ℕ) (lt : side < length (all_sides bs)) (h : inside side ≡ true) where
    side_there : (d : Side) → get_or (all_sides ds) side d ≡ get_or (all_sides bs) side d
    side_there d =
        let o = owner_of bs side lt in
        let place : side ≡ first_side ds o.primitive + o.number = o.place ∙ ap (λ (n : ℕ). n + o.number) (sym (first_same bs ds shapes o.primitive)) in
        let is : behaviour_at ds o.primitive ≡ behaviour_at bs o.primitive = same o.primitive o.number o.primitive_in o.number_in (ap inside (sym o.place) ∙ h) in
        let number_in : o.number < (behaviour_at ds o.primitive).sides = subst (λ (b : Behaviour). o.number < b.sides) (sym is) o.number_in in
        ap (λ (k : ℕ). get_or (all_sides ds) k d) place ∙ side_is ds o.primitive o.number d (omega (arith, o.primitive_in, shapes.count)) number_in
        ∙ ap (numbered o.number) is ∙ sym (owner_side bs side o d)

    it_is : side_in other side ≡ side_in net side
    it_is = side_there no_side

    groups_are : groups_in other side ≡ groups_in net side
    groups_are = ap (λ (s : Side). s.of.groups s.number) it_is

    common_same : (group j : ℕ) → j < length js → common_at_joint other side group j ≡ common_at_joint net side group j
    common_same group j j_in =
        ap (λ (s : Side). s.of.common s.number group (end_at other side j).end) it_is
        ∙ ap (λ (g : ℕ). (side_in net side).of.common (side_in net side).number group (cond (g == side) (joint_of net j).giver (joint_of net j).taker).end) (giver_same j j_in)

    takes_on : (row j : ℕ) → TakesFlow net side row j → TakesFlow other side row j
    takes_on row j is = record {
      in_range = is.in_range;
      here = taker_same j is.in_range ∙ is.here;
      flows = mark_same row (joint_of net j).taker (wired.takers j no_joint is.in_range) (ap inside is.here ∙ h) ∙ is.flows;
    }

    takes_back : (row j : ℕ) → TakesFlow other side row j → TakesFlow net side row j
    takes_back row j is =
        let here : taker_side net j ≡ side = sym (taker_same j is.in_range) ∙ is.here in
        record { in_range = is.in_range; here = here; flows = sym (mark_same row (joint_of net j).taker (wired.takers j no_joint is.in_range) (ap inside here ∙ h)) ∙ is.flows }

    gives_on : (row j : ℕ) → GivesFlow net side row j → GivesFlow other side row j
    gives_on row j is = record {
      in_range = is.in_range;
      here = giver_same j is.in_range ∙ is.here;
      flows = mark_same row (joint_of net j).giver (wired.givers j no_joint is.in_range) (ap inside is.here ∙ h) ∙ is.flows;
    }

    gives_back : (row j : ℕ) → GivesFlow other side row j → GivesFlow net side row j
    gives_back row j is =
        let here : giver_side net j ≡ side = sym (giver_same j is.in_range) ∙ is.here in
        record { in_range = is.in_range; here = here; flows = sym (mark_same row (joint_of net j).giver (wired.givers j no_joint is.in_range) (ap inside here ∙ h)) ∙ is.flows }

    flow_on : (row : ℕ) (flow : Flow) → IsFlow net side row flow → IsFlow other side row flow
    flow_on row flow is = record {
      taking = lists_as (TakesFlow net side row) (TakesFlow other side row) flow.taking (takes_on row) (takes_back row) is.taking;
      giving = lists_as (GivesFlow net side row) (GivesFlow other side row) flow.giving (gives_on row) (gives_back row) is.giving;
    }

    apart_on : (end row : ℕ) → IsApartAt net side end row → IsApartAt other side end row
    apart_on end row is = record {
      in_table = λ d. subst (λ (s : Side). row < row_count s) (sym (side_there d)) (is.in_table d);
      apart = ap (λ (s : Side). s.of.apart s.number row) it_is ∙ is.apart;
    }

    apart_back : (end row : ℕ) → IsApartAt other side end row → IsApartAt net side end row
    apart_back end row is = record {
      in_table = λ d. subst (λ (s : Side). row < row_count s) (side_there d) (is.in_table d);
      apart = ap (λ (s : Side). s.of.apart s.number row) (sym it_is) ∙ is.apart;
    }

    board_on : (board : Board) → IsBoard net side board → IsBoard other side board
    board_on board is = record {
      joints = lists_as (IsJointOf net side) (IsJointOf other side) board.joints (at_on side) (at_back side) is.joints;
      once = is.once;
      columns = record {
        size = is.columns.size ∙ ap (λ (n : ℕ). length board.joints * n) (sym groups_are);
        cell = λ m group m_in group_in.
            ap (λ (n : ℕ). get_or board.columns (m * n + group) 0) groups_are ∙ is.columns.cell m group m_in (omega (arith, group_in, groups_are))
            ∙ ap byte_of (sym (common_same group (get_or board.joints m 0) (is.joints.sound m m_in).in_range));
      };
      one_each = is.one_each ∙ ap row_count (sym it_is);
      flows = λ row d row_in. flow_on row (get_or board.flows row d) (is.flows row d row_in);
      ends = is.ends ∙ ap (λ (s : Side). s.of.ends) (sym it_is);
      apart = λ end. lists_as (IsApartAt net side end) (IsApartAt other side end) (get_or board.apart end []) (apart_on end) (apart_back end) (is.apart end);
    }

    side_on : (tables : SearchTables) → IsSideRight net tables side → IsSideRight other tables side
    side_on tables is = record {
      board = λ d. board_on (get_or tables.boards side d) (is.board d);
      rows = is.rows ∙ ap row_count (sym it_is);
      groups = is.groups ∙ sym groups_are;
    }

  pub right_on : IsClosed net inside → (tables : SearchTables) → AreRightOn net inside tables → AreRightOn other inside tables
  right_on closed tables right = record {
    sides = λ side lt h. let side_lt : side < length (all_sides bs) = omega (arith, lt, count_same bs ds shapes) in side_on side side_lt h tables (right.sides side side_lt h);
    joints = λ j is.
        let there : IsJointIn net inside j = (is.0, ap inside (sym (giver_same j is.0)) ∙ is.1) in
        let was = right.joints j there in
        record {
          reached = reached_stays net other wired inside closed alike tables.supply tables.supply (record { items = λ i at. refl; wide = λ i at. refl }) j there was.reached;
          values = was.values;
          marks = was.marks;
        };
  }

pub right_tables_stay : RightTablesStay
right_tables_stay net other wired inside closed is tables right =
    subst (λ (js : List Joint). AreRightOn (record { primitives = other.primitives; joints = js }) inside tables) (sym is.joints)
    (right_on net.primitives other.primitives net.joints wired inside is.shapes is.same closed tables right)

pub room_stays : RoomStays
room_stays net other joints shapes tables room =
    let sides : side_count other ≡ side_count net = count_same net.primitives other.primitives shapes in
    let count : length other.joints ≡ length net.joints = ap length joints in
    record {
      boards = room.boards ∙ sym sides;
      places = record { one_list = room.places.one_list ∙ sym count; one_mark = room.places.one_mark ∙ sym count };
      short = room.short;
      alive = room.alive ∙ sym count;
      seen = room.seen ∙ sym count;
      live = room.live ∙ sym sides;
      notes = room.notes ∙ sym sides;
      waits = room.waits ∙ sym sides;
    }
