-- What is right in tables of which some sides and joints are made anew.
use Rattle.std.proofs.Common.{◌≡◌, ℕ, ◌+◌, ◌<◌, Bool, true, false, List, [], length, get_or, refl, ap, sym, ◌∙◌, subst, arith}
use Rattle.std.specs.Prelude.{Contains}
use Rattle.std.proofs.lemmas.Bool.{both_ways}
use Rattle.reo_values.specs.declared.value.Value.{Value}
use Rattle.reo_net_base.specs.Net.{Net, row_count, side_at}
use Rattle.reo_net_base.specs.Wired.{IsWired}
use Rattle.reo_net_laws.specs.Parts.{IsClosed}
use Rattle.reo_net_laws.proofs.Assignments.{alike_self}
use Rattle.reo_side_tables.specs.declared.board.Board.{Board}
use Rattle.reo_side_tables.specs.Boards.{IsBoard}
use Rattle.reo_side_tables.specs.Marks.{side_in, groups_in}
use Rattle.reo_joint_values.specs.InOrder.{AreInOrder}
use Rattle.reo_joint_values.specs.Standing.{giver_of}
use Rattle.reo_reach.specs.Stays.{AgreeAt}
use Rattle.reo_reach.specs.Supplied.{Supplied, items_at, AreShort, HasPlaces, IsReached}
use Rattle.reo_joint_values.specs.Many.{IsJointIn}
use Rattle.reo_reach.proofs.StayLemmas.{reached_stays}
use Rattle.reo_propagate.specs.Queues.{among}
use Rattle.reo_search_tables.proofs.Among.{among_stands}
use Rattle.reo_rows.specs.declared.groups.Group.{Group}
use Rattle.reo_search_tables.specs.declared.tables.SearchTables.{SearchTables}
use Rattle.reo_search_tables.specs.SearchTables.{HasRoom, IsSideRight, IsJointRight, AreRightOn, AreApart}
use Rattle.reo_search_tables.specs.Renewing.{AreRightAt, OnlySides, OnlyJoints}
use Rattle.reo_search_tables.specs.Orders.{AreJointsOf}
use Rattle.reo_search_tables.proofs.Renewed.{contains_among, among_contains, right_all}

-- Joints in order are joints of the circuit.
pub joint_in : (net : Net) (joints : List ℕ) → AreInOrder net joints → (j : ℕ) → among joints j ≡ true → j < length net.joints
joint_in net joints in_order j h = let s = among_stands joints j h in subst (λ (i : ℕ). i < length net.joints) s.2 (in_order.in_range s.0 s.1)

-- Room stays where only joints are made anew.
pub room_joints : (net : Net) (joints : List ℕ) (old new : SearchTables) → HasRoom net old → HasPlaces net new.supply → AreShort new.supply → OnlyJoints joints old new → HasRoom net new
room_joints net joints old new room places short only = record {
  boards = ap length only.boards ∙ room.boards;
  places = places;
  short = short;
  alive = only.alive.one_each ∙ room.alive;
  seen = only.seen.one_each ∙ room.seen;
  live = ap length only.live ∙ room.live;
  notes = ap length only.notes ∙ room.notes;
  waits = ap length only.waits ∙ room.waits;
}

-- Room stays where only sides are made anew.
pub room_sides : (net : Net) (sides : List ℕ) (old new : SearchTables) → HasRoom net old → OnlySides sides old new → HasRoom net new
room_sides net sides old new room only = record {
  boards = only.boards.one_each ∙ room.boards;
  places = subst (λ (s : Supplied). HasPlaces net s) (sym only.supply) room.places;
  short = subst (λ (s : Supplied). AreShort s) (sym only.supply) room.short;
  alive = ap length only.alive ∙ room.alive;
  seen = ap length only.seen ∙ room.seen;
  live = only.live.one_each ∙ room.live;
  notes = only.notes.one_each ∙ room.notes;
  waits = ap length only.waits ∙ room.waits;
}

-- A joint stays right where nothing of it changes.
pub joint_same : (net : Net) (old new : SearchTables) (j : ℕ) → new.supply ≡ old.supply → new.state.alive ≡ old.state.alive → new.state.rows.seen ≡ old.state.rows.seen → IsJointRight net old j → IsJointRight net new j
joint_same net old new j supply alive seen is = record {
  reached = subst (λ (s : Supplied). IsReached net s j) (sym supply) is.reached;
  values = ap (λ (t : List (List Bool)). length (get_or t j [])) alive ∙ is.values ∙ ap (λ (s : Supplied). length (items_at s j) + 4) (sym supply);
  marks = ap (λ (t : List (List Bool)). length (get_or t j [])) seen ∙ is.marks ∙ ap (λ (s : Supplied). length (items_at s j) + 4) (sym supply);
}

-- The sides that are made anew are right.
pub sides_right : (net : Net) (sides : List ℕ) (tables : SearchTables) → AreRightAt sides (length sides) (IsBoard net) tables.boards
    → AreRightAt sides (length sides) (λ s row. length row ≡ row_count (side_in net s)) tables.state.rows.live
    → AreRightAt sides (length sides) (λ s list. length list ≡ groups_in net s) tables.state.rows.notes
    → (s : ℕ) → among sides s ≡ true → IsSideRight net tables s
sides_right net sides tables boards live notes s h = record {
  board = λ d. right_all sides (IsBoard net) tables.boards boards s d h;
  rows = right_all sides (λ s row. length row ≡ row_count (side_in net s)) tables.state.rows.live live s [] h;
  groups = right_all sides (λ s list. length list ≡ groups_in net s) tables.state.rows.notes notes s [] h;
}

-- The joints that are made anew are right.
pub joints_right : (net : Net) (joints : List ℕ) (tables : SearchTables) → ((j : ℕ) → Contains joints j → IsReached net tables.supply j)
    → AreRightAt joints (length joints) (λ j row. length row ≡ length (items_at tables.supply j) + 4) tables.state.alive
    → AreRightAt joints (length joints) (λ j row. length row ≡ length (items_at tables.supply j) + 4) tables.state.rows.seen
    → (j : ℕ) → Contains joints j → IsJointRight net tables j
joints_right net joints tables reached alive seen j h =
    let at : among joints j ≡ true = contains_among joints j h in
    record {
      reached = reached j h;
      values = right_all joints (λ j row. length row ≡ length (items_at tables.supply j) + 4) tables.state.alive alive j [] at;
      marks = right_all joints (λ j row. length row ≡ length (items_at tables.supply j) + 4) tables.state.rows.seen seen j [] at;
    }

not_among : (xs : List ℕ) (k : ℕ) → (among xs k ≡ true → ⊥) → among xs k ≡ false
not_among xs k h = not_true (among xs k) h
  where
    not_true : (t : Bool) → (t ≡ true → ⊥) → t ≡ false
    not_true true h = absurd (h refl)
    not_true false h = refl

-- Another set, which has none of these sides and joints.
module _ (net : Net) (other : ℕ → Bool) where
  pub sides_stay : (sides : List ℕ) (old new : SearchTables) → HasRoom net old → OnlySides sides old new → ((s : ℕ) → other s ≡ true → among sides s ≡ false) → AreRightOn net other old → AreRightOn net other new
  sides_stay sides old new room only apart right = record {
    sides = λ s lt h.
        let was = right.sides s lt h in
        let none : among sides s ≡ false = apart s h in
        record {
          board = λ d. subst (λ (b : Board). IsBoard net s b) (sym (only.boards.other s d (omega (arith, lt, room.boards)) none)) (was.board d);
          rows = ap length (only.live.other s [] (omega (arith, lt, room.live)) none) ∙ was.rows;
          groups = ap length (only.notes.other s [] (omega (arith, lt, room.notes)) none) ∙ was.groups;
        };
    joints = λ j is. joint_same net old new j only.supply only.alive only.seen (right.joints j is);
  }

  pub joints_stay : IsWired net → IsClosed net other → (joints : List ℕ) (old new : SearchTables) → HasRoom net old → OnlyJoints joints old new → ((j : ℕ) → IsJointIn net other j → Contains joints j → ⊥) → AreRightOn net other old
      → AreRightOn net other new
  joints_stay wired closed joints old new room only apart right = record {
    sides = λ s lt h.
        let was = right.sides s lt h in
        record {
          board = λ d. subst (λ (b : Board). IsBoard net s b) (ap (λ (bs : List Board). get_or bs s d) (sym only.boards)) (was.board d);
          rows = ap (λ (t : List (List Bool)). length (get_or t s [])) only.live ∙ was.rows;
          groups = ap (λ (t : List (List Group)). length (get_or t s [])) only.notes ∙ was.groups;
        };
    joints = λ j is.
        let was = right.joints j is in
        let none : among joints j ≡ false = not_among joints j (λ h. apart j is (among_contains joints j h)) in
        let items : items_at new.supply j ≡ items_at old.supply j = only.supply.items j (apart j is) in
        let agree : AgreeAt net other old.supply new.supply = record { items = λ i at. only.supply.items i (apart i at); wide = λ i at. only.supply.wide i (apart i at) } in
        record {
          reached = reached_stays net net wired other closed (alike_self net other) old.supply new.supply agree j is was.reached;
          values = ap length (only.alive.other j [] (omega (arith, is.0, room.alive)) none) ∙ was.values ∙ ap (λ (xs : List Value). length xs + 4) (sym items);
          marks = ap length (only.seen.other j [] (omega (arith, is.0, room.seen)) none) ∙ was.marks ∙ ap (λ (xs : List Value). length xs + 4) (sym items);
        };
  }

-- Two sets without a common side have no common joint.
pub apart_joints : (net : Net) (sides joints : List ℕ) (other : ℕ → Bool) → AreJointsOf net (among sides) joints → AreApart (among sides) other → (j : ℕ) → IsJointIn net other j → Contains joints j → ⊥
apart_joints net sides joints other are apart j is h =
    let start = (are.exact j).0 h in
    both_ways (other (side_at net (giver_of net j))) (apart (side_at net (giver_of net j)) start.1) is.1

-- Nor is a side of the one in the other.
pub apart_sides : (sides : List ℕ) (other : ℕ → Bool) → AreApart (among sides) other → (s : ℕ) → other s ≡ true → among sides s ≡ false
apart_sides sides other apart s h = not_among sides s (λ g. both_ways (other s) (apart s g) h)

-- All is right on the set.
pub all_right : (net : Net) (sides joints : List ℕ) (mid new : SearchTables) → AreJointsOf net (among sides) joints → ((j : ℕ) → Contains joints j → IsJointRight net mid j) → OnlySides sides mid new
    → ((s : ℕ) → among sides s ≡ true → IsSideRight net new s) → AreRightOn net (among sides) new
all_right net sides joints mid new are joints_are only sides_are = record {
  sides = λ s lt h. sides_are s h;
  joints = λ j is. joint_same net mid new j only.supply only.alive only.seen (joints_are j ((are.exact j).1 is));
}
