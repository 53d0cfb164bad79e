-- Tables that are right on each part.
use Rattle.std.proofs.Common.{◌≡◌, ℕ, ◌<◌, true, List, length, get_or, refl, arith}
use Rattle.std.specs.Prelude.{◌==◌, nat_lt}
use Rattle.reo_net_base.specs.Net.{Net, side_at}
use Rattle.reo_net_base.specs.Sides.{side_count}
use Rattle.reo_net_base.specs.Wired.{IsWired}
use Rattle.reo_net_laws.proofs.Sides.{side_in_range}
use Rattle.reo_net_laws.specs.Knots.{in_knot}
use Rattle.reo_joint_values.specs.Standing.{no_joint, giver_of}
use Rattle.reo_search_tables.specs.SearchTables.{IsSideRight, IsJointRight}
use Rattle.reo_search_tables.specs.Laws.{ReadyTablesAreRight, RightPartsAreReady}
use Rattle.std.proofs.lemmas.Bool.{and_from as both, lt-ltb, eq-eqb}

-- A side has the number of its own part.
pub in_own : (numbers : List ℕ) (s : ℕ) → s < length numbers → in_knot numbers (get_or numbers s 0) s ≡ true
in_own numbers s lt = both (nat_lt s (length numbers)) (get_or numbers s 0 == get_or numbers s 0) (lt-ltb s (length numbers) lt) (eq-eqb (get_or numbers s 0) (get_or numbers s 0) refl)

-- A joint starts at a side of the circuit.
pub starts : (net : Net) → IsWired net → (j : ℕ) → j < length net.joints → side_at net (giver_of net j) < side_count net
starts net wired j lt = side_in_range net wired (giver_of net j) (wired.givers j no_joint lt)

pub right_parts_are_ready : RightPartsAreReady
right_parts_are_ready net wired ends are_ends knots are tables room right = record {
  supply = record { places = room.places; reached = λ j lt. (joint j lt).reached };
  short = room.short;
  ready = record {
    boards_are = record { one_each = room.boards; each = λ s d lt. (side s lt).board d };
    ends_are = are_ends;
    supply = room.places.one_list;
    one_set = room.alive;
    width = λ j lt. (joint j lt).values;
  };
  flags = record {
    sides = room.live;
    width = λ s lt. (side s lt).rows;
    noted = room.notes;
    groups = λ s lt. (side s lt).groups;
    joints = room.seen;
    values = λ j lt. (joint j lt).marks;
  };
  waits = room.waits;
}
  where
    own : (s : ℕ) → s < side_count net → in_knot knots.numbers (get_or knots.numbers s 0) s ≡ true
    own s lt = in_own knots.numbers s (omega (arith, lt, are.numbered.one_each))

    side : (s : ℕ) → s < side_count net → IsSideRight net tables s
    side s lt = (right (get_or knots.numbers s 0) (are.numbered.in_range s lt)).sides s lt (own s lt)

    joint : (j : ℕ) → j < length net.joints → IsJointRight net tables j
    joint j lt =
        let s : ℕ = side_at net (giver_of net j) in
        let s_in : side_at net (giver_of net j) < side_count net = starts net wired j lt in
        (right (get_or knots.numbers s 0) (are.numbered.in_range s s_in)).joints j (lt, own s s_in)

pub ready_tables_are_right : ReadyTablesAreRight
ready_tables_are_right net ends tables ready = (
  record {
    boards = ready.ready.boards_are.one_each;
    places = ready.supply.places;
    short = ready.short;
    alive = ready.ready.one_set;
    seen = ready.flags.joints;
    live = ready.flags.sides;
    notes = ready.flags.noted;
    waits = ready.waits;
  },
  λ inside. record {
    sides = λ s lt h. record { board = λ d. ready.ready.boards_are.each s d lt; rows = ready.flags.width s lt; groups = ready.flags.groups s lt };
    joints = λ j is. record { reached = ready.supply.reached j is.0; values = ready.ready.width j is.0; marks = ready.flags.values j is.0 };
  },
)
