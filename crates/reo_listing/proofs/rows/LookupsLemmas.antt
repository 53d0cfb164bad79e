-- What parts are searched by stays right where a gate changes, but on the part of the gate.
use Rattle.std.proofs.Common.{◌≡◌, ◌≢◌, inl, inr, ℕ, ◌+◌, ◌<◌, Bool, true, List, length, get_or, refl, sym, ◌∙◌, ap, subst, arith}
use Rattle.std.proofs.lemmas.Bool.{and_parts, eqb-true, cases_eq}
use Rattle.std.specs.Prelude.{◌==◌, nat_lt}
use Rattle.reo_net_base.specs.Behaviour.{Behaviour}
use Rattle.reo_net_base.specs.Net.{Net, Wiring, net_of, behaviour_at, end_of, first_side, side_at}
use Rattle.reo_net_base.specs.Shapes.{SameShapes}
use Rattle.reo_net_base.specs.Wired.{IsWired}
use Rattle.reo_net_circuit.proofs.PortLemmas.{replaced}
use Rattle.reo_net_circuit.specs.found_ends.Ends.{AreEnds}
use Rattle.reo_net_circuit.specs.found_ends.Laws.{EndsStay}
use Rattle.reo_net_laws.specs.Knots.{Knotted, AreKnots, in_knot, knot_count}
use Rattle.reo_open.specs.declared.gate.GateRows.{GateRows}
use Rattle.reo_open.specs.declared.opens.Open.{Open}
use Rattle.reo_open.specs.GateLaws.{gate_shape}
use Rattle.reo_open.specs.Opens.{open_behaviour}
use Rattle.reo_search_tables.specs.SearchTables.{HasRoom, AreRightOn, AreReady}
use Rattle.reo_search_tables.specs.Orders.{AreOrders}
use Rattle.reo_search_tables.specs.Laws.{IsSameOn, ReadyTablesAreRight, RightPartsAreReady}
use Rattle.reo_search_tables.proofs.Sorted.{orders_stay}
use Rattle.reo_search_tables.proofs.Staying.{right_tables_stay, room_stays}
use Rattle.reo_listing.specs.declared.rows.lookups.Lookups.{Lookups}
use Rattle.reo_listing.specs.laws.Gated.{gate_of, IsGate, put_at}
use Rattle.reo_listing.specs.rows.Lookups.{AreLookups, AreLookupsBeside}
use Rattle.reo_listing.proofs.laws.Gates.{changed_other, gate_is, gate_place}

-- What is right on each part is right beside one.
pub beside : (net : Net) (knots : Knotted) (part : ℕ) (lookups : Lookups) → AreLookups net knots lookups → AreLookupsBeside net knots part lookups
beside net knots part lookups are = record { ends = are.ends; orders = are.orders; room = are.room; right = λ k lt ne. are.right k lt }

-- Where the part is right too, all are.
pub whole : (net : Net) (knots : Knotted) (part : ℕ) (old new : Lookups) → AreLookupsBeside net knots part old → new.ends ≡ old.ends → new.orders ≡ old.orders
    → HasRoom net new.tables → AreRightOn net (in_knot knots.numbers part) new.tables
    → ((k : ℕ) → k < knot_count knots → k ≢ part → AreRightOn net (in_knot knots.numbers k) old.tables → AreRightOn net (in_knot knots.numbers k) new.tables)
    → AreLookups net knots new
whole net knots part old new are ends orders room here others = record {
  ends = subst (AreEnds net) (sym ends) are.ends;
  orders = subst (AreOrders net knots) (sym orders) are.orders;
  room = room;
  right = λ k lt. elim (cases_eq k part) [ inl e ↦ subst (λ (i : ℕ). AreRightOn net (in_knot knots.numbers i) new.tables) (sym e) here | inr ne ↦ others k lt ne (are.right k lt ne) ];
}

-- The tables of a whole circuit are right on each part.
pub of_tables : ReadyTablesAreRight → (net : Net) (knots : Knotted) (lookups : Lookups) → AreEnds net lookups.ends → AreOrders net knots lookups.orders → AreReady net lookups.ends lookups.tables → AreLookups net knots lookups
of_tables law net knots lookups ends orders ready =
    let right = law net lookups.ends lookups.tables ready in
    record { ends = ends; orders = orders; room = right.0; right = λ k lt. right.1 (in_knot knots.numbers k) }

pub ready : RightPartsAreReady → (net : Net) → IsWired net → (knots : Knotted) → AreKnots net knots → (lookups : Lookups) → AreLookups net knots lookups → AreReady net lookups.ends lookups.tables
ready law net wired knots are_knots lookups are = law net wired lookups.ends are.ends knots are_knots lookups.tables are.room are.right

-- Tables of the whole circuit are right beside a part.
pub beside_ready : ReadyTablesAreRight → (net : Net) (knots : Knotted) (part : ℕ) (lookups : Lookups) → AreEnds net lookups.ends → AreOrders net knots lookups.orders → AreReady net lookups.ends lookups.tables
    → AreLookupsBeside net knots part lookups
beside_ready law net knots part lookups ends orders ready = beside net knots part lookups (of_tables law net knots lookups ends orders ready)

-- A side is in one part.
one_part : (numbers : List ℕ) (k part s : ℕ) → in_knot numbers k s ≡ true → in_knot numbers part s ≡ true → k ≡ part
one_part numbers k part s h there =
    sym (eqb-true (get_or numbers s 0) k ((and_parts (nat_lt s (length numbers)) (get_or numbers s 0 == k) h).1))
    ∙ eqb-true (get_or numbers s 0) part ((and_parts (nat_lt s (length numbers)) (get_or numbers s 0 == part) there).1)

module _ (stay : EndsStay) (w : Wiring Open) (wired : IsWired (net_of open_behaviour w)) (knots : Knotted) (are_knots : AreKnots (net_of open_behaviour w) knots) (part port : ℕ) (takes : Bool) (before after : GateRows)
    (gate : IsGate w port takes before) (here : in_knot knots.numbers part (side_at (net_of open_behaviour w) (end_of port 0)) ≡ true) where
  abbrev net : Net
  net = net_of open_behaviour w

  abbrev other : Net
  other = net_of open_behaviour (put_at w port (gate_of takes after))

  shapes : SameShapes net.primitives other.primitives
  shapes = replaced open_behaviour (gate_of takes after) w.primitives port (rw (gate_is w port takes before gate) (gate_shape (record { takes = takes; allowed = before }) after))

  in_part : in_knot knots.numbers part (first_side net.primitives port + 0) ≡ true
  in_part = ap (in_knot knots.numbers part) (let z : first_side net.primitives port + 0 ≡ first_side net.primitives port = omega arith in z ∙ sym (gate_place w port takes before gate)) ∙ here

  one_side : (side : ℕ) → side < (behaviour_at net.primitives port).sides → side ≡ 0
  one_side side lt = let less : side < 1 = subst (λ (b : Behaviour). side < b.sides) (gate_is w port takes before gate) lt in omega (arith, less)

  same_on : (k : ℕ) → k ≢ part → IsSameOn net other (in_knot knots.numbers k)
  same_on k ne = record {
    joints = refl;
    shapes = shapes;
    same = λ i side i_in side_in h. elim (cases_eq i port) [
      | inl e ↦ absurd (
          let zero_side = one_side side (subst (λ (n : ℕ). side < (behaviour_at net.primitives n).sides) e side_in) in
          ne (one_part knots.numbers k part (first_side net.primitives port + 0)
          (subst (λ (s : ℕ). in_knot knots.numbers k (first_side net.primitives port + s) ≡ true) zero_side
          (subst (λ (n : ℕ). in_knot knots.numbers k (first_side net.primitives n + side) ≡ true) e h)) in_part))
      | inr apart ↦ changed_other (gate_of takes after) w.primitives port i apart
    ];
  }

  -- A gate of a part is given other rows.
  pub beside_put : (lookups : Lookups) → AreLookupsBeside net knots part lookups → AreLookupsBeside other knots part lookups
  beside_put lookups are = record {
    ends = stay net other refl shapes lookups.ends are.ends;
    orders = orders_stay net other wired refl shapes knots lookups.orders are.orders;
    room = room_stays net other refl shapes lookups.tables are.room;
    right = λ k lt ne. right_tables_stay net other wired (in_knot knots.numbers k) (are_knots.are_knots k lt).closed (same_on k ne) lookups.tables (are.right k lt ne);
  }
