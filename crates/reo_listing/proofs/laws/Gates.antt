-- What the ports of a set meet where a gate has fewer rows.
use Rattle.std.proofs.Common.{◌≡◌, ◌≢◌, inl, inr, ℕ, zero, suc, ◌+◌, ◌<◌, List, [], ◌∷◌, Bool, Option, true, length, map, get_or, refl, ap, sym, ◌∙◌, subst, arith}
use Rattle.std.proofs.lemmas.Bool.{eqb-false, cases_lt}
use Rattle.std.specs.Prelude.{Contains}
use Rattle.std.proofs.Math.ListN.{set}
use Rattle.std.proofs.lemmas.List.{length-map, get_or-map, length-set, get_or-set_same, get_or-set_other}
use Rattle.reo_values.specs.declared.value.Value.{Value}
use Rattle.reo_net_base.specs.declared.mark.Mark.{Mark}
use Rattle.reo_net_base.specs.declared.mark.Mark.TheVariants.{F, G, R, J}
use Rattle.reo_net_base.specs.declared.joint.End.{End}
use Rattle.reo_net_base.specs.Behaviour.{Behaviour, nothing}
use Rattle.reo_net_base.specs.Net.{Net, Side, Wiring, net_of, all_sides, behaviour_at, end_of, first_side, side_at, row_at, mark_at, no_side}
use Rattle.reo_net_base.specs.Net as nets
use Rattle.reo_net_base.specs.Rows.{row_count, mark_in}
use Rattle.reo_net_base.specs.Shapes.{SameShapes}
use Rattle.reo_net_base.specs.Step.{change_at}
use Rattle.reo_net_base.specs.Wired.{IsWired, IsEnd}
use Rattle.reo_listing.proofs.ReshapeLemmas.{side_same}
use Rattle.reo_net_circuit.proofs.PortLemmas.{replaced, change_length}
use Rattle.reo_net_laws.specs.Jams.{IsThreeColouring}
use Rattle.reo_net_laws.specs.Parts.{IsClosed}
use Rattle.reo_net_laws.proofs.Sides.{side_at_is, side_at_place, side_in, side_in_range, row_is}
use Rattle.reo_net_laws.proofs.Shapes.{shapes_back}
use Rattle.reo_open.specs.declared.gate.GateRows.{GateRows}
use Rattle.reo_open.specs.declared.gate.GateRows.TheVariants.{All}
use Rattle.reo_open.specs.declared.gate.Gate.{Gate}
use Rattle.reo_open.specs.declared.opens.Open.{Open}
use Rattle.reo_open.specs.Gates.{gate_rows, gate_behaviour}
use Rattle.reo_open.specs.GateLaws.{gate_shape}
use Rattle.reo_open.specs.Opens.{open_behaviour}
use Rattle.reo_listing.specs.base.Tables.{IsMet, marks_at}
use Rattle.reo_listing.specs.laws.Gated.{allowed_for, gate_of, IsGate, put_at}
use Rattle.reo_listing.proofs.laws.KnotShapes.{closed_on}
use Rattle.reo_listing.proofs.laws.Recolouring.{three_recoloured, mark_same}

-- What stands at a place of a changed list.
module _ (q : Open) where
  pub changed_here : (ps : List Open) (i : ℕ) → i < length ps → behaviour_at (map open_behaviour (change_at (λ _. q) ps i)) i ≡ open_behaviour q
  changed_here [] i lt = absurd (omega arith)
  changed_here (p ∷ ps) zero lt = refl
  changed_here (p ∷ ps) (suc i) lt = changed_here ps i (omega arith)

  pub changed_other : (ps : List Open) (i k : ℕ) → k ≢ i → behaviour_at (map open_behaviour (change_at (λ _. q) ps i)) k ≡ behaviour_at (map open_behaviour ps) k
  changed_other [] i k ne = refl
  changed_other (p ∷ ps) zero zero ne = absurd (ne refl)
  changed_other (p ∷ ps) zero (suc k) ne = refl
  changed_other (p ∷ ps) (suc i) zero ne = refl
  changed_other (p ∷ ps) (suc i) (suc k) ne = changed_other ps i k (λ e. ne (ap suc e))

-- The behaviour of a gate.
pub gate_is : (w : Wiring Open) (port : ℕ) (takes : Bool) (allowed : GateRows) → IsGate w port takes allowed
    → behaviour_at (net_of open_behaviour w).primitives port ≡ gate_behaviour (record { takes = takes; allowed = allowed })
gate_is w port takes allowed gate =
    get_or-map open_behaviour w.primitives port (gate_of takes allowed) nothing gate.in_range ∙ ap open_behaviour (gate.is (gate_of takes allowed))

pub gate_end : (w : Wiring Open) (port : ℕ) (takes : Bool) (allowed : GateRows) → IsGate w port takes allowed → IsEnd (net_of open_behaviour w).primitives (end_of port 0)
gate_end w port takes allowed gate = (
  rw (length-map w.primitives open_behaviour) gate.in_range,
  rw (gate_is w port takes allowed gate) (omega arith),
)

least : (row n m : ℕ) → row < n → row + 1 ≢ n → n ≡ m + 1 → row < m
least row n m lt ne e = elim (cases_lt row m) [ inl h ↦ h | inr h ↦ absurd (ne (omega arith)) ]

-- The row of a gate of a set that is not jammed.
module _ (w : Wiring Open) (wired : IsWired (net_of open_behaviour w)) (inside : ℕ → Bool) (port : ℕ) (takes : Bool) (allowed : GateRows) (gate : IsGate w port takes allowed)
    (here : inside (side_at (net_of open_behaviour w) (end_of port 0)) ≡ true) (rows : List ℕ) (items : List (Option Value)) (is : IsThreeColouring (net_of open_behaviour w) inside rows items) where
  abbrev net : Net
  net = net_of open_behaviour w

  abbrev side : ℕ
  side = side_at net (end_of port 0)

  count : (d : Side) → nets.row_count (get_or (all_sides net.primitives) side d) ≡ row_count (gate_rows allowed)
  count d =
      ap nets.row_count (side_at_is net wired (end_of port 0) (gate_end w port takes allowed gate) d)
      ∙ ap (λ (b : Behaviour). b.rows (b.side_of 0)) (gate_is w port takes allowed gate)

  in_sides : side < length (all_sides net.primitives)
  in_sides = side_in_range net wired (end_of port 0) (gate_end w port takes allowed gate)

  pub plain_row : get_or rows side 0 < length (gate_rows allowed)
  plain_row =
      let below = is.assignment.in_tables side no_side in_sides here in
      let no_jam = eqb-false _ _ (is.no_jam side in_sides here) in
      least (get_or rows side 0) (nets.row_count (get_or (all_sides net.primitives) side no_side)) (length (gate_rows allowed)) below no_jam (count no_side)

  pub says : mark_at net rows (end_of port 0) ≡ mark_in (gate_rows allowed) (get_or rows side 0) 0
  unfolding mark_at
  says =
      ap (λ (b : Behaviour). b.mark (b.side_of 0) (row_at net rows (end_of port 0)) 0) (gate_is w port takes allowed gate)
      ∙ ap (λ (k : ℕ). mark_in (gate_rows allowed) k 0) (row_is net rows (end_of port 0))

-- A mark other than jam.
abbrev pub IsPlain : Mark → Type 0
IsPlain m = m ≢ J

-- The one row of a gate that says one thing says it.
one_row : (m : Mark) (row : ℕ) → IsPlain m → row < length (gate_rows (allowed_for m)) → mark_in (gate_rows (allowed_for m)) row 0 ≡ m
one_row F zero plain lt = refl
one_row F (suc row) plain lt = absurd (omega arith)
one_row G zero plain lt = refl
one_row G (suc row) plain lt = absurd (omega arith)
one_row R zero plain lt = refl
one_row R (suc row) plain lt = absurd (omega arith)
one_row J row plain lt = absurd (plain refl)

pub fixed_mark : (w : Wiring Open) → IsWired (net_of open_behaviour w) → (inside : ℕ → Bool) (port : ℕ) (takes : Bool) (m : Mark) → IsPlain m → IsGate w port takes (allowed_for m)
    → inside (side_at (net_of open_behaviour w) (end_of port 0)) ≡ true → (rows : List ℕ) (items : List (Option Value)) → IsThreeColouring (net_of open_behaviour w) inside rows items
    → mark_at (net_of open_behaviour w) rows (end_of port 0) ≡ m
fixed_mark w wired inside port takes m plain gate here rows items is =
    says w wired inside port takes (allowed_for m) gate here rows items is ∙ one_row m _ plain (plain_row w wired inside port takes (allowed_for m) gate here rows items is)

-- The row of a gate with all rows that says a mark.
abbrev row_for : Mark → ℕ
row_for F = 0
row_for G = 1
row_for R = 2
row_for J = 3

row_says : (m : Mark) (row : ℕ) → row ≡ row_for m → mark_in (gate_rows All) row 0 ≡ m
row_says F row is = rw (is) refl
row_says G row is = rw (is) refl
row_says R row is = rw (is) refl
row_says J row is = rw (is) refl

row_below : (m : Mark) → IsPlain m → row_for m < 3
row_below F plain = omega arith
row_below G plain = omega arith
row_below R plain = omega arith
row_below J plain = absurd (plain refl)

first_says : (m : Mark) (row : ℕ) → IsPlain m → row ≡ 0 → (mark_in (gate_rows (allowed_for m)) row 0 ≡ m) × (row + 1 < row_count (gate_rows (allowed_for m)))
first_says F row plain is = rw (is) (refl, omega arith)
first_says G row plain is = rw (is) (refl, omega arith)
first_says R row plain is = rw (is) (refl, omega arith)
first_says J row plain is = absurd (plain refl)

all_plain : (row : ℕ) → row < 3 → IsPlain (mark_in (gate_rows All) row 0)
all_plain zero lt e = cc
all_plain (suc zero) lt e = cc
all_plain (suc (suc zero)) lt e = cc
all_plain (suc (suc (suc row))) lt e = absurd (omega arith)

marks_same : (x y : Net) (ports : List ℕ) (a b : List ℕ) → ((q : ℕ) → Contains ports q → mark_at y b (end_of q 0) ≡ mark_at x a (end_of q 0)) → marks_at y ports b ≡ marks_at x ports a
marks_same x y [] a b same = refl
marks_same x y (q ∷ ports) a b same =
    ap (λ (m : Mark). m ∷ marks_at y ports b) (same q (0, omega arith, refl))
    ∙ ap (λ (ms : List Mark). mark_at x a (end_of q 0) ∷ ms) (marks_same x y ports a b (λ k h. same k (suc h.0, omega (arith, h.1), h.2)))

end_on : (bs ds : List Behaviour) → SameShapes bs ds → (e : End) → IsEnd bs e → IsEnd ds e
end_on bs ds r e is = (omega (arith, r.count, is.0), rw ((r.same e.primitive is.0).ends) is.1)

put_is : (q : Open) (ps : List Open) (i : ℕ) (d : Open) → i < length ps → get_or (change_at (λ _. q) ps i) i d ≡ q
put_is q [] i d lt = absurd (omega arith)
put_is q (p ∷ ps) zero d lt = refl
put_is q (p ∷ ps) (suc i) d lt = put_is q ps i d (omega arith)

-- What is put at a place stands there.
pub gate_put : (w : Wiring Open) (port : ℕ) (takes : Bool) (allowed : GateRows) → port < length w.primitives → IsGate (put_at w port (gate_of takes allowed)) port takes allowed
gate_put w port takes allowed lt = record {
  in_range = rw (change_length (λ _. gate_of takes allowed) w.primitives port) lt;
  is = λ d. put_is (gate_of takes allowed) w.primitives port d lt;
}

-- The side of a gate is the first of its primitive.
pub gate_place : (w : Wiring Open) (port : ℕ) (takes : Bool) (allowed : GateRows) → IsGate w port takes allowed → side_at (net_of open_behaviour w) (end_of port 0) ≡ first_side (net_of open_behaviour w).primitives port
gate_place w port takes allowed gate =
    let number : (behaviour_at (net_of open_behaviour w).primitives port).side_of 0 ≡ 0 = ap (λ (b : Behaviour). b.side_of 0) (gate_is w port takes allowed gate) in
    omega (arith, side_at_place (net_of open_behaviour w) (end_of port 0), number)

some_side : (w : Wiring Open) (port : ℕ) (takes : Bool) (allowed : GateRows) → IsGate w port takes allowed → 0 < (behaviour_at (net_of open_behaviour w).primitives port).sides
some_side w port takes allowed gate = rw (gate_is w port takes allowed gate) (omega arith)

-- A gate with all rows, and the circuit in which it says one thing.
module _ (w : Wiring Open) (wired : IsWired (net_of open_behaviour w)) (inside : ℕ → Bool) (closed : IsClosed (net_of open_behaviour w) inside)
    (port : ℕ) (takes : Bool) (gate : IsGate w port takes All) (m : Mark) (plain : IsPlain m) (fewer_wired : IsWired (net_of open_behaviour (put_at w port (gate_of takes (allowed_for m)))))
    (here : inside (side_at (net_of open_behaviour w) (end_of port 0)) ≡ true) where
  abbrev free : Net
  free = net_of open_behaviour w

  abbrev held : Net
  held = net_of open_behaviour (put_at w port (gate_of takes (allowed_for m)))

  abbrev all : Gate
  all = record { takes = takes; allowed = All }

  abbrev one : Gate
  one = record { takes = takes; allowed = allowed_for m }

  port_in : port < length free.primitives
  port_in = (gate_end w port takes All gate).0

  free_gate : behaviour_at free.primitives port ≡ gate_behaviour all
  free_gate = gate_is w port takes All gate

  held_gate : behaviour_at held.primitives port ≡ gate_behaviour one
  held_gate = changed_here (gate_of takes (allowed_for m)) w.primitives port gate.in_range

  pub shapes : SameShapes free.primitives held.primitives
  shapes = replaced open_behaviour (gate_of takes (allowed_for m)) w.primitives port (rw (free_gate) (gate_shape all (allowed_for m)))

  one_gate : IsGate (put_at w port (gate_of takes (allowed_for m))) port takes (allowed_for m)
  one_gate = gate_put w port takes (allowed_for m) gate.in_range

  held_place : side_at held (end_of port 0) ≡ side_at free (end_of port 0)
  held_place = side_same free.primitives held.primitives shapes w.joints (end_of port 0) (gate_end w port takes All gate)

  held_here : inside (side_at held (end_of port 0)) ≡ true
  held_here = ap inside held_place ∙ here

  pub held_closed : IsClosed held inside
  held_closed = closed_on free.primitives held.primitives w.joints wired shapes (length w.joints) (omega arith) inside closed

  module _ (ports : List ℕ) (ends : (q : ℕ) → Contains ports q → IsEnd free.primitives (end_of q 0)) (marks : List Mark) where
    -- What is met where the gate says one thing is met where it has all rows.
    pub met_free : IsMet held inside ports marks → IsMet free inside ports marks
    met_free it =
        let s : ℕ = first_side held.primitives port in
        let back = shapes_back free.primitives held.primitives shapes in
        let rows : List ℕ = set it.rows s (row_for m) in
        let in_range : s < length it.rows = omega (arith, it.without_jam.assignment.one_row, side_in held.primitives port 0 (gate_end _ port takes (allowed_for m) one_gate).0 (some_side _ port takes (allowed_for m) one_gate)) in
        let put : get_or rows s 0 ≡ row_for m = get_or-set_same it.rows s (row_for m) 0 in_range in
        let place = gate_place _ port takes (allowed_for m) one_gate in
        let below = plain_row _ fewer_wired inside port takes (allowed_for m) one_gate held_here it.rows it.items it.without_jam in
        let before : mark_in (gate_rows (allowed_for m)) (get_or it.rows s 0) 0 ≡ m = one_row m (get_or it.rows s 0) plain (subst (λ (k : ℕ). get_or it.rows k 0 < length (gate_rows (allowed_for m))) place below) in
        let says_same : mark_in (gate_rows All) (get_or rows s 0) 0 ≡ mark_in (gate_rows (allowed_for m)) (get_or it.rows s 0) 0 = row_says m (get_or rows s 0) put ∙ sym before in
        let others : (k : ℕ) → k ≢ s → get_or rows k 0 ≡ get_or it.rows k 0 = λ k ne. get_or-set_other it.rows s k (row_for m) 0 ne in
        let small : get_or rows s 0 + 1 < row_count (gate_rows All) = omega (arith, put, row_below m plain) in
        record {
          rows = rows;
          items = it.items;
          without_jam =
              three_recoloured held.primitives free.primitives w.joints fewer_wired back port (gate_end _ port takes (allowed_for m) one_gate).0 one all held_gate free_gate
              (λ i ne. sym (changed_other (gate_of takes (allowed_for m)) w.primitives port i ne)) rows it.rows says_same others inside held_closed small (length-set it.rows s (row_for m)) it.items it.without_jam;
          marks_are = it.marks_are ∙ sym (marks_same held free ports it.rows rows (λ q h.
              mark_same held.primitives free.primitives w.joints fewer_wired back port (gate_end _ port takes (allowed_for m) one_gate).0 one all held_gate free_gate
              (λ i ne. sym (changed_other (gate_of takes (allowed_for m)) w.primitives port i ne)) rows it.rows says_same others (end_of q 0) (end_on free.primitives held.primitives shapes (end_of q 0) (ends q h))));
        }

    -- What is met where the gate has all rows is met where it says what it says there.
    pub met_held : (it : IsMet free inside ports marks) → mark_at free it.rows (end_of port 0) ≡ m → IsMet held inside ports marks
    met_held it is =
        let s : ℕ = first_side free.primitives port in
        let rows : List ℕ = set it.rows s 0 in
        let in_range : s < length it.rows = omega (arith, it.without_jam.assignment.one_row, side_in free.primitives port 0 port_in (some_side w port takes All gate)) in
        let put : get_or rows s 0 ≡ 0 = get_or-set_same it.rows s 0 0 in_range in
        let place = gate_place w port takes All gate in
        let before : mark_in (gate_rows All) (get_or it.rows s 0) 0 ≡ m =
        subst (λ (k : ℕ). mark_in (gate_rows All) (get_or it.rows k 0) 0 ≡ m) place (sym (says w wired inside port takes All gate here it.rows it.items it.without_jam) ∙ is) in
        let now = first_says m (get_or rows s 0) plain put in
        let says_same : mark_in (gate_rows (allowed_for m)) (get_or rows s 0) 0 ≡ mark_in (gate_rows All) (get_or it.rows s 0) 0 = now.0 ∙ sym before in
        let others : (k : ℕ) → k ≢ s → get_or rows k 0 ≡ get_or it.rows k 0 = λ k ne. get_or-set_other it.rows s k 0 0 ne in
        record {
          rows = rows;
          items = it.items;
          without_jam =
              three_recoloured free.primitives held.primitives w.joints wired shapes port port_in all one free_gate held_gate
              (λ i ne. changed_other (gate_of takes (allowed_for m)) w.primitives port i ne) rows it.rows says_same others inside closed now.1 (length-set it.rows s 0) it.items it.without_jam;
          marks_are = it.marks_are ∙ sym (marks_same free held ports it.rows rows (λ q h.
              mark_same free.primitives held.primitives w.joints wired shapes port port_in all one free_gate held_gate
              (λ i ne. changed_other (gate_of takes (allowed_for m)) w.primitives port i ne) rows it.rows says_same others (end_of q 0) (ends q h)));
        }

-- A gate with all rows of a set that is not jammed says no jam.
pub free_plain : (w : Wiring Open) → IsWired (net_of open_behaviour w) → (inside : ℕ → Bool) (port : ℕ) (takes : Bool) → IsGate w port takes All
    → inside (side_at (net_of open_behaviour w) (end_of port 0)) ≡ true → (rows : List ℕ) (items : List (Option Value)) → IsThreeColouring (net_of open_behaviour w) inside rows items
    → IsPlain (mark_at (net_of open_behaviour w) rows (end_of port 0))
free_plain w wired inside port takes gate here rows items is e =
    all_plain _ (plain_row w wired inside port takes All gate here rows items is) (sym (says w wired inside port takes All gate here rows items is) ∙ e)
