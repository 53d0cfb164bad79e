-- Rows that are first by the same tables.
use Rattle.std.proofs.Common.{◌≡◌, ℕ, zero, suc, ◌+◌, ◌<◌, List, [], ◌∷◌, ◌++◌, Option, Bool, true, false, cond, length, get_or, refl, ap, sym, ◌∙◌, subst, arith, zero-add, add-zero}
use Rattle.std.specs.Ordering.{nat_cmp}
use Rattle.std.specs.Cmp.Lexicographic.{slice_cmp}
use Rattle.reo_values.specs.declared.value.Value.{Value}
use Rattle.reo_net_base.specs.declared.joint.End.{End}
use Rattle.reo_net_base.specs.declared.joint.Joint.{Joint}
use Rattle.reo_net_base.specs.Behaviour.{Behaviour, IsEndOf}
use Rattle.reo_net_base.specs.Net.{Net, Side, all_sides, behaviour_at, side_at, side_of_end, row_at, mark_at}
use Rattle.reo_net_base.specs.First.{Position, key_at, is_leading, class_position, leading_positions, class_positions, row_positions, positions}
use Rattle.reo_net_base.specs.Wired.{IsWired, IsEnd, IsOrder}
use Rattle.reo_net_laws.specs.Parts.{IsClosed, IsAssignment}
use Rattle.reo_net_laws.specs.Keys.{within}
use Rattle.reo_net_laws.specs.Alike.{AreAlike}
use Rattle.reo_net_laws.proofs.Sides.{owner_of, owner_side, side_at_place, row_is, side_in_range, row_in_table}
use Rattle.reo_net_laws.proofs.Assignments.{first_same_at, sides_same, side_same, side_other}
use Rattle.reo_net_base.specs.SameTables.{SameTable}
use Rattle.reo_net_laws.proofs.Isolation.{same_net}
use Rattle.reo_net_laws.specs.state_laws.States.{HaveSameTables, IsOpen, AreFitting, AreFirstRows, SameTablesSameRows}
use Rattle.reo_net_laws.proofs.state_laws.Open.{open_items}

-- Places of the same sides, at each of which in the set the rows have the same number.
module _ (inside : ℕ → Bool) (rows : List ℕ) where
  abbrev ArePlaces : List Position → List Position → Type 0
  ArePlaces [] [] = Unit {0}
  ArePlaces [] (q ∷ qs) = ⊥
  ArePlaces (p ∷ ps) [] = ⊥
  ArePlaces (p ∷ ps) (q ∷ qs) = (p.side ≡ q.side) × (inside q.side ≡ true → p.number (get_or rows p.side 0) ≡ q.number (get_or rows q.side 0)) × ArePlaces ps qs

  key_same : (ps qs : List Position) → ArePlaces ps qs → key_at (within inside ps) rows ≡ key_at (within inside qs) rows
  key_same [] [] h = refl
  key_same [] (q ∷ qs) h = absurd h
  key_same (p ∷ ps) [] h = absurd h
  key_same (p ∷ ps) (q ∷ qs) h =
      let rest = key_same ps qs h.2 in
      ap (λ (s : ℕ). key_at (cond (inside s) (p ∷ within inside ps) (within inside ps)) rows) h.0
      ∙ (elim (inside q.side) as (λ t. inside q.side ≡ t → key_at (cond t (p ∷ within inside ps) (within inside ps)) rows ≡ key_at (cond t (q ∷ within inside qs) (within inside qs)) rows) [
        | true ↦ λ e i. h.1 e i ∷ rest i
        | false ↦ λ e. rest
      ] refl)

  places-append : (ps qs more others : List Position) → ArePlaces ps qs → ArePlaces more others → ArePlaces (ps ++ more) (qs ++ others)
  places-append [] [] more others h g = g
  places-append [] (q ∷ qs) more others h g = absurd h
  places-append (p ∷ ps) [] more others h g = absurd h
  places-append (p ∷ ps) (q ∷ qs) more others h g = (h.0, h.1, places-append ps qs more others h.2 g)

  class_places : (later turn : ℕ) (ss ts : List Side) (k : ℕ) → length ts ≡ length ss
      → ((j : ℕ) (d : Side) → j < length ss → inside (k + j) ≡ true → (get_or ts j d).of.class (get_or ts j d).number (get_or rows (k + j) 0) later ≡ (get_or ss j d).of.class (get_or ss j d).number (get_or rows (k + j) 0) turn)
      → ArePlaces (class_positions later ts k) (class_positions turn ss k)
  class_places later turn [] [] k n h = tt
  class_places later turn [] (t ∷ ts) k n h = absurd (omega arith)
  class_places later turn (s ∷ ss) [] k n h = absurd (omega arith)
  class_places later turn (s ∷ ss) (t ∷ ts) k n h = (
    refl,
    λ g. rw add-zero at (h zero s (omega arith) (rw add-zero g)),
    class_places later turn ss ts (suc k) (omega arith) (λ j d lt g.
        let shift : k + suc j ≡ suc k + j = omega arith in
        rw shift at (h (suc j) d (omega arith) (rw shift g))),
  )

  leading_places : (later turn : ℕ) (ss ts : List Side) (k : ℕ) → length ts ≡ length ss → ((j : ℕ) (d : Side) → j < length ss → is_leading (get_or ts j d) ≡ is_leading (get_or ss j d))
      → ((j : ℕ) (d : Side) → j < length ss → inside (k + j) ≡ true → (get_or ts j d).of.class (get_or ts j d).number (get_or rows (k + j) 0) later ≡ (get_or ss j d).of.class (get_or ss j d).number (get_or rows (k + j) 0) turn)
      → ArePlaces (leading_positions later ts k) (leading_positions turn ss k)
  leading_places later turn [] [] k n leads h = tt
  leading_places later turn [] (t ∷ ts) k n leads h = absurd (omega arith)
  leading_places later turn (s ∷ ss) [] k n leads h = absurd (omega arith)
  leading_places later turn (s ∷ ss) (t ∷ ts) k n leads h =
      let p : Position = class_position later t k in
      let q : Position = class_position turn s k in
      let ps : List Position = leading_positions later ts (suc k) in
      let qs : List Position = leading_positions turn ss (suc k) in
      let rest : ArePlaces ps qs = leading_places later turn ss ts (suc k) (omega arith) (λ j d lt. leads (suc j) d (omega arith)) (λ j d lt g.
      let shift : k + suc j ≡ suc k + j = omega arith in
      rw shift at (h (suc j) d (omega arith) (rw shift g))) in
      subst (λ (u : Bool). ArePlaces (cond u (p ∷ ps) ps) (cond (is_leading s) (q ∷ qs) qs)) (sym (leads zero s (omega arith)))
      (elim (is_leading s) as (λ u. ArePlaces (cond u (p ∷ ps) ps) (cond u (q ∷ qs) qs)) [
        | true ↦ (refl, λ g. rw add-zero at (h zero s (omega arith) (rw add-zero g)), rest)
        | false ↦ rest
      ])

  row_places : (ss ts : List Side) (k : ℕ) → length ts ≡ length ss → ArePlaces (row_positions ts k) (row_positions ss k)
  row_places [] [] k n = tt
  row_places [] (t ∷ ts) k n = absurd (omega arith)
  row_places (s ∷ ss) [] k n = absurd (omega arith)
  row_places (s ∷ ss) (t ∷ ts) k n = (refl, λ g. refl, row_places ss ts (suc k) (omega arith))

-- Rows and items of an assignment fit.
fitting_of : (net : Net) (inside : ℕ → Bool) (rows : List ℕ) (items : List (Option Value)) → IsAssignment net inside rows items → AreFitting net inside rows
fitting_of net inside rows items is = record { one_row = is.one_row; in_tables = is.in_tables; matched = is.matched }

abbrev nowhere : ℕ → Bool
nowhere s = false

module _ (turn later : ℕ) (bs ds : List Behaviour) (js : List Joint) (wired : IsWired (record { primitives = bs; joints = js })) (inside : ℕ → Bool)
    (same : HaveSameTables turn later (record { primitives = bs; joints = js }) (record { primitives = ds; joints = js }) inside) where
  abbrev net : Net
  net = record { primitives = bs; joints = js }

  abbrev other : Net
  other = record { primitives = ds; joints = js }

  -- They are alike where nothing is asked but the shape.
  shaped : AreAlike net other nowhere
  shaped = record { joints = refl; count = same.count; shape = same.shape; sides = λ i side lt side_in h. let wrong : false ≡ true = h in cc }

  at_other : (e : End) → IsEnd bs e → side_at other e ≡ side_at net e
  at_other = side_same bs ds js wired nowhere shaped

  closed_too : IsClosed net inside → IsClosed other inside
  closed_too closed = record {
    along = λ j d lt.
        ap inside (at_other (get_or js j d).giver (wired.givers j d lt)) ∙ closed.along j d lt
        ∙ ap inside (sym (at_other (get_or js j d).taker (wired.takers j d lt)));
  }

  back : HaveSameTables later turn other net inside
  back = record {
    joints = refl;
    count = sym same.count;
    shape = λ i lt. let shape = same.shape i (omega (arith, same.count)) in
        record { ends = sym shape.ends; sides = sym shape.sides; side_of = λ end. sym (shape.side_of end); takes_in = λ end. sym (shape.takes_in end); leads = λ side. sym (shape.leads side) };
    sides = λ i side lt side_in h.
        let b : Behaviour = behaviour_at bs i in
        let d : Behaviour = behaviour_at ds i in
        let i_in : i < length bs = omega (arith, same.count) in
        let shape = same.shape i i_in in
        let here_in = rw shape.sides at side_in in
        let table = same.sides i side i_in here_in (ap (λ (f : ℕ). inside (f + side)) (sym (first_same_at bs ds js wired nowhere shaped i)) ∙ h) in
        let end_back : (end : ℕ) → IsEndOf d side end → IsEndOf b side end = λ end is. (rw shape.ends at is.0, sym (shape.side_of end) ∙ is.1) in
        record {
          rows = sym table.rows;
          mark = λ row end r is. sym (table.mark row end (rw table.rows at r) (end_back end is));
          class = λ row r. sym (table.class row (rw table.rows at r));
        };
  }

  module _ (closed : IsClosed net inside) (rows : List ℕ) (fit : AreFitting net inside rows) where
    module _ (e : End) (e_in : IsEnd bs e) (h : inside (side_at net e) ≡ true) where
      table : SameTable turn later (behaviour_at bs e.primitive) (behaviour_at ds e.primitive) ((behaviour_at bs e.primitive).side_of e.end)
      table = same.sides e.primitive ((behaviour_at bs e.primitive).side_of e.end) e_in.0 ((wired.lawful e.primitive e_in.0).sides_in e.end e_in.1) (ap inside (sym (side_at_place net e)) ∙ h)

      same_row : row_at other rows e ≡ row_at net rows e
      same_row = row_is other rows e ∙ ap (λ (k : ℕ). get_or rows k 0) (at_other e e_in) ∙ sym (row_is net rows e)

      in_table : row_at net rows e < (behaviour_at bs e.primitive).rows ((behaviour_at bs e.primitive).side_of e.end)
      in_table = row_in_table net wired e e_in rows (side_of_end net e) (fit.in_tables (side_at net e) (side_of_end net e) (side_in_range net wired e e_in) h)

      same_mark : mark_at other rows e ≡ mark_at net rows e
      unfolding mark_at
      same_mark = (λ i. (behaviour_at ds e.primitive).mark ((same.shape e.primitive e_in.0).side_of e.end i) (same_row i) e.end) ∙ table.mark (row_at net rows e) e.end in_table (e_in.1, refl)

    count_same : length (all_sides ds) ≡ length (all_sides bs)
    count_same = sides_same bs ds js wired nowhere shaped

    -- The same rows fit.
    fit_too : AreFitting other inside rows
    fit_too = record {
      one_row = fit.one_row ∙ sym count_same;
      in_tables = λ k d lt h.
          let k_in : k < length (all_sides bs) = omega (arith, lt, count_same) in
          let o = owner_of bs k k_in in
          let here = same.sides o.primitive o.number o.primitive_in o.number_in (ap inside (sym o.place) ∙ h) in
          let below = rw (owner_side bs k o d) at (fit.in_tables k d k_in h) in
          rw (side_other bs ds js wired nowhere shaped k o d, here.rows) below;
      matched = λ j d lt h.
          let joint : Joint = get_or js j d in
          let g = ap inside (sym (at_other joint.giver (wired.givers j d lt))) ∙ h in
          rw (same_mark joint.giver (wired.givers j d lt) g, same_mark joint.taker (wired.takers j d lt) (sym (closed.along j d lt) ∙ g)) (fit.matched j d lt g);
    }

    -- And they have the same key.
    same_key : key_at (within inside (positions other later)) rows ≡ key_at (within inside (positions net turn)) rows
    same_key =
        let ss : List Side = all_sides bs in
        let ts : List Side = all_sides ds in
        let same_class : (j : ℕ) (d : Side) → j < length ss → inside (0 + j) ≡ true → (get_or ts j d).of.class (get_or ts j d).number (get_or rows (0 + j) 0) later ≡ (get_or ss j d).of.class (get_or ss j d).number (get_or rows (0 + j) 0) turn = λ j d lt g.
        let h : inside j ≡ true = rw zero-add at g in
        let o = owner_of bs j lt in
        let here = same.sides o.primitive o.number o.primitive_in o.number_in (ap inside (sym o.place) ∙ h) in
        let below = rw (owner_side bs j o d) at (fit.in_tables j d lt h) in
        rw zero-add (ap (λ (s : Side). s.of.class s.number (get_or rows j 0) later) (side_other bs ds js wired nowhere shaped j o d)
        ∙ here.class (get_or rows j 0) below ∙ ap (λ (s : Side). s.of.class s.number (get_or rows j 0) turn) (sym (owner_side bs j o d))) in
        let same_leads : (j : ℕ) (d : Side) → j < length ss → is_leading (get_or ts j d) ≡ is_leading (get_or ss j d) = λ j d lt.
        let o = owner_of bs j lt in
        ap is_leading (side_other bs ds js wired nowhere shaped j o d) ∙ (same.shape o.primitive o.primitive_in).leads o.number ∙ ap is_leading (sym (owner_side bs j o d)) in
        key_same inside rows (positions other later) (positions net turn)
        (places-append inside rows (leading_positions later ts 0) (leading_positions turn ss 0) (class_positions later ts 0 ++ row_positions ts 0) (class_positions turn ss 0 ++ row_positions ss 0)
        (leading_places inside rows later turn ss ts 0 count_same same_leads same_class)
        (places-append inside rows (class_positions later ts 0) (class_positions turn ss 0) (row_positions ts 0) (row_positions ss 0) (class_places inside rows later turn ss ts 0 count_same same_class) (row_places inside rows ss ts 0 count_same)))

module _ (turn later : ℕ) (bs ds : List Behaviour) (js : List Joint) (wired : IsWired (record { primitives = bs; joints = js })) (wired_other : IsWired (record { primitives = ds; joints = js }))
    (order : List ℕ) (is_order : IsOrder (record { primitives = bs; joints = js }) order) (is_order_other : IsOrder (record { primitives = ds; joints = js }) order)
    (inside : ℕ → Bool) (closed : IsClosed (record { primitives = bs; joints = js }) inside)
    (same : HaveSameTables turn later (record { primitives = bs; joints = js }) (record { primitives = ds; joints = js }) inside)
    (lets : IsOpen (record { primitives = bs; joints = js }) inside) (lets_other : IsOpen (record { primitives = ds; joints = js }) inside) where
  first_there : (rows : List ℕ) → AreFirstRows (record { primitives = bs; joints = js }) inside turn rows → AreFirstRows (record { primitives = ds; joints = js }) inside later rows
  first_there rows first =
      let here : Net = record { primitives = bs; joints = js } in
      let there : Net = record { primitives = ds; joints = js } in
      let closed_other = closed_too turn later bs ds js wired inside same closed in
      let fit = fitting_of here inside rows first.items first.first.assignment in
      let found = open_items there wired_other order is_order_other inside closed_other lets_other rows (fit_too turn later bs ds js wired inside same closed rows fit) in
      record {
        items = found.0;
        first = record {
          assignment = found.1;
          least = λ others other_items is less.
              let again = back turn later bs ds js wired inside same in
              let fit_other = fitting_of there inside others other_items is in
              let fit_here = fit_too later turn ds bs js wired_other inside again closed_other others fit_other in
              let items = open_items here wired order is_order inside closed lets others fit_here in
              first.first.least others items.0 items.1
              ((λ i. slice_cmp nat_cmp (same_key later turn ds bs js wired_other inside again closed_other others fit_other i) (sym (same_key turn later bs ds js wired inside same closed rows fit) i)) ∙ less);
        };
      }

pub same_rows : SameTablesSameRows
same_rows turn later net other wired wired_other order is_order is_order_other inside closed tables lets lets_other rows first =
    let same = same_net net other tables.joints in
    subst (λ (n : Net). AreFirstRows n inside later rows) same
    (first_there turn later net.primitives other.primitives net.joints wired (subst IsWired (sym same) wired_other) order is_order (subst (λ (n : Net). IsOrder n order) (sym same) is_order_other)
    inside closed (subst (λ (n : Net). HaveSameTables turn later net n inside) (sym same) tables) lets (subst (λ (n : Net). IsOpen n inside) (sym same) lets_other) rows first)
