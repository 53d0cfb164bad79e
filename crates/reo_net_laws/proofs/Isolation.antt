-- Circuits that are alike on a closed set.
use Rattle.std.proofs.Common.{◌≡◌, ℕ, zero, suc, ◌+◌, ◌<◌, List, [], ◌∷◌, ◌++◌, Option, Bool, true, false, cond, length, get_or, refl, ap, sym, ◌∙◌, subst, arith, zero-add, add-zero}
use Rattle.std.specs.Ordering.{nat_cmp}
use Rattle.std.specs.Cmp.Lexicographic.{slice_cmp}
use Rattle.reo_values.specs.declared.value.Value.{Value}
use Rattle.reo_net_base.specs.declared.joint.Joint.{Joint}
use Rattle.reo_net_base.specs.Behaviour.{Behaviour, IsEndOf}
use Rattle.reo_net_base.specs.Lawful.{GivesAt}
use Rattle.reo_net_base.specs.Net.{Net, Side, all_sides, behaviour_at}
use Rattle.reo_net_base.specs.First.{Position, key_at, is_leading, class_position, leading_positions, class_positions, row_positions, positions}
use Rattle.reo_net_base.specs.Wired.{IsWired}
use Rattle.reo_net_laws.specs.Parts.{IsClosed, IsAssignment}
use Rattle.reo_net_laws.specs.Keys.{within, IsFirstIn}
use Rattle.reo_net_laws.specs.Alike.{AreAlike, IsIsolated, FirstsAgree}
use Rattle.reo_net_laws.proofs.Sides.{owner_of, owner_side}
use Rattle.reo_net_laws.proofs.Assignments.{first_same_at, sides_same, side_same, side_other, side_inside, carried}
use Rattle.reo_net_laws.proofs.FirstInside.{first_inside}
use Rattle.reo_net_laws.proofs.OneFirst.{one_inside}

-- Places of the same sides, at each of which in the set the rows have the same number.
module _ (inside : ℕ → Bool) (rows : List ℕ) where
  abbrev ArePlaces : List Position → List Position → Type 0
  ArePlaces [] [] = Unit {0}
  ArePlaces [] (q ∷ qs) = ⊥
  ArePlaces (p ∷ ps) [] = ⊥
  ArePlaces (p ∷ ps) (q ∷ qs) = (p.side ≡ q.side) × (inside q.side ≡ true → p.number (get_or rows p.side 0) ≡ q.number (get_or rows q.side 0)) × ArePlaces ps qs

  key_same : (ps qs : List Position) → ArePlaces ps qs → key_at (within inside ps) rows ≡ key_at (within inside qs) rows
  key_same [] [] h = refl
  key_same [] (q ∷ qs) h = absurd h
  key_same (p ∷ ps) [] h = absurd h
  key_same (p ∷ ps) (q ∷ qs) h =
      let rest = key_same ps qs h.2 in
      ap (λ (s : ℕ). key_at (cond (inside s) (p ∷ within inside ps) (within inside ps)) rows) h.0
      ∙ (elim (inside q.side) as (λ t. inside q.side ≡ t → key_at (cond t (p ∷ within inside ps) (within inside ps)) rows ≡ key_at (cond t (q ∷ within inside qs) (within inside qs)) rows) [
        | true ↦ λ e i. h.1 e i ∷ rest i
        | false ↦ λ e. rest
      ] refl)

  places-append : (ps qs more others : List Position) → ArePlaces ps qs → ArePlaces more others → ArePlaces (ps ++ more) (qs ++ others)
  places-append [] [] more others h g = g
  places-append [] (q ∷ qs) more others h g = absurd h
  places-append (p ∷ ps) [] more others h g = absurd h
  places-append (p ∷ ps) (q ∷ qs) more others h g = (h.0, h.1, places-append ps qs more others h.2 g)

  class_places : (turn : ℕ) (ss ts : List Side) (k : ℕ) → length ts ≡ length ss
      → ((j : ℕ) (d : Side) → j < length ss → inside (k + j) ≡ true → (get_or ts j d).of.class (get_or ts j d).number (get_or rows (k + j) 0) turn ≡ (get_or ss j d).of.class (get_or ss j d).number (get_or rows (k + j) 0) turn)
      → ArePlaces (class_positions turn ts k) (class_positions turn ss k)
  class_places turn [] [] k n h = tt
  class_places turn [] (t ∷ ts) k n h = absurd (omega arith)
  class_places turn (s ∷ ss) [] k n h = absurd (omega arith)
  class_places turn (s ∷ ss) (t ∷ ts) k n h = (
    refl,
    λ g. rw add-zero at (h zero s (omega arith) (rw add-zero g)),
    class_places turn ss ts (suc k) (omega arith) (λ j d lt g.
        let shift : k + suc j ≡ suc k + j = omega arith in
        rw shift at (h (suc j) d (omega arith) (rw shift g))),
  )

  leading_places : (turn : ℕ) (ss ts : List Side) (k : ℕ) → length ts ≡ length ss → ((j : ℕ) (d : Side) → j < length ss → is_leading (get_or ts j d) ≡ is_leading (get_or ss j d))
      → ((j : ℕ) (d : Side) → j < length ss → inside (k + j) ≡ true → (get_or ts j d).of.class (get_or ts j d).number (get_or rows (k + j) 0) turn ≡ (get_or ss j d).of.class (get_or ss j d).number (get_or rows (k + j) 0) turn)
      → ArePlaces (leading_positions turn ts k) (leading_positions turn ss k)
  leading_places turn [] [] k n leads h = tt
  leading_places turn [] (t ∷ ts) k n leads h = absurd (omega arith)
  leading_places turn (s ∷ ss) [] k n leads h = absurd (omega arith)
  leading_places turn (s ∷ ss) (t ∷ ts) k n leads h =
      let p : Position = class_position turn t k in
      let q : Position = class_position turn s k in
      let ps : List Position = leading_positions turn ts (suc k) in
      let qs : List Position = leading_positions turn ss (suc k) in
      let rest : ArePlaces ps qs = leading_places turn ss ts (suc k) (omega arith) (λ j d lt. leads (suc j) d (omega arith)) (λ j d lt g.
      let shift : k + suc j ≡ suc k + j = omega arith in
      rw shift at (h (suc j) d (omega arith) (rw shift g))) in
      subst (λ (u : Bool). ArePlaces (cond u (p ∷ ps) ps) (cond (is_leading s) (q ∷ qs) qs)) (sym (leads zero s (omega arith)))
      (elim (is_leading s) as (λ u. ArePlaces (cond u (p ∷ ps) ps) (cond u (q ∷ qs) qs)) [
        | true ↦ (refl, λ g. rw add-zero at (h zero s (omega arith) (rw add-zero g)), rest)
        | false ↦ rest
      ])

  row_places : (ss ts : List Side) (k : ℕ) → length ts ≡ length ss → ArePlaces (row_positions ts k) (row_positions ss k)
  row_places [] [] k n = tt
  row_places [] (t ∷ ts) k n = absurd (omega arith)
  row_places (s ∷ ss) [] k n = absurd (omega arith)
  row_places (s ∷ ss) (t ∷ ts) k n = (refl, λ g. refl, row_places ss ts (suc k) (omega arith))

module _ (bs ds : List Behaviour) (js : List Joint) (wired : IsWired (record { primitives = bs; joints = js })) (inside : ℕ → Bool)
    (alike : AreAlike (record { primitives = bs; joints = js }) (record { primitives = ds; joints = js }) inside) where
  abbrev net : Net
  net = record { primitives = bs; joints = js }

  abbrev other : Net
  other = record { primitives = ds; joints = js }

  -- The same rows and items are an assignment of both.
  alike_assignment : IsClosed net inside → (rows : List ℕ) (items : List (Option Value)) → IsAssignment net inside rows items → IsAssignment other inside rows items
  alike_assignment closed rows items is =
      carried bs ds js wired inside alike closed rows rows items items is is.one_row is.one_item (λ k lt h. refl) (λ j d lt h. refl)

  -- Both have the same key there.
  alike_key : (rows : List ℕ) (items : List (Option Value)) → IsAssignment net inside rows items → (turn : ℕ) → key_at (within inside (positions other turn)) rows ≡ key_at (within inside (positions net turn)) rows
  alike_key rows items is turn =
      let count = sides_same bs ds js wired inside alike in
      let ss : List Side = all_sides bs in
      let ts : List Side = all_sides ds in
      let same_class : (j : ℕ) (d : Side) → j < length ss → inside (0 + j) ≡ true → (get_or ts j d).of.class (get_or ts j d).number (get_or rows (0 + j) 0) turn ≡ (get_or ss j d).of.class (get_or ss j d).number (get_or rows (0 + j) 0) turn = λ j d lt g.
      let h : inside j ≡ true = rw zero-add at g in
      let o = owner_of bs j lt in
      let below = rw (owner_side bs j o d) at (is.in_tables j d lt h) in
      rw zero-add (ap (λ (s : Side). s.of.class s.number (get_or rows j 0) turn) (side_other bs ds js wired inside alike j o d)
      ∙ (side_inside bs ds js wired inside alike j o h).class (get_or rows j 0) turn below ∙ ap (λ (s : Side). s.of.class s.number (get_or rows j 0) turn) (sym (owner_side bs j o d))) in
      let same_leads : (j : ℕ) (d : Side) → j < length ss → is_leading (get_or ts j d) ≡ is_leading (get_or ss j d) = λ j d lt.
      let o = owner_of bs j lt in
      ap is_leading (side_other bs ds js wired inside alike j o d) ∙ (alike.shape o.primitive o.primitive_in).leads o.number ∙ ap is_leading (sym (owner_side bs j o d)) in
      key_same inside rows (positions other turn) (positions net turn)
      (places-append inside rows (leading_positions turn ts 0) (leading_positions turn ss 0) (class_positions turn ts 0 ++ row_positions ts 0) (class_positions turn ss 0 ++ row_positions ss 0)
      (leading_places inside rows turn ss ts 0 count same_leads same_class)
      (places-append inside rows (class_positions turn ts 0) (class_positions turn ss 0) (row_positions ts 0) (row_positions ss 0) (class_places inside rows turn ss ts 0 count same_class) (row_places inside rows ss ts 0 count)))

  closed_too : IsClosed net inside → IsClosed other inside
  closed_too closed = record {
    along = λ j d lt.
        ap inside (side_same bs ds js wired inside alike (get_or js j d).giver (wired.givers j d lt)) ∙ closed.along j d lt
        ∙ ap inside (sym (side_same bs ds js wired inside alike (get_or js j d).taker (wired.takers j d lt)));
  }

  alike_back : AreAlike other net inside
  alike_back = record {
    joints = refl;
    count = sym alike.count;
    shape = λ i lt. let shape = alike.shape i (omega (arith, alike.count)) in
        record { ends = sym shape.ends; sides = sym shape.sides; side_of = λ end. sym (shape.side_of end); takes_in = λ end. sym (shape.takes_in end); leads = λ side. sym (shape.leads side) };
    sides = λ i side lt side_in h.
        let b : Behaviour = behaviour_at bs i in
        let d : Behaviour = behaviour_at ds i in
        let i_in : i < length bs = omega (arith, alike.count) in
        let shape = alike.shape i i_in in
        let here_in = rw shape.sides at side_in in
        let same = alike.sides i side i_in here_in (ap (λ (f : ℕ). inside (f + side)) (sym (first_same_at bs ds js wired inside alike i)) ∙ h) in
        let end_back : (end : ℕ) → IsEndOf d side end → IsEndOf b side end = λ end is. (rw shape.ends at is.0, sym (shape.side_of end) ∙ is.1) in
        let gives_back : (row end : ℕ) → GivesAt d side row end → GivesAt b side row end = λ row end gives.
        let below = rw same.rows at gives.in_table in
        record { of_side = here_in; in_table = below; is_end = end_back end gives.is_end; gives = sym (shape.takes_in end) ∙ gives.gives; flows = sym (same.mark row end below (end_back end gives.is_end)) ∙ gives.flows } in
        record {
          rows = sym same.rows;
          mark = λ row end r is. sym (same.mark row end (rw same.rows at r) (end_back end is));
          class = λ row turn r. sym (same.class row turn (rw same.rows at r));
          from = λ row end gives. sym (same.from row end (gives_back row end gives));
          given = λ row end taken gives. sym (same.given row end taken (gives_back row end gives));
          passes = λ row end item r is takes. sym (same.passes row end item (rw same.rows at r) (end_back end is) (sym (shape.takes_in end) ∙ takes));
        };
  }

-- The circuit that is alike, with the joints of the first.
pub same_net : (net other : Net) → other.joints ≡ net.joints → record { primitives = other.primitives; joints = net.joints } ≡ other
same_net net other same i = record { primitives = other.primitives; joints = sym same i }

module _ (bs ds : List Behaviour) (js : List Joint) (wired : IsWired (record { primitives = bs; joints = js })) (wired_other : IsWired (record { primitives = ds; joints = js })) (inside : ℕ → Bool)
    (closed : IsClosed (record { primitives = bs; joints = js }) inside) (alike : AreAlike (record { primitives = bs; joints = js }) (record { primitives = ds; joints = js }) inside) where
  isolated_there : (turn : ℕ) (rows : List ℕ) (items : List (Option Value)) → IsFirstIn (record { primitives = bs; joints = js }) inside turn rows items → IsFirstIn (record { primitives = ds; joints = js }) inside turn rows items
  isolated_there turn rows items first = record {
    assignment = alike_assignment bs ds js wired inside alike closed rows items first.assignment;
    least = λ others other_items is less.
        let back = alike_back bs ds js wired inside alike in
        let closed_there = closed_too bs ds js wired inside alike closed in
        first.least others other_items (alike_assignment ds bs js wired_other inside back closed_there others other_items is)
        ((λ i. slice_cmp nat_cmp (alike_key ds bs js wired_other inside back others other_items is turn i) (sym (alike_key bs ds js wired inside alike rows items first.assignment turn) i)) ∙ less);
  }

pub isolated : IsIsolated
isolated net other wired wired_other inside closed alike turn rows items first =
    let same = same_net net other alike.joints in
    subst (λ (n : Net). IsFirstIn n inside turn rows items) same
    (isolated_there net.primitives other.primitives net.joints wired (subst IsWired (sym same) wired_other) inside closed (subst (λ (n : Net). AreAlike net n inside) (sym same) alike) turn rows items first)

closed_in : (net other : Net) → IsWired net → (inside : ℕ → Bool) → IsClosed net inside → AreAlike net other inside → IsClosed other inside
closed_in net other wired inside closed alike =
    let same = same_net net other alike.joints in
    subst (λ (n : Net). IsClosed n inside) same (closed_too net.primitives other.primitives net.joints wired inside (subst (λ (n : Net). AreAlike net n inside) (sym same) alike) closed)

pub firsts_agree : FirstsAgree
firsts_agree net other wired wired_other order is_order inside closed alike turn rows others items other_items first first_other =
    let closed_there = closed_in net other wired inside closed alike in
    one_inside other wired_other order is_order inside closed_there turn rows others items other_items
    (isolated net other wired wired_other inside closed alike turn rows items (first_inside net wired turn rows items first inside closed))
    (first_inside other wired_other turn others other_items first_other inside closed_there)
