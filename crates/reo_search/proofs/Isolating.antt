-- The first rows of a part are the same in circuits that are alike there.
use Rattle.std.proofs.Common.{◌≡◌, inl, inr, ℕ, zero, suc, ◌+◌, ◌<◌, Bool, true, List, [], ◌∷◌, length, get_or, refl, ap, sym, ◌∙◌, subst, arith}
use Rattle.std.proofs.lemmas.Bool.{eqb-true, or_cases}
use Rattle.std.specs.Bool.{◌==◌}
use Rattle.std.specs.List.{filter, range_with_len}
use Rattle.reo_net_base.specs.declared.joint.Joint.{Joint}
use Rattle.reo_net_base.specs.Behaviour.{Behaviour}
use Rattle.reo_net_base.specs.Net.{Net}
use Rattle.reo_net_base.specs.Sides.{side_count}
use Rattle.reo_net_base.specs.Wired.{IsWired, IsOrder}
use Rattle.reo_net_laws.specs.Parts.{IsClosed}
use Rattle.reo_net_laws.specs.Alike.{AreAlike}
use Rattle.reo_net_laws.specs.Sublists.{sides_in, part_rows}
use Rattle.reo_net_laws.proofs.Assignments.{sides_same, side_same}
use Rattle.reo_net_laws.proofs.Isolation.{isolated, same_net}
use Rattle.reo_net_laws.proofs.OneFirst.{one_inside}
use Rattle.reo_propagate.specs.Queues.{among}
use Rattle.reo_propagate.proofs.Among.{among_filter}
use Rattle.reo_walk.specs.declared.part.Part.{Part}
use Rattle.reo_search.specs.First.{AreFirstRows}
use Rattle.reo_search.specs.Isolated.{FirstRowsAgree}
use Rattle.reo_walk.proofs.Resting.{among_at}

-- Rows that are the same at each of some sides.
pub rows_same : (sides a b : List ℕ) → ((m : ℕ) → m < length sides → get_or a (get_or sides m 0) 0 ≡ get_or b (get_or sides m 0) 0) → part_rows sides a ≡ part_rows sides b
rows_same [] a b same = refl
rows_same (s ∷ ss) a b same =
    let here = same zero (omega arith) in
    let rest = rows_same ss a b (λ m lt. same (suc m) (omega arith)) in
    λ i. here i ∷ rest i

range_below : (a n s : ℕ) → among (range_with_len a n) s ≡ true → s < a + n
range_below a zero s h = cc
range_below a (suc n) s h = elim (or_cases (a == s) (among (range_with_len (a + 1) n) s) h) [
  | inl here ↦ let e : a ≡ s = eqb-true a s here in omega (arith, e)
  | inr there ↦ let lt : s < (a + 1) + n = range_below (a + 1) n s there in omega (arith, lt)
]

module _ (bs ds : List Behaviour) (js : List Joint) (wired : IsWired (record { primitives = bs; joints = js })) (inside : ℕ → Bool)
    (alike : AreAlike (record { primitives = bs; joints = js }) (record { primitives = ds; joints = js }) inside) where
  abbrev net : Net
  net = record { primitives = bs; joints = js }

  abbrev other : Net
  other = record { primitives = ds; joints = js }

  closed_there : IsClosed net inside → IsClosed other inside
  closed_there closed = record {
    along = λ j d lt.
        ap inside (side_same bs ds js wired inside alike (get_or js j d).giver (wired.givers j d lt))
        ∙ closed.along j d lt
        ∙ sym (ap inside (side_same bs ds js wired inside alike (get_or js j d).taker (wired.takers j d lt)));
  }

  sides_agree : sides_in net inside ≡ sides_in other inside
  sides_agree = ap (λ (n : ℕ). filter inside (range_with_len 0 n)) (sym (sides_same bs ds js wired inside alike))

  agree : IsWired other → (order : List ℕ) → IsOrder other order → IsClosed net inside → (turn : ℕ) (part other_part : Part) → AreFirstRows net inside turn part → AreFirstRows other inside turn other_part
      → (part.sides ≡ other_part.sides) × (part.rows ≡ other_part.rows)
  agree wired_other order is_order closed turn part other_part p q =
      let same =
      one_inside other wired_other order is_order inside (closed_there closed) turn p.rows q.rows p.items q.items
      (isolated net other wired wired_other inside closed alike turn p.rows p.items p.first) q.first in
      let at : (m : ℕ) → m < length (sides_in other inside) → get_or p.rows (get_or (sides_in other inside) m 0) 0 ≡ get_or q.rows (get_or (sides_in other inside) m 0) 0 =
      λ m lt.
      let s : ℕ = get_or (sides_in other inside) m 0 in
      let is = among_filter inside (range_with_len 0 (side_count other)) s (among_at (sides_in other inside) m lt) in
      let s_lt = range_below 0 (side_count other) s is.1 in
      same.rows s (omega (arith, s_lt)) is.0 in (
        p.sides ∙ sides_agree ∙ sym q.sides,
        p.rows_are ∙ ap (λ (xs : List ℕ). part_rows xs p.rows) sides_agree ∙ rows_same (sides_in other inside) p.rows q.rows at ∙ sym q.rows_are,
      )

-- They have the same first rows.
pub first_rows_agree : FirstRowsAgree
first_rows_agree a b wired wired_other order is_order inside closed alike turn part other_part p q =
    let same = same_net a b alike.joints in
    agree a.primitives b.primitives a.joints wired inside (subst (λ (n : Net). AreAlike a n inside) (sym same) alike)
    (subst IsWired (sym same) wired_other) order (subst (λ (n : Net). IsOrder n order) (sym same) is_order) closed turn part other_part p
    (subst (λ (n : Net). AreFirstRows n inside turn other_part) (sym same) q)
