-- Rows that are first in other rounds, and in circuits that are alike.
use Rattle.std.proofs.Common.{◌≡◌, ◌∙◌, ℕ, zero, suc, ◌+◌, ◌<◌, List, [], ◌∷◌, ◌++◌, Bool, true, false, Option, cond, length, get_or, refl, ap, sym, arith, zero-add, add-zero}
use Rattle.std.specs.Ordering.{nat_cmp}
use Rattle.std.specs.Cmp.Lexicographic.{slice_cmp}
use Rattle.reo_values.specs.declared.value.Value.{Value}
use Rattle.reo_net_base.specs.Behaviour.{Behaviour}
use Rattle.reo_net_base.specs.Net.{Net, Side, all_sides}
use Rattle.reo_net_base.specs.First.{Position, key_at, is_leading, class_position, leading_positions, class_positions, row_positions, positions}
use Rattle.reo_net_laws.specs.Keys.{within, IsFirstIn}
use Rattle.reo_net_laws.specs.Parts.{IsAssignment}
use Rattle.reo_net_laws.proofs.Isolation.{isolated}
use Rattle.reo_net_laws.proofs.Places.{key_split}
use Rattle.reo_net_laws.proofs.Sides.{owner_of, owner_side}
use Rattle.reo_part_plans.specs.Alike.{HaveSameClasses, AlikeSameRows}

-- Sides that have the same classes in the rounds of two numbers, by their rows in a list. The first has this number.
module _ (inside : ℕ → Bool) (rows : List ℕ) (turn later : ℕ) where
  abbrev AreSame : List Side → ℕ → Type 0
  AreSame ss k = (j : ℕ) (d : Side) → j < length ss → inside (k + j) ≡ true
      → (get_or ss j d).of.class (get_or ss j d).number (get_or rows (k + j) 0) later ≡ (get_or ss j d).of.class (get_or ss j d).number (get_or rows (k + j) 0) turn

  behind : (s : Side) (ss : List Side) (k : ℕ) → AreSame (s ∷ ss) k → AreSame ss (suc k)
  behind s ss k same j d lt h =
      let shift : k + suc j ≡ suc k + j = omega arith in
      rw shift at (same (suc j) d (omega arith) (rw shift h))

  -- One place more, whose numbers are the same.
  one_place : (p q : Position) (ps qs : List Position) (k : ℕ) → p.side ≡ k → q.side ≡ k → (inside k ≡ true → p.number (get_or rows p.side 0) ≡ q.number (get_or rows q.side 0))
      → key_at (within inside ps) rows ≡ key_at (within inside qs) rows → key_at (within inside (p ∷ ps)) rows ≡ key_at (within inside (q ∷ qs)) rows
  one_place p q ps qs k here there same rest =
      ap (λ (s : ℕ). key_at (cond (inside s) (p ∷ within inside ps) (within inside ps)) rows) here
      ∙ (elim (inside k) as (λ t. inside k ≡ t → key_at (cond t (p ∷ within inside ps) (within inside ps)) rows ≡ key_at (cond t (q ∷ within inside qs) (within inside qs)) rows) [
        | true ↦ λ e i. same e i ∷ rest i
        | false ↦ λ e. rest
      ] refl)
      ∙ ap (λ (s : ℕ). key_at (cond (inside s) (q ∷ within inside qs) (within inside qs)) rows) (sym there)

  class_key : (ss : List Side) (k : ℕ) → AreSame ss k → key_at (within inside (class_positions later ss k)) rows ≡ key_at (within inside (class_positions turn ss k)) rows
  class_key [] k same = refl
  class_key (s ∷ ss) k same =
      one_place (class_position later s k) (class_position turn s k) (class_positions later ss (suc k)) (class_positions turn ss (suc k)) k refl refl
      (λ h. rw add-zero at (same zero s (omega arith) (rw add-zero h))) (class_key ss (suc k) (behind s ss k same))

  leading_key : (ss : List Side) (k : ℕ) → AreSame ss k → key_at (within inside (leading_positions later ss k)) rows ≡ key_at (within inside (leading_positions turn ss k)) rows
  leading_key [] k same = refl
  leading_key (s ∷ ss) k same =
      let p : Position = class_position later s k in
      let q : Position = class_position turn s k in
      let ps : List Position = leading_positions later ss (suc k) in
      let qs : List Position = leading_positions turn ss (suc k) in
      let rest : key_at (within inside ps) rows ≡ key_at (within inside qs) rows = leading_key ss (suc k) (behind s ss k same) in
      elim (is_leading s) as (λ u. key_at (within inside (cond u (p ∷ ps) ps)) rows ≡ key_at (within inside (cond u (q ∷ qs) qs)) rows) [
        | true ↦ one_place p q ps qs k refl refl (λ h. rw add-zero at (same zero s (omega arith) (rw add-zero h))) rest
        | false ↦ rest
      ]

  all_keys : (ss : List Side) → AreSame ss 0
      → key_at (within inside (leading_positions later ss 0 ++ (class_positions later ss 0 ++ row_positions ss 0))) rows ≡ key_at (within inside (leading_positions turn ss 0 ++ (class_positions turn ss 0 ++ row_positions ss 0))) rows
  all_keys ss same =
      key_split inside (leading_positions later ss 0) (class_positions later ss 0 ++ row_positions ss 0) rows
      ∙ (λ i. leading_key ss 0 same i ++ (key_split inside (class_positions later ss 0) (row_positions ss 0) rows ∙ ap (λ (xs : List ℕ). xs ++ key_at (within inside (row_positions ss 0)) rows) (class_key ss 0 same)
      ∙ sym (key_split inside (class_positions turn ss 0) (row_positions ss 0) rows)) i)
      ∙ sym (key_split inside (leading_positions turn ss 0) (class_positions turn ss 0 ++ row_positions ss 0) rows)

module _ (net : Net) (inside : ℕ → Bool) (turn later : ℕ) (same : HaveSameClasses net inside turn later) where
  -- Rows of the tables have one key in both rounds.
  one_key : (rows : List ℕ) (items : List (Option Value)) → IsAssignment net inside rows items → key_at (within inside (positions net later)) rows ≡ key_at (within inside (positions net turn)) rows
  one_key rows items is = all_keys inside rows turn later (all_sides net.primitives) (λ j d lt g.
      let bs : List Behaviour = net.primitives in
      let h : inside j ≡ true = rw zero-add at g in
      let o = owner_of bs j lt in
      let below = rw (owner_side bs j o d) at (is.in_tables j d lt h) in
      rw zero-add (ap (λ (s : Side). s.of.class s.number (get_or rows j 0) later) (owner_side bs j o d)
      ∙ same o.primitive o.number (get_or rows j 0) o.primitive_in o.number_in (ap inside (sym o.place) ∙ h) below
      ∙ ap (λ (s : Side). s.of.class s.number (get_or rows j 0) turn) (sym (owner_side bs j o d))))

  first_later : (rows : List ℕ) (items : List (Option Value)) → IsFirstIn net inside turn rows items → IsFirstIn net inside later rows items
  first_later rows items first = record {
    assignment = first.assignment;
    least = λ others other_items is less.
        first.least others other_items is ((λ i. slice_cmp nat_cmp (sym (one_key others other_items is) i) (sym (one_key rows items first.assignment) i)) ∙ less);
  }

pub alike_same_rows : AlikeSameRows
alike_same_rows turn later net other wired wired_other inside closed alike same rows first = record {
  items = first.items;
  first = isolated net other wired wired_other inside closed alike later rows first.items (first_later net inside turn later same rows first.items first.first);
}
