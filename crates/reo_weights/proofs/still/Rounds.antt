-- Comparing with rows by which nothing flows, in any round.
use Rattle.std.proofs.Common.{◌≡◌, ◌≢◌, ℕ, zero, suc, ◌+◌, ◌<◌, List, [], ◌∷◌, ◌++◌, Bool, true, false, cond, length, get_or, refl, ap, sym, ◌∙◌, arith, zero-add, add-zero}
use Rattle.std.proofs.lemmas.List.Elements.{filter-append}
use Rattle.std.specs.Ordering.{nat_cmp, ordering_then}
use Rattle.reo_net_base.specs.declared.mark.Mark.TheVariants.{F}
use Rattle.reo_net_base.specs.declared.joint.End.{End}
use Rattle.reo_net_base.specs.Behaviour.{IsEndOf}
use Rattle.reo_net_base.specs.Net.{Net, Side, all_sides, behaviour_at, row_count, end_of, side_at}
use Rattle.reo_net_base.specs.First.{Position, is_leading, class_position, leading_positions, class_positions, row_positions, positions, order_by}
use Rattle.reo_net_base.specs.Wired.{IsWired}
use Rattle.reo_net_laws.specs.Keys.{within}
use Rattle.reo_weights.proofs.Sides.{Owner, owner_of, owner_side, side_at_place}
use Rattle.reo_net_laws.proofs.Places.{order-append}
use Rattle.reo_net_laws.proofs.Flows.{mark_of}
use Rattle.reo_weights.specs.still.Still.{IsStill, StillPartsStayFirst}
use Rattle.reo_weights.proofs.still.Standing.{class_alike}

-- The classes of two rows of a side compare in two rounds alike.
abbrev AreAlikeAt : ℕ → ℕ → ℕ → ℕ → Side → Type 0
AreAlikeAt turn later x y s =
    nat_cmp (s.of.class s.number x turn) (s.of.class s.number y turn) ≡ nat_cmp (s.of.class s.number x later) (s.of.class s.number y later)

module _ (inside : ℕ → Bool) (x y : List ℕ) where
  order_split : (ps qs : List Position) → order_by (within inside (ps ++ qs)) x y ≡ ordering_then (order_by (within inside ps) x y) (order_by (within inside qs) x y)
  order_split ps qs = ap (λ (both : List Position). order_by both x y) (filter-append (λ (p : Position). inside p.side) ps qs) ∙ order-append (within inside ps) (within inside qs) x y

  -- Two places of one side at which rows compare alike, each with places by which they compare alike.
  one_more : (k : ℕ) (f g : ℕ → ℕ) (ps qs : List Position) → (inside k ≡ true → nat_cmp (f (get_or x k 0)) (f (get_or y k 0)) ≡ nat_cmp (g (get_or x k 0)) (g (get_or y k 0)))
      → order_by (within inside ps) x y ≡ order_by (within inside qs) x y
      → order_by (within inside (record { side = k; number = f } ∷ ps)) x y ≡ order_by (within inside (record { side = k; number = g } ∷ qs)) x y
  one_more k f g ps qs here rest =
      let p : Position = record { side = k; number = f } in
      let q : Position = record { side = k; number = g } in
      elim (inside k) as (λ t. inside k ≡ t → order_by (cond t (p ∷ within inside ps) (within inside ps)) x y ≡ order_by (cond t (q ∷ within inside qs) (within inside qs)) x y) [
        | true ↦ λ e i. ordering_then (here e i) (rest i)
        | false ↦ λ e. rest
      ] refl

  module _ (turn later : ℕ) where
    -- Of the sides from a number on, each that is in the set compares alike.
    abbrev AreAlikeFrom : List Side → ℕ → Type 0
    AreAlikeFrom ss k = (j : ℕ) (e : Side) → j < length ss → inside (k + j) ≡ true → AreAlikeAt turn later (get_or x (k + j) 0) (get_or y (k + j) 0) (get_or ss j e)

    first_alike : (s : Side) (ss : List Side) (k : ℕ) → AreAlikeFrom (s ∷ ss) k → inside k ≡ true → AreAlikeAt turn later (get_or x k 0) (get_or y k 0) s
    first_alike s ss k h e = rw add-zero at (h zero s (omega arith) (rw add-zero e))

    later_alike : (s : Side) (ss : List Side) (k : ℕ) → AreAlikeFrom (s ∷ ss) k → AreAlikeFrom ss (suc k)
    later_alike s ss k h j e lt g =
        let shift : k + suc j ≡ suc k + j = omega arith in
        rw shift at (h (suc j) e (omega arith) (rw shift g))

    classes_alike : (ss : List Side) (k : ℕ) → AreAlikeFrom ss k → order_by (within inside (class_positions turn ss k)) x y ≡ order_by (within inside (class_positions later ss k)) x y
    classes_alike [] k h = refl
    classes_alike (s ∷ ss) k h =
        one_more k (λ row. s.of.class s.number row turn) (λ row. s.of.class s.number row later) (class_positions turn ss (suc k)) (class_positions later ss (suc k))
        (first_alike s ss k h) (classes_alike ss (suc k) (later_alike s ss k h))

    leading_alike : (ss : List Side) (k : ℕ) → AreAlikeFrom ss k → order_by (within inside (leading_positions turn ss k)) x y ≡ order_by (within inside (leading_positions later ss k)) x y
    leading_alike [] k h = refl
    leading_alike (s ∷ ss) k h =
        let ps : List Position = leading_positions turn ss (suc k) in
        let qs : List Position = leading_positions later ss (suc k) in
        let rest : order_by (within inside ps) x y ≡ order_by (within inside qs) x y = leading_alike ss (suc k) (later_alike s ss k h) in
        elim (is_leading s) as (λ t. order_by (within inside (cond t (class_position turn s k ∷ ps) ps)) x y ≡ order_by (within inside (cond t (class_position later s k ∷ qs) qs)) x y) [
          | true ↦ one_more k (λ row. s.of.class s.number row turn) (λ row. s.of.class s.number row later) ps qs (first_alike s ss k h) rest
          | false ↦ rest
        ]

    positions_alike : (net : Net) → AreAlikeFrom (all_sides net.primitives) 0 → order_by (within inside (positions net turn)) x y ≡ order_by (within inside (positions net later)) x y
    positions_alike net h =
        let ss : List Side = all_sides net.primitives in
        let rows : List Position = row_positions ss 0 in
        order_split (leading_positions turn ss 0) (class_positions turn ss 0 ++ rows)
        ∙ ap (ordering_then (order_by (within inside (leading_positions turn ss 0)) x y)) (order_split (class_positions turn ss 0) rows)
        ∙ (λ i. ordering_then (leading_alike ss 0 h i) (ordering_then (classes_alike ss 0 h i) (order_by (within inside rows) x y)))
        ∙ sym (order_split (leading_positions later ss 0) (class_positions later ss 0 ++ rows)
        ∙ ap (ordering_then (order_by (within inside (leading_positions later ss 0)) x y)) (order_split (class_positions later ss 0) rows))

module _ (net : Net) (wired : IsWired net) (inside : ℕ → Bool) (rows : List ℕ) (still : IsStill net inside rows) where
  -- No end of a side of the set flows, by the side's primitive.
  still_at : (k : ℕ) (o : Owner net.primitives k) → inside k ≡ true → (end : ℕ) → IsEndOf (behaviour_at net.primitives o.primitive) o.number end
      → (behaviour_at net.primitives o.primitive).mark o.number (get_or rows k 0) end ≢ F
  still_at k o h end is flows =
      let e : End = end_of o.primitive end in
      let place : side_at net e ≡ k = omega (arith, side_at_place net e, is.1, o.place) in
      still e (o.primitive_in, is.0) (ap inside place ∙ h) (mark_of net rows k o end is.1 ∙ flows)

  -- Rows that are in their tables at the sides of a set.
  abbrev AreInTables : List ℕ → Type 0
  AreInTables xs = (k : ℕ) (d : Side) → k < length (all_sides net.primitives) → inside k ≡ true → get_or xs k 0 < row_count (get_or (all_sides net.primitives) k d)

  -- Other rows compare with rows by which nothing flows in each round alike.
  rounds_alike : (others : List ℕ) → AreInTables others → AreInTables rows → (turn later : ℕ) → order_by (within inside (positions net turn)) others rows ≡ order_by (within inside (positions net later)) others rows
  rounds_alike others others_in rows_in turn later =
      positions_alike inside others rows turn later net (λ j d lt g.
      let h : inside j ≡ true = rw zero-add at g in
      let o = owner_of net.primitives j lt in
      let other_in = rw (owner_side net.primitives j o d) at (others_in j d lt h) in
      let row_in = rw (owner_side net.primitives j o d) at (rows_in j d lt h) in
      rw (zero-add, owner_side net.primitives j o d)
      (class_alike (behaviour_at net.primitives o.primitive) (wired.lawful o.primitive o.primitive_in) o.number (get_or others j 0) (get_or rows j 0) o.number_in other_in row_in (still_at j o h) turn later))

-- So what is first in one round is first in each.
pub still_stay_first : StillPartsStayFirst
still_stay_first net wired inside turn later rows items first still = record {
  assignment = first.assignment;
  least = λ others other_items is less.
      first.least others other_items is (rounds_alike net wired inside rows still others is.in_tables first.assignment.in_tables turn later ∙ less);
}
