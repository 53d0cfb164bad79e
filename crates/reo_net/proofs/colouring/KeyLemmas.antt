-- Comparing rows side by side.
use Rattle.std.proofs.Common.{◌≡◌, ℕ, suc, ◌+◌, ◌<◌, List, ◌∷◌, ◌++◌, Bool, cond, length, get_or, drop, refl, ap, sym, ◌∙◌, arith, add-one, zero-add, true, false}
use Rattle.std.proofs.Math.Seq.{drop-cons}
use Rattle.std.specs.Ordering.{nat_cmp, ordering_then, is_ne}
use Rattle.std.specs.declared.cmp.Ordering.{Ordering}
use Rattle.std.specs.declared.cmp.Ordering.TheVariants.{Less, Equal, Greater}
use Rattle.std.proofs.lemmas.List.{drop_all}
use Rattle.std.specs.Cmp.Lexicographic.{slice_cmp}
use Rattle.reo_net_base.specs.Net.{Net, Side, all_sides}
use Rattle.reo_net_base.specs.First.{Position, is_leading, class_position, leading_positions, class_positions, row_positions, order_by, order_of}
use Rattle.reo_net_laws.proofs.Places.{order-append}
use Rattle.reo_net_laws.proofs.Leading.{rows_from}

-- How the classes of the rows of a side compare.
abbrev pub class_cmp : ℕ → Side → ℕ → List ℕ → List ℕ → Ordering
class_cmp turn s k a b = nat_cmp (s.of.class s.number (get_or a k 0) turn) (s.of.class s.number (get_or b k 0) turn)

pub then_differs : (o r : Ordering) → is_ne o ≡ true → ordering_then o r ≡ o
then_differs Less r h = refl
then_differs Equal r h = cc
then_differs Greater r h = refl

pub then_same : (o r : Ordering) → is_ne o ≡ false → ordering_then o r ≡ r
then_same Less r h = cc
then_same Equal r h = refl
then_same Greater r h = cc

pub is_equal : (o : Ordering) → is_ne o ≡ false → o ≡ Equal
is_equal Less h = cc
is_equal Equal h = refl
is_equal Greater h = cc

module _ (turn : ℕ) (ss : List Side) (a b : List ℕ) where
  -- How the classes of the leading sides compare, from a side on.
  abbrev pub leading_from : ℕ → Ordering
  leading_from k = order_by (leading_positions turn (drop k ss) k) a b

  -- How the classes of all sides compare, from a side on.
  abbrev pub classes_from : ℕ → Ordering
  classes_from k = order_by (class_positions turn (drop k ss) k) a b

  leading_step : (k : ℕ) (d : Side) → k < length ss → leading_from k ≡ cond (is_leading (get_or ss k d)) (ordering_then (class_cmp turn (get_or ss k d) k a b) (leading_from (k + 1))) (leading_from (k + 1))
  leading_step k d lt =
      let s : Side = get_or ss k d in
      let later : List Position = leading_positions turn (drop (suc k) ss) (suc k) in
      rw (add-one, drop-cons ss k d lt)
      (elim (is_leading s) as (λ t. order_by (cond t (class_position turn s k ∷ later) later) a b ≡ cond t (ordering_then (class_cmp turn s k a b) (order_by later a b)) (order_by later a b)) [ true ↦ refl | false ↦ refl ])

  -- A leading side at which the classes differ decides.
  pub leading_differs : (k : ℕ) (d : Side) (whole : Ordering) → k < length ss → is_leading (get_or ss k d) ≡ true → is_ne (class_cmp turn (get_or ss k d) k a b) ≡ true → leading_from k ≡ whole
      → class_cmp turn (get_or ss k d) k a b ≡ whole
  leading_differs k d whole lt leads ne same =
      sym (leading_step k d lt ∙ ap (λ (t : Bool). cond t (ordering_then (class_cmp turn (get_or ss k d) k a b) (leading_from (k + 1))) (leading_from (k + 1))) leads ∙ then_differs (class_cmp turn (get_or ss k d) k a b) (leading_from (k + 1)) ne) ∙ same

  -- One at which they do not leaves it to the rest.
  pub leading_agrees : (k : ℕ) (d : Side) (whole : Ordering) → k < length ss → is_leading (get_or ss k d) ≡ true → is_ne (class_cmp turn (get_or ss k d) k a b) ≡ false → leading_from k ≡ whole → leading_from (k + 1) ≡ whole
  leading_agrees k d whole lt leads ne same =
      sym (leading_step k d lt ∙ ap (λ (t : Bool). cond t (ordering_then (class_cmp turn (get_or ss k d) k a b) (leading_from (k + 1))) (leading_from (k + 1))) leads ∙ then_same (class_cmp turn (get_or ss k d) k a b) (leading_from (k + 1)) ne) ∙ same

  -- So does a side that does not lead.
  pub leading_skips : (k : ℕ) (d : Side) (whole : Ordering) → k < length ss → is_leading (get_or ss k d) ≡ false → leading_from k ≡ whole → leading_from (k + 1) ≡ whole
  leading_skips k d whole lt leads same =
      sym (leading_step k d lt ∙ ap (λ (t : Bool). cond t (ordering_then (class_cmp turn (get_or ss k d) k a b) (leading_from (k + 1))) (leading_from (k + 1))) leads) ∙ same

  pub leading_ends : (k : ℕ) (whole : Ordering) → length ss ≡ k → leading_from k ≡ whole → Equal ≡ whole
  leading_ends k whole n same = rw (drop_all k ss (omega arith)) at same

  class_step : (k : ℕ) (d : Side) → k < length ss → classes_from k ≡ ordering_then (class_cmp turn (get_or ss k d) k a b) (classes_from (k + 1))
  class_step k d lt = rw (add-one, drop-cons ss k d lt) refl

  pub classes_differ : (k : ℕ) (d : Side) (whole : Ordering) → k < length ss → is_ne (class_cmp turn (get_or ss k d) k a b) ≡ true → classes_from k ≡ whole → class_cmp turn (get_or ss k d) k a b ≡ whole
  classes_differ k d whole lt ne same = sym (class_step k d lt ∙ then_differs (class_cmp turn (get_or ss k d) k a b) (classes_from (k + 1)) ne) ∙ same

  pub classes_agree : (k : ℕ) (d : Side) (whole : Ordering) → k < length ss → is_ne (class_cmp turn (get_or ss k d) k a b) ≡ false → classes_from k ≡ whole → classes_from (k + 1) ≡ whole
  classes_agree k d whole lt ne same = sym (class_step k d lt ∙ then_same (class_cmp turn (get_or ss k d) k a b) (classes_from (k + 1)) ne) ∙ same

  pub classes_end : (k : ℕ) (whole : Ordering) → length ss ≡ k → classes_from k ≡ whole → Equal ≡ whole
  classes_end k whole n same = rw (drop_all k ss (omega arith)) at same

-- The order by leading classes, classes and rows.
pub order_is : (net : Net) (turn : ℕ) (a b : List ℕ) → length a ≡ length (all_sides net.primitives) → length b ≡ length (all_sides net.primitives)
    → order_of net turn a b
    ≡ ordering_then (order_by (leading_positions turn (all_sides net.primitives) 0) a b) (ordering_then (order_by (class_positions turn (all_sides net.primitives) 0) a b) (slice_cmp nat_cmp a b))
order_is net turn a b one_a one_b =
    let ss : List Side = all_sides net.primitives in
    let rows : order_by (row_positions ss 0) a b ≡ slice_cmp nat_cmp a b = λ i. slice_cmp nat_cmp (rows_from ss 0 a (rw zero-add one_a) i) (rows_from ss 0 b (rw zero-add one_b) i) in
    order-append (leading_positions turn ss 0) (class_positions turn ss 0 ++ row_positions ss 0) a b
    ∙ ap (ordering_then (order_by (leading_positions turn ss 0) a b)) (order-append (class_positions turn ss 0) (row_positions ss 0) a b ∙ ap (ordering_then (order_by (class_positions turn ss 0) a b)) rows)
