-- What decides the order of two lists of rows.
use Rattle.std.proofs.Common.{◌≡◌, ◌≢◌, ℕ, zero, suc, ◌+◌, ◌<◌, List, [], ◌∷◌, ◌++◌, Bool, true, false, cond, length, get_or, drop, map, refl, ap, sym, ◌∙◌, arith, zero-add, add-zero, add-one}
use Rattle.std.proofs.Math.Seq.{drop-cons}
use Rattle.std.proofs.lemmas.List.{drop_all}
use Rattle.std.specs.List.{range_with_len}
use Rattle.std.specs.declared.cmp.Ordering.{Ordering}
use Rattle.std.specs.declared.cmp.Ordering.TheVariants.{Less, Equal, Greater}
use Rattle.std.specs.Ordering.{nat_cmp, ordering_then}
use Rattle.std.specs.Cmp.{ranked}
use Rattle.std.specs.Cmp.Lexicographic.{slice_cmp}
use Rattle.reo_net_base.specs.Net.{Net, Side, all_sides, no_side}
use Rattle.reo_net_base.specs.First.{Position, key_at, is_leading, class_position, leading_positions, class_positions, row_positions, order_by}
use Rattle.reo_net_laws.specs.Keys.{class_in}
use Rattle.reo_net_laws.specs.Leading.{LeadingComeFirst, classes_in, AllSidesComeNext}
use Rattle.reo_net_laws.proofs.Places.{equal_numbers, key-append}

-- Numbers that differ decide.
decides : (o r : Ordering) → o ≢ Equal → ordering_then o r ≡ o
decides Less r h = refl
decides Equal r h = absurd (h refl)
decides Greater r h = refl

not_equal : (x y : ℕ) → x ≢ y → nat_cmp x y ≢ Equal
not_equal x y differ e = differ (ranked x y Equal (sym e))

-- The number that a side's class puts in a key.
abbrev class_from : ℕ → Side → ℕ → List ℕ → ℕ
class_from turn s k rows = s.of.class s.number (get_or rows k 0) turn

module _ (turn : ℕ) (a b : List ℕ) (qs : List Position) where
  -- The first leading side at which the classes differ decides.
  first_leading : (ss : List Side) (k j : ℕ) (e : Side) → j < length ss → is_leading (get_or ss j e) ≡ true → class_from turn (get_or ss j e) (k + j) a ≢ class_from turn (get_or ss j e) (k + j) b
      → ((i : ℕ) → i < j → is_leading (get_or ss i e) ≡ true → class_from turn (get_or ss i e) (k + i) a ≡ class_from turn (get_or ss i e) (k + i) b)
      → order_by (leading_positions turn ss k ++ qs) a b ≡ nat_cmp (class_from turn (get_or ss j e) (k + j) a) (class_from turn (get_or ss j e) (k + j) b)
  first_leading [] k j e lt leads differ before = absurd (omega arith)
  first_leading (s ∷ ss) k zero e lt leads differ before =
      let later : List Position = leading_positions turn ss (suc k) in
      let x : ℕ = class_from turn s k a in
      let y : ℕ = class_from turn s k b in
      ap (λ (t : Bool). order_by (cond t (class_position turn s k ∷ later) later ++ qs) a b) leads
      ∙ decides (nat_cmp x y) (order_by (later ++ qs) a b) (not_equal x y (rw add-zero at differ))
      ∙ rw add-zero refl
  first_leading (s ∷ ss) k (suc j) e lt leads differ before =
      let later : List Position = leading_positions turn ss (suc k) in
      let shift : (i : ℕ) → k + suc i ≡ suc k + i = λ i. omega arith in
      let whole = nat_cmp (class_from turn (get_or ss j e) (k + suc j) a) (class_from turn (get_or ss j e) (k + suc j) b) in
      let rest : order_by (later ++ qs) a b ≡ whole =
      rw (shift j) (first_leading ss (suc k) j e (omega arith) leads (rw (shift j) at differ) (λ i i_lt h. rw (shift i) at (before (suc i) (omega (arith, i_lt)) h))) in
      elim (is_leading s) as (λ t. is_leading s ≡ t → order_by (cond t (class_position turn s k ∷ later) later ++ qs) a b ≡ whole) [
        | true ↦ λ h. ap (λ (o : Ordering). ordering_then o (order_by (later ++ qs) a b)) (equal_numbers (class_from turn s k a) (class_from turn s k b) (rw add-zero at (before zero (omega arith) h))) ∙ rest
        | false ↦ λ h. rest
      ] refl

  -- Where the classes differ at none, the rest decides.
  none_leading : (ss : List Side) (k : ℕ) (e : Side) → ((i : ℕ) → i < length ss → is_leading (get_or ss i e) ≡ true → class_from turn (get_or ss i e) (k + i) a ≡ class_from turn (get_or ss i e) (k + i) b)
      → order_by (leading_positions turn ss k ++ qs) a b ≡ order_by qs a b
  none_leading [] k e same = refl
  none_leading (s ∷ ss) k e same =
      let later : List Position = leading_positions turn ss (suc k) in
      let rest : order_by (later ++ qs) a b ≡ order_by qs a b =
      none_leading ss (suc k) e (λ i lt h. let shift : k + suc i ≡ suc k + i = omega arith in rw shift at (same (suc i) (omega arith) h)) in
      elim (is_leading s) as (λ t. is_leading s ≡ t → order_by (cond t (class_position turn s k ∷ later) later ++ qs) a b ≡ order_by qs a b) [
        | true ↦ λ h. ap (λ (o : Ordering). ordering_then o (order_by (later ++ qs) a b)) (equal_numbers (class_from turn s k a) (class_from turn s k b) (rw add-zero at (same zero (omega arith) h))) ∙ rest
        | false ↦ λ h. rest
      ] refl

pub leading_first : LeadingComeFirst
leading_first net turn a b side first =
    let ss : List Side = all_sides net.primitives in
    rw zero-add at (first_leading turn a b (class_positions turn ss 0 ++ row_positions ss 0) ss 0 side no_side first.in_range first.leads (rw zero-add first.differ) (λ i lt h. rw zero-add (first.before i lt h)))

-- The key of all classes and rows.
pub rows_from : (ss : List Side) (k : ℕ) (rows : List ℕ) → length rows ≡ k + length ss → key_at (row_positions ss k) rows ≡ drop k rows
rows_from [] k rows n = sym (drop_all k rows (omega arith))
rows_from (s ∷ ss) k rows n = rw (drop-cons rows k 0 (omega arith)) (ap (λ (z : List ℕ). get_or rows k 0 ∷ z) (rows_from ss (suc k) rows (omega arith)))

module _ (net : Net) (turn : ℕ) (rows : List ℕ) where
  classes_from : (ss : List Side) (k : ℕ) → ((j : ℕ) → j < length ss → get_or (all_sides net.primitives) (k + j) no_side ≡ get_or ss j no_side)
      → key_at (class_positions turn ss k) rows ≡ map (class_in net turn rows) (range_with_len k (length ss))
  classes_from [] k h = refl
  classes_from (s ∷ ss) k h =
      let here : get_or (all_sides net.primitives) k no_side ≡ s = rw add-zero at (h zero (omega arith)) in
      let rest = classes_from ss (suc k) (λ j lt. let shift : k + suc j ≡ suc k + j = omega arith in rw shift at (h (suc j) (omega arith))) in
      rw add-one (λ i. class_from turn (sym here i) k rows ∷ rest i)

  all_key : length rows ≡ length (all_sides net.primitives) → key_at (class_positions turn (all_sides net.primitives) 0 ++ row_positions (all_sides net.primitives) 0) rows ≡ classes_in net turn rows ++ rows
  all_key n =
      let ss : List Side = all_sides net.primitives in
      key-append (class_positions turn ss 0) (row_positions ss 0) rows
      ∙ (λ i. classes_from ss 0 (λ j lt. rw zero-add refl) i ++ rows_from ss 0 rows (rw zero-add n) i)

pub all_next : AllSidesComeNext
all_next net turn a b one_a one_b same =
    let ss : List Side = all_sides net.primitives in
    none_leading turn a b (class_positions turn ss 0 ++ row_positions ss 0) ss 0 no_side (λ i lt h. rw zero-add (same i lt h))
    ∙ (λ i. slice_cmp nat_cmp (all_key net turn a one_a i) (all_key net turn b one_b i))
