-- The types of parameters, by number.
use Rattle.std.proofs.Common.{arith, ◌≡◌, ◌∙◌, ℕ, ◌+◌, ◌<◌, zero, suc, Bool, true, false, List, [], ◌∷◌, ◌++◌, length, take, get_or, Some, slice_get, refl, sym, ap, subst}
use Rattle.std.specs.List.{list_any, zip}
use Rattle.reo_values.specs.declared.kindred.Kindred.{Kindred}
use Rattle.reo_rules_types.specs.Cells.{Keeps}
use Rattle.reo_rules_types.specs.Signed.{AreOf}
use Rattle.std.proofs.lemmas.Bool.{or_left as left_true, or_right as right_true, or_parts as neither, or_from as both_false}

module _ {X Y : Type 0} (f : X × Y → Bool) where
  up : (xs : List X) (ys : List Y) (i : ℕ) (x : X) → i < length xs → x ≡ get_or xs i x → list_any f (zip (take i xs) ys) ≡ false → ((y : Y) → slice_get ys i ≡ Some y → f (x, y) ≡ false) → list_any f (zip (take (suc i) xs) ys) ≡ false
  up [] ys i x below is none here = absurd (omega arith)
  up (z ∷ zs) [] i x below is none here = refl
  up (z ∷ zs) (y ∷ ys) zero x below is none here = both_false (f (z, y)) false (ap (λ v. f (v, y)) (sym is) ∙ here y refl) refl
  up (z ∷ zs) (y ∷ ys) (suc i) x below is none here =
      let parts = neither (f (z, y)) (list_any f (zip (take i zs) ys)) none in
      both_false (f (z, y)) _ parts.0 (up zs ys i x (omega arith) is parts.1 here)

  -- One more place where the test fails.
  pub zip_more : (xs : List X) (ys : List Y) (i : ℕ) (x : X) → i < length xs → x ≡ get_or xs i x → list_any f (zip (take i xs) ys) ≡ false → ((y : Y) → slice_get ys i ≡ Some y → f (x, y) ≡ false) → list_any f (zip (take (i + 1) xs) ys) ≡ false
  zip_more xs ys i x below is none here =
      let more : suc i ≡ i + 1 = omega arith in
      subst (λ n. list_any f (zip (take n xs) ys) ≡ false) more (up xs ys i x below is none here)

  -- A place where it holds.
  pub zip_hit : (xs : List X) (ys : List Y) (i : ℕ) (x : X) (y : Y) → i < length xs → x ≡ get_or xs i x → slice_get ys i ≡ Some y → f (x, y) ≡ true → list_any f (zip xs ys) ≡ true
  zip_hit [] ys i x y below is at hit = absurd (omega arith)
  zip_hit (z ∷ zs) [] i x y below is at hit = absurd (cc)
  zip_hit (z ∷ zs) (w ∷ ws) zero x y below is at hit =
      let same : w ≡ y = grind (arith, at) in
      left_true (f (z, w)) (list_any f (zip zs ws)) ((λ i. f (sym is i, same i)) ∙ hit)
  zip_hit (z ∷ zs) (w ∷ ws) (suc i) x y below is at hit = right_true (f (z, w)) (list_any f (zip zs ws)) (zip_hit zs ws i x y (omega arith) is at hit)

module _ (types : List Kindred) where
  -- The type of a place has the number of that place.
  pub of_place : (ns : List ℕ) (ks : List Kindred) (i n : ℕ) → AreOf types ns ks → i < length ns → n ≡ get_or ns i 0 → (k : Kindred) × (slice_get ks i ≡ Some k) × (slice_get types n ≡ Some k)
  of_place [] [] i n are below is = absurd (omega arith)
  of_place [] (k ∷ ks) i n are below is = absurd are
  of_place (m ∷ ms) [] i n are below is = absurd are
  of_place (m ∷ ms) (k ∷ ks) zero n are below is = (k, refl, ap (slice_get types) is ∙ are.0)
  of_place (m ∷ ms) (k ∷ ks) (suc i) n are below is = of_place ms ks i n are.1 (omega arith) is

  pub as_many : (ns : List ℕ) (ks : List Kindred) → AreOf types ns ks → length ns ≡ length ks
  as_many [] [] are = refl
  as_many [] (k ∷ ks) are = absurd are
  as_many (n ∷ ns) [] are = absurd are
  as_many (n ∷ ns) (k ∷ ks) are = ap suc (as_many ns ks are.1)

  pub of_push : (ns : List ℕ) (ks : List Kindred) (n : ℕ) (k : Kindred) → AreOf types ns ks → slice_get types n ≡ Some k → AreOf types (ns ++ n ∷ []) (ks ++ k ∷ [])
  of_push [] [] n k are is = (is, tt)
  of_push [] (l ∷ ls) n k are is = absurd are
  of_push (m ∷ ms) [] n k are is = absurd are
  of_push (m ∷ ms) (l ∷ ls) n k are is = (are.0, of_push ms ls n k are.1 is)

pub of_kept : (old new : List Kindred) → Keeps old new → (ns : List ℕ) (ks : List Kindred) → AreOf old ns ks → AreOf new ns ks
of_kept old new keeps [] [] are = tt
of_kept old new keeps [] (k ∷ ks) are = absurd are
of_kept old new keeps (n ∷ ns) [] are = absurd are
of_kept old new keeps (n ∷ ns) (k ∷ ks) are = (keeps n k are.0, of_kept old new keeps ns ks are.1)
