-- A mix of assignments.
use Rattle.std.proofs.Common.{◌≡◌, ℕ, zero, suc, ◌<◌, List, [], ◌∷◌, Option, None, Bool, true, false, cond, length, get_or, refl, ap, sym, ◌∙◌, arith}
use Rattle.std.proofs.lemmas.Bool.{and_parts, not-true}
use Rattle.std.specs.Prelude.{◌&&◌}
use Rattle.reo_values.specs.declared.value.Value.{Value}
use Rattle.reo_net_base.specs.declared.joint.Joint.{Joint}
use Rattle.reo_net_base.specs.Net.{Net, all_sides, side_at}
use Rattle.reo_net_base.specs.Wired.{IsWired}
use Rattle.reo_net_laws.specs.Parts.{is_joint_inside, IsClosed, IsAssignment, outside, mixed, mixed_items}
use Rattle.reo_net_laws.specs.PartLaws.{MixIsColouring}
use Rattle.reo_net_laws.proofs.Assignments.{agreeing}
use Rattle.reo_net_laws.proofs.Sets.{everywhere, everywhere_closed, outside_closed, both_closed, whole, halves}

pub mixed_count : {A : Type 0} (inside : ℕ → Bool) (xs ys : List A) → length xs ≡ length ys → length (mixed inside xs ys) ≡ length xs
mixed_count inside [] ys n = refl
mixed_count inside (x ∷ xs) [] n = absurd (omega arith)
mixed_count inside (x ∷ xs) (y ∷ ys) n = ap suc (mixed_count (λ k. inside (suc k)) xs ys (omega arith))

same : (t : Bool) (x : ℕ) → x ≡ cond t x x
same true x = refl
same false x = refl

pub mixed_at : (inside : ℕ → Bool) (xs ys : List ℕ) (k : ℕ) → length xs ≡ length ys → get_or (mixed inside xs ys) k 0 ≡ cond (inside k) (get_or xs k 0) (get_or ys k 0)
mixed_at inside [] [] k n = same (inside k) 0
mixed_at inside [] (y ∷ ys) k n = absurd (omega arith)
mixed_at inside (x ∷ xs) [] k n = absurd (omega arith)
mixed_at inside (x ∷ xs) (y ∷ ys) zero n = refl
mixed_at inside (x ∷ xs) (y ∷ ys) (suc k) n = mixed_at (λ i. inside (suc i)) xs ys k (omega arith)

pub mixed_true : (inside : ℕ → Bool) (xs ys : List ℕ) (k : ℕ) → length xs ≡ length ys → inside k ≡ true → get_or (mixed inside xs ys) k 0 ≡ get_or xs k 0
mixed_true inside xs ys k n h = mixed_at inside xs ys k n ∙ ap (λ (t : Bool). cond t (get_or xs k 0) (get_or ys k 0)) h

pub mixed_false : (inside : ℕ → Bool) (xs ys : List ℕ) (k : ℕ) → length xs ≡ length ys → inside k ≡ false → get_or (mixed inside xs ys) k 0 ≡ get_or ys k 0
mixed_false inside xs ys k n h = mixed_at inside xs ys k n ∙ ap (λ (t : Bool). cond t (get_or xs k 0) (get_or ys k 0)) h

module _ (net : Net) (inside : ℕ → Bool) where
  item_count : (js : List Joint) (xs ys : List (Option Value)) → length xs ≡ length js → length ys ≡ length js → length (mixed_items net inside js xs ys) ≡ length js
  item_count [] xs ys m n = refl
  item_count (j ∷ js) [] ys m n = absurd (omega arith)
  item_count (j ∷ js) (x ∷ xs) [] m n = absurd (omega arith)
  item_count (j ∷ js) (x ∷ xs) (y ∷ ys) m n = ap suc (item_count js xs ys (omega arith) (omega arith))

  item_at : (js : List Joint) (xs ys : List (Option Value)) → length xs ≡ length js → length ys ≡ length js → (j : ℕ) (d : Joint) → j < length js
      → get_or (mixed_items net inside js xs ys) j None ≡ cond (is_joint_inside net inside (get_or js j d)) (get_or xs j None) (get_or ys j None)
  item_at [] xs ys m n j d lt = absurd (omega arith)
  item_at (g ∷ gs) [] ys m n j d lt = absurd (omega arith)
  item_at (g ∷ gs) (x ∷ xs) [] m n j d lt = absurd (omega arith)
  item_at (g ∷ gs) (x ∷ xs) (y ∷ ys) m n zero d lt = refl
  item_at (g ∷ gs) (x ∷ xs) (y ∷ ys) m n (suc j) d lt = item_at gs xs ys (omega arith) (omega arith) j d (omega arith)

-- In a closed set: one assignment at the sides of another closed set, and one elsewhere.
pub mix_in : (net : Net) → IsWired net → (p q : ℕ → Bool) → IsClosed net p → IsClosed net q → (a b : List ℕ) (xs ys : List (Option Value))
    → IsAssignment net (λ k. p k && q k) a xs → IsAssignment net (λ k. p k && outside q k) b ys → IsAssignment net p (mixed q a b) (mixed_items net q net.joints xs ys)
mix_in net wired p q p_closed q_closed a b xs ys is rest =
    let rows : List ℕ = mixed q a b in
    let items : List (Option Value) = mixed_items net q net.joints xs ys in
    let n : length a ≡ length b = is.one_row ∙ sym rest.one_row in
    let one_row : length rows ≡ length (all_sides net.primitives) = mixed_count q a b n ∙ is.one_row in
    let one_item : length items ≡ length net.joints = item_count net q net.joints xs ys is.one_item rest.one_item in
    halves net p q rows items
    (agreeing net wired (λ k. p k && q k) (both_closed net p q p_closed q_closed) rows a items xs is one_row one_item
    (λ k lt h. mixed_true q a b k n ((and_parts (p k) (q k) h).1))
    (λ j d lt h. item_at net q net.joints xs ys is.one_item rest.one_item j d lt
    ∙ ap (λ (t : Bool). cond t (get_or xs j None) (get_or ys j None)) ((and_parts (p (side_at net (get_or net.joints j d).giver)) (q (side_at net (get_or net.joints j d).giver)) h).1)))
    (agreeing net wired (λ k. p k && outside q k) (both_closed net p (outside q) p_closed (outside_closed net q q_closed)) rows b items ys rest one_row one_item
    (λ k lt h. mixed_false q a b k n (not-true (q k) ((and_parts (p k) (outside q k) h).1)))
    (λ j d lt h. item_at net q net.joints xs ys is.one_item rest.one_item j d lt
    ∙ ap (λ (t : Bool). cond t (get_or xs j None) (get_or ys j None))
    (not-true (q (side_at net (get_or net.joints j d).giver)) ((and_parts (p (side_at net (get_or net.joints j d).giver)) (outside q (side_at net (get_or net.joints j d).giver)) h).1))))

pub mix : MixIsColouring
mix net wired inside closed a b xs ys is rest =
    whole net (mixed inside a b) (mixed_items net inside net.joints xs ys) (mix_in net wired everywhere inside (everywhere_closed net) closed a b xs ys is rest)
