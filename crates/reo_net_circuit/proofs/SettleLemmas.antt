-- One more primitive is settled.
use Rattle.std.proofs.Common.{◌≡◌, ℕ, zero, suc, ◌+◌, ◌<◌, List, [], ◌∷◌, ◌++◌, Option, length, get_or, set, take, drop, refl, ap, sym, ◌∙◌, add-one, add-zero, append_assoc}
use Rattle.std.proofs.Math.Seq.{drop-cons}
use Rattle.std.proofs.lemmas.List.{take_more_set, get_or-drop}
use Rattle.reo_values.specs.declared.value.Value.{Value}
use Rattle.reo_net_base.specs.declared.colouring.Chosen.{Chosen}
use Rattle.reo_net_base.specs.Step.{settled_list}

drop_tail : {X : Type 0} → (i : ℕ) (xs : List X) → drop (suc i) xs ≡ drop 1 (drop i xs)
drop_tail zero xs = refl
drop_tail (suc i) [] = refl
drop_tail (suc i) (x ∷ xs) = drop_tail i xs

drop_set : {X : Type 0} → (xs : List X) (i : ℕ) (v : X) → drop (suc i) (set xs i v) ≡ drop (suc i) xs
drop_set [] i v = refl
drop_set (x ∷ xs) zero v = refl
drop_set (x ∷ xs) (suc i) v = drop_set xs i v

-- A write at a place leaves what stands behind it.
pub rest_same : {X : Type 0} → (xs ys : List X) (i : ℕ) (v : X) → drop i xs ≡ drop i ys → drop (i + 1) (set xs i v) ≡ drop (i + 1) ys
rest_same xs ys i v e = rw add-one (drop_set xs i v ∙ drop_tail i xs ∙ ap (drop 1) e ∙ sym (drop_tail i ys))

pub same_at : {X : Type 0} → (xs ys : List X) (i : ℕ) (d : X) → drop i xs ≡ drop i ys → get_or xs i d ≡ get_or ys i d
same_at xs ys i d e = rw add-zero at (sym (get_or-drop i xs 0 d) ∙ ap (λ l. get_or l 0 d) e ∙ get_or-drop i ys 0 d)

module _ {P : Type 0} (settled : P → Chosen → Option Value → P) where
  pub settled_more : (now old : List P) (rows : List Chosen) (taken : List (Option Value)) (i : ℕ) (p : P) (r : Chosen) (t : Option Value)
      → i < length now → i < length old → i < length rows → i < length taken
      → take (i + 1) (set now i (settled (get_or old i p) (get_or rows i r) (get_or taken i t))) ++ settled_list settled (drop (i + 1) old) (drop (i + 1) rows) (drop (i + 1) taken)
      ≡ take i now ++ settled_list settled (drop i old) (drop i rows) (drop i taken)
  settled_more now old rows taken i p r t now_in old_in rows_in taken_in =
      rw (take_more_set now i (settled (get_or old i p) (get_or rows i r) (get_or taken i t)) now_in, add-one, drop-cons old i p, drop-cons rows i r, drop-cons taken i t, append_assoc) refl
