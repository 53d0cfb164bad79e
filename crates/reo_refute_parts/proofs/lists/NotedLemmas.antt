-- Noting items one after another.
use Rattle.std.proofs.Common.{inl, inr, ℕ, ◌+◌, ◌<◌, List, [], ◌∷◌, ◌++◌, length, get_or, take, sym, subst, append_assoc}
use Rattle.std.specs.Prelude.{Contains}
use Rattle.std.specs.List.{flat_map, range_with_len}
use Rattle.std.proofs.lemmas.List.{take_more, flat_map_more}
use Rattle.std.proofs.lemmas.List.Elements.{Contains-append_left, Contains-append_right, Contains-append_cases}
use Rattle.reo_values.specs.declared.value.Value.{Value}
use Rattle.reo_net_laws.proofs.Ranges.{range_plus_one}
use Rattle.reo_joint_values.specs.Many.{AreDistinct}
use Rattle.reo_joint_values.proofs.Distinct.{distinct_push}
use Rattle.reo_refute_base.specs.Items.{IsAdded}
use Rattle.reo_refute_base.specs.Items.IsAdded.{none, known, fresh}
use Rattle.reo_refute_parts.specs.lists.Noted.{IsNoted}

-- More items come.
pub added_on : (a xs b : List Value) → IsAdded a xs b → (ys c : List Value) → IsAdded b ys c → IsAdded a (xs ++ ys) c
added_on a xs b (none l) ys c more = more
added_on a xs b (known l rest l' x has added) ys c more = known l (rest ++ ys) c x has (added_on l rest l' added ys c more)
added_on a xs b (fresh l rest l' x not added) ys c more = fresh l (rest ++ ys) c x not (added_on (l ++ (x ∷ [])) rest l' added ys c more)

-- None stands twice, where none stood twice.
pub added_distinct : (a xs b : List Value) → IsAdded a xs b → AreDistinct a → AreDistinct b
added_distinct a xs b (none l) apart = apart
added_distinct a xs b (known l rest l' x has added) apart = added_distinct l rest l' added apart
added_distinct a xs b (fresh l rest l' x not added) apart = added_distinct (l ++ (x ∷ [])) rest l' added (distinct_push l x not apart)

pub noted_there : (old new : List Value) (item : Value) → Contains old item → IsNoted old new (item ∷ []) new
noted_there old new item has = known (old ++ new) [] (old ++ new) item (Contains-append_left old new item has) (none (old ++ new))

pub noted_again : (old new : List Value) (item : Value) → Contains new item → IsNoted old new (item ∷ []) new
noted_again old new item has = known (old ++ new) [] (old ++ new) item (Contains-append_right old new item has) (none (old ++ new))

pub noted_push : (old new : List Value) (item : Value) → (Contains old item → ⊥) → (Contains new item → ⊥) → IsNoted old new (item ∷ []) (new ++ item ∷ [])
noted_push old new item not_old not_new =
    subst (λ (l : List Value). IsAdded (old ++ new) (item ∷ []) l) (append_assoc old new (item ∷ []))
    (fresh (old ++ new) [] ((old ++ new) ++ (item ∷ [])) item (λ has. elim (Contains-append_cases old new item has) [ inl there ↦ not_old there | inr again ↦ not_new again ]) (none ((old ++ new) ++ (item ∷ []))))

-- What comes for the elements of a list, one after another.
pub noted_none_yet : (old new : List Value) → IsNoted old new [] new
noted_none_yet old new = none (old ++ new)

pub noted_more : {X : Type 0} (f : X → List Value) (xs : List X) (x : X) (old a b c : List Value) → IsNoted old a (flat_map f xs) b → IsNoted old b (f x) c → IsNoted old a (flat_map f (xs ++ x ∷ [])) c
noted_more f xs x old a b c first next =
    subst (λ (l : List Value). IsNoted old a l c) (flat_map_more f [] xs x) (added_on (old ++ a) (flat_map f xs) (old ++ b) first (f x) (old ++ c) next)

pub noted_next : (f : Value → List Value) (xs : List Value) (i : ℕ) (d : Value) → i < length xs → (old a b c : List Value) → IsNoted old a (flat_map f (take i xs)) b → IsNoted old b (f (get_or xs i d)) c
    → IsNoted old a (flat_map f (take (i + 1) xs)) c
noted_next f xs i d lt old a b c first next =
    subst (λ (l : List Value). IsNoted old a (flat_map f l) c) (sym (take_more xs i d lt)) (noted_more f (take i xs) (get_or xs i d) old a b c first next)

-- What comes for one row more.
pub noted_row : (f : ℕ → List Value) (n : ℕ) (old a b c : List Value) → IsNoted old a (flat_map f (range_with_len 0 n)) b → IsNoted old b (f n) c → IsNoted old a (flat_map f (range_with_len 0 (n + 1))) c
noted_row f n old a b c first next =
    subst (λ (l : List ℕ). IsNoted old a (flat_map f l) c) (sym (range_plus_one n)) (noted_more f (range_with_len 0 n) n old a b c first next)
