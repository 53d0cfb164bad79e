-- The turns of a loop, one after another.
use Rattle.std.proofs.Common.{arith, ◌≡◌, ◌∙◌, ◌⊎◌, ◌≤◌, ◌<◌, ◌+◌, ◌++◌, ◌∷◌, [], ℕ, ℤ, pos, ◌+ℤ◌, Result, Ok, Err, List, take, drop, map, length, get_or, ap, sym, subst, inl, inr, IsErr, IsErrAnd}
use Rattle.std.specs.List.{flat_map, range_with_len}
use Rattle.std.proofs.lemmas.Grind.{flat_map-append}
use Rattle.std.proofs.lemmas.List.{append-nil, map-append, take_more, take-append-drop}
use Rattle.std.proofs.lemmas.List.FromFn.{take-map-range_with_len, map-range_with_len_more}
use Rattle.reo_trees.specs.declared.items.Item.{Item}
use Rattle.reo_trees.specs.declared.items_two.ItemTwo.{ItemTwo}
use Rattle.reo_trees.specs.declared.programs_two.DeclarationTwo.{DeclarationTwo}
use Rattle.reo_expand.specs.declared.base.bound.Bound.{Bound}
use Rattle.reo_expand.specs.declared.base.fault.ExpandFault.{ExpandFault}
use Rattle.reo_expand.specs.declared.base.fault.ExpandFault.TheVariants as faults
use Rattle.reo_expand.specs.base.Expansion.{items_in, with_bound}
use Rattle.reo_expand.specs.base.Steps.{Step, steps_in, two_in, walked}
use Rattle.reo_expand.specs.base.Steps.Step.{counted}
use Rattle.reo_expand.specs.base.Judged.{IsHalted, IsWalked}
use Rattle.reo_expand.proofs.base.Walking.{walked-then, stop-or-memory, then-or-memory}

-- The first so many values from one on.
abbrev pub values_from : ℤ → ℕ → List ℤ
values_from low n = map (λ j. low +ℤ pos j) (range_with_len 0 n)

-- The steps of the first so many turns, and what they stand for.
abbrev pub one_turn : List DeclarationTwo → List Bound → List ℕ → List ItemTwo → ℤ → List Step
one_turn before bound variable items z = counted 1 ∷ steps_in (flat_map two_in before) (with_bound bound variable z) items

abbrev pub turn_steps : List DeclarationTwo → List Bound → List ℕ → List ItemTwo → ℤ → ℕ → List Step
turn_steps before bound variable items low n = flat_map (one_turn before bound variable items) (values_from low n)

abbrev pub turn_items : List Bound → List ℕ → List ItemTwo → ℤ → ℕ → List Item
turn_items bound variable items low n = flat_map (λ z. items_in (with_bound bound variable z) items) (values_from low n)

-- One more, of any list for each value.
module _ {A : Type 0} (S : ℤ → List A) (low : ℤ) where
  pub one_more : (j : ℕ) → flat_map S (values_from low (j + 1)) ≡ flat_map S (values_from low j) ++ S (low +ℤ pos j)
  one_more j =
      let e : 0 + j ≡ j = omega arith in
      ap (flat_map S) (map-range_with_len_more (λ i. low +ℤ pos i) 0 j j e)
      ∙ flat_map-append S (values_from low j) ((low +ℤ pos j) ∷ [])
      ∙ ap (λ l. flat_map S (values_from low j) ++ l) (append-nil (S (low +ℤ pos j)))

  abbrev rest_of : ℕ → ℕ → List A
  rest_of j n = flat_map S (drop (j + 1) (values_from low n))

  pub split_at : (j n : ℕ) → j < n → flat_map S (values_from low n) ≡ (flat_map S (values_from low j) ++ S (low +ℤ pos j)) ++ rest_of j n
  split_at j n h =
      let few : j + 1 ≤ n = omega arith in
      ap (flat_map S) (sym (take-append-drop (j + 1) (values_from low n)))
      ∙ flat_map-append S (take (j + 1) (values_from low n)) (drop (j + 1) (values_from low n))
      ∙ ap (λ l. flat_map S l ++ rest_of j n) (take-map-range_with_len (λ i. low +ℤ pos i) 0 n (j + 1) few)
      ∙ ap (λ l. l ++ rest_of j n) (one_more j)

-- A turn that goes well, and one that does not.
module _ (S : ℤ → List Step) (low : ℤ) where
  pub turn_done : (c m k j : ℕ) → walked c (flat_map S (values_from low j)) ≡ Ok m → walked m (S (low +ℤ pos j)) ≡ Ok k → walked c (flat_map S (values_from low (j + 1))) ≡ Ok k
  turn_done c m k j e h = ap (walked c) (one_more S low j) ∙ walked-then c m (flat_map S (values_from low j)) (S (low +ℤ pos j)) e ∙ h

  pub turn_stopped : (c m j n : ℕ) (f : ExpandFault) → j < n → walked c (flat_map S (values_from low j)) ≡ Ok m → (f ≡ faults.NoMemory) ⊎ (walked m (S (low +ℤ pos j)) ≡ Err f)
      → (f ≡ faults.NoMemory) ⊎ (walked c (flat_map S (values_from low n)) ≡ Err f)
  turn_stopped c m j n f h e stop =
      subst (λ s. (f ≡ faults.NoMemory) ⊎ (walked c s ≡ Err f)) (sym (split_at S low j n h))
      (stop-or-memory c (flat_map S (values_from low j) ++ S (low +ℤ pos j)) (rest_of S low j n) f (then-or-memory c m (flat_map S (values_from low j)) (S (low +ℤ pos j)) f e stop))

-- What a list comes to, with one part more.
module _ {X Y : Type 0} (S : X → List Y) (xs : List X) where
  pub next_of : (i : ℕ) (x : X) → i < length xs → x ≡ get_or xs i x → flat_map S (take (i + 1) xs) ≡ flat_map S (take i xs) ++ S x
  next_of i x h is =
      ap (flat_map S) (take_more xs i x h)
      ∙ flat_map-append S (take i xs) (get_or xs i x ∷ [])
      ∙ ap (λ l. flat_map S (take i xs) ++ l) (append-nil (S (get_or xs i x)))
      ∙ ap (λ y. flat_map S (take i xs) ++ S y) (sym is)

  pub whole_at : (i : ℕ) (x : X) → i < length xs → x ≡ get_or xs i x → flat_map S xs ≡ (flat_map S (take i xs) ++ S x) ++ flat_map S (drop (i + 1) xs)
  whole_at i x h is =
      ap (flat_map S) (sym (take-append-drop (i + 1) xs))
      ∙ flat_map-append S (take (i + 1) xs) (drop (i + 1) xs)
      ∙ ap (λ l. l ++ flat_map S (drop (i + 1) xs)) (next_of i x h is)

-- What items of a list become, with one more.
pub more_mapped : {X Z : Type 0} (N : X → Z) (xs : List X) (i : ℕ) (x : X) → i < length xs → x ≡ get_or xs i x → map N (take (i + 1) xs) ≡ map N (take i xs) ++ N x ∷ []
more_mapped N xs i x h is =
    ap (map N) (take_more xs i x h)
    ∙ map-append N (take i xs) (get_or xs i x ∷ [])
    ∙ ap (λ y. map N (take i xs) ++ N y ∷ []) (sym is)

-- The first of the steps of a list is the first of those of one part, where those before have none.
pub part_halted : {X : Type 0} (S : X → List Step) (xs : List X) (i : ℕ) (x : X) (f : ExpandFault) → i < length xs → x ≡ get_or xs i x → flat_map S (take i xs) ≡ [] → IsHalted (S x) f → IsHalted (flat_map S xs) f
part_halted S xs i x f h is none (inl memory) = inl memory
part_halted S xs i x f h is none (inr (rest, at)) =
    let behind = flat_map S (drop (i + 1) xs) in
    inr (rest ++ behind, whole_at S xs i x h is ∙ ap (λ l. (l ++ S x) ++ behind) none ∙ ap (λ l. l ++ behind) at)

-- The steps of a list of items, one after another.
module _ {X : Type 0} (S : X → List Step) (xs : List X) where
  pub item_done : (c m k i : ℕ) (x : X) → i < length xs → x ≡ get_or xs i x → walked c (flat_map S (take i xs)) ≡ Ok m → walked m (S x) ≡ Ok k → walked c (flat_map S (take (i + 1) xs)) ≡ Ok k
  item_done c m k i x h is e go = ap (walked c) (next_of S xs i x h is) ∙ walked-then c m (flat_map S (take i xs)) (S x) e ∙ go

  pub item_stopped : (c m i : ℕ) (x : X) (f : ExpandFault) → i < length xs → x ≡ get_or xs i x → walked c (flat_map S (take i xs)) ≡ Ok m
      → (f ≡ faults.NoMemory) ⊎ (walked m (S x) ≡ Err f) → (f ≡ faults.NoMemory) ⊎ (walked c (flat_map S xs) ≡ Err f)
  item_stopped c m i x f h is e stop =
      subst (λ s. (f ≡ faults.NoMemory) ⊎ (walked c s ≡ Err f)) (sym (whole_at S xs i x h is))
      (stop-or-memory c (flat_map S (take i xs) ++ S x) (flat_map S (drop (i + 1) xs)) f (then-or-memory c m (flat_map S (take i xs)) (S x) f e stop))

-- A fault that was passed on.
pub passed_on : {A : Type 0} (r : Result A ExpandFault) (d : ExpandFault) (n m : ℕ) (steps : List Step) → IsErr r × IsErrAnd r (λ y. y ≡ d)
    → (d ≡ faults.NoMemory) ⊎ (walked n steps ≡ Err d) → IsWalked n steps m r
passed_on (Ok v) d n m steps h is = absurd (cc)
passed_on (Err e) d n m steps h is = subst (λ y. (y ≡ faults.NoMemory) ⊎ (walked n steps ≡ Err y)) (sym h.1) is
