-- Breaks found one after another.
use Rattle.std.proofs.Common.{arith, map, ◌≡◌, ◌∙◌, ℕ, ◌+◌, ◌<◌, ◌≤◌, length, get_or, zero, suc, List, [], ◌∷◌, ◌++◌, take, Bool, true, false, Some, Result, Ok, Err, IsErr, IsErrAnd, refl, sym, ap, subst, inl, inr}
use Rattle.std.proofs.lemmas.List.{append-nil, append_assoc, take_more, take_all, map-append}
use Rattle.std.specs.List.{flat_map}
use Rattle.reo_rules.specs.declared.fault.FlatFault.{FlatFault}
use Rattle.reo_rules.specs.Lists.{each_after, first_of, where_true}
use Rattle.reo_rules.specs.Judged.{IsFirst, IsJudged}
pub use Rattle.std.proofs.lemmas.Grind.{flat_map-append}
use Rattle.reo_values.proofs.Sequences.{both_none, left_none}

-- A test that broke nothing failed.
pub where_false : {X : Type 0} (b : Bool) (x : X) → where_true b x ≡ [] → b ≡ false
where_false true x none = absurd (cc)
where_false false x none = refl

pub right_none : {X : Type 0} (xs ys : List X) → xs ++ ys ≡ [] → ys ≡ []
right_none [] ys none = none
right_none (x ∷ xs) ys none = absurd (cc)

-- The first break of two lists.
first_of-append : {X : Type 0} (xs ys : List X) (x : X) → first_of xs ≡ Some x → first_of (xs ++ ys) ≡ Some x
first_of-append [] ys x is = absurd (cc)
first_of-append (z ∷ zs) ys x is = is

pub first_left : (xs ys : List FlatFault) (f : FlatFault) → IsFirst xs f → IsFirst (xs ++ ys) f
first_left xs ys f (inl memory) = inl memory
first_left xs ys f (inr is) = inr (first_of-append xs ys f is)

pub first_right : (xs ys : List FlatFault) (f : FlatFault) → xs ≡ [] → IsFirst ys f → IsFirst (xs ++ ys) f
first_right xs ys f none is = subst (λ zs. IsFirst (zs ++ ys) f) (sym none) is

-- A fault that was passed on.
pub judged_err : {A : Type 0} (r : Result A FlatFault) (d : FlatFault) (breaks : List FlatFault) → IsErr r × IsErrAnd r (λ y. y ≡ d) → IsFirst breaks d → IsJudged breaks r
judged_err (Ok v) d breaks h is = absurd (cc)
judged_err (Err e) d breaks h is = subst (λ y. IsFirst breaks y) (sym h.1) is

-- The answer of a last part, where the parts before it have no break.
pub judged_right : {A : Type 0} (xs ys : List FlatFault) (r : Result A FlatFault) → xs ≡ [] → IsJudged ys r → IsJudged (xs ++ ys) r
judged_right xs ys r none is = subst (λ zs. IsJudged (zs ++ ys) r) (sym none) is

module _ {X : Type 0} (f : List X → X → List FlatFault) where
  up : (b xs : List X) (i : ℕ) (x : X) → i < length xs → x ≡ get_or xs i x → each_after f b (take i xs) ≡ [] → f (b ++ take i xs) x ≡ [] → each_after f b (take (suc i) xs) ≡ []
  up b [] i x within at none here = absurd (omega arith)
  up b (y ∷ ys) zero x within at none here =
      let first : f b y ≡ [] = ap (f b) (sym at) ∙ ap (λ c. f c x) (sym (append-nil b)) ∙ here in
      both_none (f b y) [] first refl
  up b (y ∷ ys) (suc i) x within at none here =
      both_none (f b y) _ (left_none (f b y) _ none)
      (up (b ++ y ∷ []) ys i x (omega arith) at (right_none (f b y) _ none) (ap (λ c. f c x) (append_assoc b (y ∷ []) (take i ys)) ∙ here))

  -- No break up to an item and none there: none up to the next.
  pub after_more : (b xs : List X) (i : ℕ) (x : X) → i < length xs → x ≡ get_or xs i x → each_after f b (take i xs) ≡ [] → f (b ++ take i xs) x ≡ [] → each_after f b (take (i + 1) xs) ≡ []
  after_more b xs i x within at none here =
      let more : suc i ≡ i + 1 = omega arith in
      subst (λ n. each_after f b (take n xs) ≡ []) more (up b xs i x within at none here)

  -- No break up to an item and the first there: the first of all.
  pub after_first : (b xs : List X) (i : ℕ) (x : X) (e : FlatFault) → i < length xs → x ≡ get_or xs i x → each_after f b (take i xs) ≡ [] → IsFirst (f (b ++ take i xs) x) e → IsFirst (each_after f b xs) e
  after_first b [] i x e within at none here = absurd (omega arith)
  after_first b (y ∷ ys) zero x e within at none here =
      first_left (f b y) _ e (subst (λ v. IsFirst (f b v) e) at (subst (λ c. IsFirst (f c x) e) (append-nil b) here))
  after_first b (y ∷ ys) (suc i) x e within at none here =
      first_right (f b y) _ e (left_none (f b y) _ none)
      (after_first (b ++ y ∷ []) ys i x e (omega arith) at (right_none (f b y) _ none) (subst (λ c. IsFirst (f c x) e) (sym (append_assoc b (y ∷ []) (take i ys))) here))

  -- No break up to the end: none at all.
  pub after_all : (b xs : List X) (i : ℕ) → length xs ≤ i → each_after f b (take i xs) ≡ [] → each_after f b xs ≡ []
  after_all b xs i past none = ap (each_after f b) (sym (take_all i xs past)) ∙ none

-- The items up to the next one.
pub more_seen : {X : Type 0} (xs : List X) (i : ℕ) (x : X) → i < length xs → x ≡ get_or xs i x → {seen next : List X} → seen ≡ take i xs → next ≡ seen ++ x ∷ [] → next ≡ take (i + 1) xs
more_seen xs i x within at {seen} {next} before after =
    after ∙ ap (λ ys. ys ++ x ∷ []) before ∙ ap (λ v. take i xs ++ v ∷ []) at ∙ sym (take_more xs i x within)

-- The same, seen by a name.
pub more_mapped : {X Y : Type 0} (g : X → Y) (xs : List X) (i : ℕ) (x : X) → i < length xs → x ≡ get_or xs i x → {seen next : List Y} → seen ≡ map g (take i xs) → next ≡ seen ++ g x ∷ [] → next ≡ map g (take (i + 1) xs)
more_mapped g xs i x within at {seen} {next} before after =
    after ∙ ap (λ ys. ys ++ g x ∷ []) before ∙ sym (map-append g (take i xs) (x ∷ [])) ∙ ap (map g) (more_seen xs i x within at refl refl)

-- The same, where each comes to a list.
pub more_flat : {X Y : Type 0} (g : X → List Y) (xs : List X) (i : ℕ) (x : X) → i < length xs → x ≡ get_or xs i x → flat_map g (take i xs) ++ g x ≡ flat_map g (take (i + 1) xs)
more_flat g xs i x within at =
    ap (λ ys. flat_map g (take i xs) ++ ys) (sym (append-nil (g x))) ∙ sym (flat_map-append g (take i xs) (x ∷ [])) ∙ ap (flat_map g) (more_seen xs i x within at refl refl)

-- The same for lists of parts that do not look at what stands before.
module _ {X : Type 0} (f : X → List FlatFault) where
  pub flat_more : (xs : List X) (i : ℕ) (x : X) → i < length xs → x ≡ get_or xs i x → flat_map f (take i xs) ≡ [] → f x ≡ [] → flat_map f (take (i + 1) xs) ≡ []
  flat_more xs i x within at none here = sym (more_flat f xs i x within at) ∙ both_none (flat_map f (take i xs)) (f x) none here

  pub flat_first : (xs : List X) (i : ℕ) (x : X) (e : FlatFault) → i < length xs → x ≡ get_or xs i x → flat_map f (take i xs) ≡ [] → IsFirst (f x) e → IsFirst (flat_map f xs) e
  flat_first [] i x e within at none here = absurd (omega arith)
  flat_first (y ∷ ys) zero x e within at none here = first_left (f y) _ e (subst (λ v. IsFirst (f v) e) at here)
  flat_first (y ∷ ys) (suc i) x e within at none here =
      first_right (f y) _ e (left_none (f y) _ none) (flat_first ys i x e (omega arith) at (right_none (f y) _ none) here)

  pub flat_all : (xs : List X) (i : ℕ) → length xs ≤ i → flat_map f (take i xs) ≡ [] → flat_map f xs ≡ []
  flat_all xs i past none = ap (flat_map f) (sym (take_all i xs past)) ∙ none

-- The answer of a pass, where its breaks are said in another way.
pub judged_same : {A : Type 0} (xs ys : List FlatFault) (r : Result A FlatFault) → xs ≡ ys → IsJudged xs r → IsJudged ys r
judged_same xs ys r same is = subst (λ zs. IsJudged zs r) same is
