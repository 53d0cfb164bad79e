-- Breaks found place by place.
use Rattle.std.proofs.Common.{Bool, true, false, ◌||◌, ◌⊎◌, Result, Ok, Err, IsErr, IsErrAnd, bytes_eq, ◌≡◌, ◌∙◌, ℕ, zero, suc, ◌+◌, ◌<◌, ◌≤◌, length, List, [], ◌∷◌, ◌++◌, take, get_or, flat_map, map, Some, refl, sym, ap, subst, arith}
use Rattle.std.proofs.lemmas.List.{take_all, append-nil, append_assoc}
use Rattle.reo_values.proofs.Sequences.{both_none, left_none}
use Rattle.reo_rules.specs.Lists.{first_of, each_after, where_true, has_name}
use Rattle.reo_script.specs.declared.scripts.fault.ScriptFault.TheVariants as faults
use Rattle.reo_script.specs.scripts.ScriptRules.{Naming, shared_in}
use Rattle.reo_script.specs.Places.{IsFirstBreak, IsJudgedBy}
use Rattle.reo_rules.proofs.AfterLemmas.{right_none}
use Rattle.reo_script.specs.declared.scripts.fault.ScriptFault.{ScriptFault}

module _ {X Y : Type 0} (g : X → Y) (f : Y → List ScriptFault) where
  -- None up to an item and none there: none up to the next.
  pub pass_more : (xs : List X) (i : ℕ) (x : X) → i < length xs → x ≡ get_or xs i x → flat_map f (map g (take i xs)) ≡ [] → f (g x) ≡ [] → flat_map f (map g (take (i + 1) xs)) ≡ []
  pass_more [] i x within at none here = absurd (omega arith)
  pass_more (y ∷ ys) zero x within at none here = both_none (f (g y)) [] (ap (λ z. f (g z)) (sym at) ∙ here) refl
  pass_more (y ∷ ys) (suc i) x within at none here =
      let more : suc (i + 1) ≡ suc i + 1 = omega arith in
      subst (λ n. flat_map f (map g (take n (y ∷ ys))) ≡ []) more
      (both_none (f (g y)) _ (left_none (f (g y)) _ none) (pass_more ys i x (omega arith) at (right_none (f (g y)) _ none) here))

  first_of-append : (xs ys : List ScriptFault) (e : ScriptFault) → first_of xs ≡ Some e → first_of (xs ++ ys) ≡ Some e
  first_of-append [] ys e is = cc
  first_of-append (z ∷ zs) ys e is = is

  -- None up to an item and the first there: the first of all.
  pub pass_first : (xs : List X) (i : ℕ) (x : X) (e : ScriptFault) → i < length xs → x ≡ get_or xs i x → flat_map f (map g (take i xs)) ≡ [] → first_of (f (g x)) ≡ Some e
      → first_of (flat_map f (map g xs)) ≡ Some e
  pass_first [] i x e within at none here = absurd (omega arith)
  pass_first (y ∷ ys) zero x e within at none here = first_of-append (f (g y)) _ e (ap (λ z. first_of (f (g z))) (sym at) ∙ here)
  pass_first (y ∷ ys) (suc i) x e within at none here =
      ap (λ zs. first_of (zs ++ flat_map f (map g ys))) (left_none (f (g y)) _ none) ∙ pass_first ys i x e (omega arith) at (right_none (f (g y)) _ none) here

  -- None up to the end: none at all.
  pub pass_all : (xs : List X) (i : ℕ) → length xs ≤ i → flat_map f (map g (take i xs)) ≡ [] → flat_map f (map g xs) ≡ []
  pass_all xs i past none = ap (λ zs. flat_map f (map g zs)) (sym (take_all i xs past)) ∙ none

module _ {X : Type 0} (f : List X → X → List ScriptFault) where
  up : (b xs : List X) (i : ℕ) (x : X) → i < length xs → x ≡ get_or xs i x → each_after f b (take i xs) ≡ [] → f (b ++ take i xs) x ≡ [] → each_after f b (take (suc i) xs) ≡ []
  up b [] i x within at none here = absurd (omega arith)
  up b (y ∷ ys) zero x within at none here =
      let first : f b y ≡ [] = ap (f b) (sym at) ∙ ap (λ c. f c x) (sym (append-nil b)) ∙ here in
      both_none (f b y) [] first refl
  up b (y ∷ ys) (suc i) x within at none here =
      both_none (f b y) _ (left_none (f b y) _ none)
      (up (b ++ y ∷ []) ys i x (omega arith) at (right_none (f b y) _ none) (ap (λ c. f c x) (append_assoc b (y ∷ []) (take i ys)) ∙ here))

  -- Each by those before it: none up to an item and none there.
  pub each_more : (b xs : List X) (i : ℕ) (x : X) → i < length xs → x ≡ get_or xs i x → each_after f b (take i xs) ≡ [] → f (b ++ take i xs) x ≡ [] → each_after f b (take (i + 1) xs) ≡ []
  each_more b xs i x within at none here =
      let more : suc i ≡ i + 1 = omega arith in
      subst (λ n. each_after f b (take n xs) ≡ []) more (up b xs i x within at none here)

  first_append : (xs ys : List ScriptFault) (e : ScriptFault) → first_of xs ≡ Some e → first_of (xs ++ ys) ≡ Some e
  first_append [] ys e is = cc
  first_append (z ∷ zs) ys e is = is

  -- None up to an item and the first there: the first of all.
  pub each_first : (b xs : List X) (i : ℕ) (x : X) (e : ScriptFault) → i < length xs → x ≡ get_or xs i x → each_after f b (take i xs) ≡ [] → first_of (f (b ++ take i xs) x) ≡ Some e
      → first_of (each_after f b xs) ≡ Some e
  each_first b [] i x e within at none here = absurd (omega arith)
  each_first b (y ∷ ys) zero x e within at none here =
      first_append (f b y) _ e (ap (λ v. first_of (f b v)) (sym at) ∙ (ap (λ c. first_of (f c x)) (sym (append-nil b)) ∙ here))
  each_first b (y ∷ ys) (suc i) x e within at none here =
      ap (λ zs. first_of (zs ++ each_after f (b ++ y ∷ []) ys)) (left_none (f b y) _ none)
      ∙ each_first (b ++ y ∷ []) ys i x e (omega arith) at (right_none (f b y) _ none) (ap (λ c. first_of (f c x)) (append_assoc b (y ∷ []) (take i ys)) ∙ here)

-- A fault that was passed on.
pub passed_on : {A : Type 0} (r : Result A ScriptFault) (d : ScriptFault) (breaks : List ScriptFault) → IsErr r × IsErrAnd r (λ y. y ≡ d) → IsFirstBreak breaks d → IsJudgedBy breaks r
passed_on (Ok v) d breaks h is = absurd (cc)
passed_on (Err e) d breaks h is = subst (λ y. IsFirstBreak breaks y) (sym h.1) is

-- Ports that are seen as the same are shared alike.
pub shared_alike : (seen others : List (List ℕ)) → ((name : List ℕ) → has_name seen name ≡ has_name others name) → (ns : List Naming) → flat_map (shared_in seen) ns ≡ flat_map (shared_in others) ns
shared_alike seen others same [] = refl
shared_alike seen others same (n ∷ ns) =
    ap (λ b. where_true b (faults.Shared n.line n.port) ++ flat_map (shared_in seen) ns) (same n.port)
    ∙ ap (λ zs. shared_in others n ++ zs) (shared_alike seen others same ns)

-- The first break by those that are seen is the first by those that are there.
pub first_alike : (seen others : List (List ℕ)) → ((name : List ℕ) → has_name seen name ≡ has_name others name) → (ns : List Naming) (e : ScriptFault)
    → IsFirstBreak (flat_map (shared_in seen) ns) e → (e ≡ faults.NoMemory) ⊎ (first_of (flat_map (shared_in others) ns) ≡ Some e)
first_alike seen others same ns e h = subst (λ bs. IsFirstBreak bs e) (shared_alike seen others same ns) h

has_either : (xs ys : List (List ℕ)) (name : List ℕ) → has_name (xs ++ ys) name ≡ (has_name xs name || has_name ys name)
has_either [] ys name = refl
has_either (x ∷ xs) ys name = ap (λ b. bytes_eq name x || b) (has_either xs ys name) ∙ sym (or_assoc (bytes_eq name x) (has_name xs name) (has_name ys name))
  where
    or_assoc : (a b c : Bool) → ((a || b) || c) ≡ (a || (b || c))
    or_assoc true b c = refl
    or_assoc false b c = refl

-- With what another component names.
pub seen_more : (seen before named : List (List ℕ)) → ((name : List ℕ) → has_name seen name ≡ has_name before name) → (name : List ℕ) → has_name (seen ++ named) name ≡ has_name (before ++ named) name
seen_more seen before named same name = has_either seen named name ∙ (ap (λ b. b || has_name named name) (same name) ∙ sym (has_either before named name))
