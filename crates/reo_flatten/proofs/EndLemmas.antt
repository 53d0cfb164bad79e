-- Ends at nodes, one after another.
use Rattle.std.proofs.Common.{arith, ◌≡◌, ◌≢◌, ◌∙◌, ℕ, zero, suc, ◌+◌, ◌<◌, ◌≤◌, ◌&&◌, not, inl, inr, List, [], ◌∷◌, ◌++◌, length, take, get_or, set, Bool, true, false, Some, None, position, bytes_eq, cond, refl, sym, ap}
use Rattle.std.proofs.lemmas.List.{append-nil, append_assoc, length-take-le, length-set, get_or-set_other, get_or_default}
use Rattle.std.proofs.lemmas.Grind.{get_or-set_at}
use Rattle.std.proofs.lemmas.Bool.Decides.{eqb_tells}
use Rattle.std.proofs.lemmas.List.Quantifiers.{position-Some}
use Rattle.std.proofs.lemmas.Slice.Eq.{bytes_eq-Decides}
use Rattle.reo_values.specs.Valid.{AreDistinct}
use Rattle.reo_net_base.specs.declared.joint.End.{End}
use Rattle.reo_net_base.specs.Net.{end_of}
use Rattle.reo_net_base.specs.Behaviour.{Behaviour}
use Rattle.reo_kinds.specs.declared.kind.Kind.{Kind}
use Rattle.reo_kinds.specs.Kinds.{behaviour_of}
use Rattle.reo_flat.specs.Unfolding.{Placed}
use Rattle.reo_flat.specs.Ends.{ends_in, ends_from}
use Rattle.reo_unfold.proofs.ListLemmas.{take_next}
use Rattle.reo_rules.specs.Lists.{where_true}
use Rattle.reo_rules.specs.Touches.{bool_eq}
use Rattle.reo_unfold.proofs.Positions.{before_first, place_none}
use Rattle.reo_flatten.specs.NodeEnds.{placed_with, name_at, Grows, one_at}
use Rattle.std.proofs.lemmas.Bool.{false_from_ne_true as differ_false}
pub use Rattle.reo_rules.proofs.Distinct.{new_name}

-- Nothing comes on the other side.
never : (b : Bool) (e : End) → where_true (b && false) e ≡ []
never true e = refl
never false e = refl

other_way : (takes way : Bool) → bool_eq takes way ≡ false → (name node : List ℕ) (e : End) → one_at name takes e way node ≡ []
other_way takes way is name node e = ap (λ t. where_true (bytes_eq node name && t) e) is ∙ never (bytes_eq node name) e

pub grows_none : (names : List (List ℕ)) (more : List ℕ → List End) (old : List (List End)) → ((n : ℕ) → n < length names → more (name_at names n) ≡ []) → Grows names more old old
grows_none names more old none = (refl, λ n d within. sym (ap (λ es. get_or old n d ++ es) (none n within) ∙ append-nil (get_or old n d)))

pub grows_other : (names : List (List ℕ)) (name : List ℕ) (takes way : Bool) (e : End) (old : List (List End)) → bool_eq takes way ≡ false → Grows names (one_at name takes e way) old old
grows_other names name takes way e old is = grows_none names (one_at name takes e way) old (λ n within. other_way takes way is name (name_at names n) e)

-- No node has a name that is none of theirs.
same_true : (a b : List ℕ) → a ≡ b → bytes_eq a b ≡ true
same_true a b is = (bytes_eq-Decides a b).1 is

module _ {X : Type 0} (p : X → Bool) where
  at_once : (b : Bool) (r : ℕ) → b ≡ true → cond (not b) (1 + r) 0 ≤ 0
  at_once true r is = omega arith
  at_once false r is = absurd (cc)

  no_later : (b : Bool) (r n : ℕ) → r ≤ n → cond (not b) (1 + r) 0 ≤ suc n
  no_later true r n before = omega arith
  no_later false r n before = omega arith

  first_before : (xs : List X) (n : ℕ) (d : X) → n < length xs → p (get_or xs n d) ≡ true → before_first p xs ≤ n
  first_before [] n d within is = absurd (omega arith)
  first_before (x ∷ xs) zero d within is = at_once (p x) (before_first p xs) is
  first_before (x ∷ xs) (suc n) d within is = no_later (p x) (before_first p xs) n (first_before xs n d (omega arith) is)

absent : (names : List (List ℕ)) (name : List ℕ) → position (bytes_eq name) names ≡ None → (n : ℕ) → n < length names → name ≡ name_at names n → ⊥
absent names name none n within is =
    let far = place_none (bytes_eq name) names none in
    let near = first_before (bytes_eq name) names n [] within (same_true name (name_at names n) is) in
    omega arith

module _ (names : List (List ℕ)) (name : List ℕ) (distinct : AreDistinct names) where
  -- The node of a number has the name.
  pub is_named : (number : ℕ) → position (bytes_eq name) names ≡ Some number → (number < length names) × (name ≡ name_at names number)
  is_named number at =
      let found = position-Some (bytes_eq name) names number [] at in
      (found.0, (bytes_eq-Decides name (name_at names number)).0 found.1)

  other_node : (number n : ℕ) → position (bytes_eq name) names ≡ Some number → n < length names → n ≢ number → bytes_eq (name_at names n) name ≡ false
  other_node number n at within differs =
      let found = is_named number at in
      differ_false _ (λ same. differs (distinct n number within found.0 ((bytes_eq-Decides (name_at names n) name).0 same ∙ found.1)))

  -- One end at the node of a number.
  pub grows_at : (number : ℕ) (takes way : Bool) (e : End) (old : List (List End)) (es : List End) → position (bytes_eq name) names ≡ Some number → length old ≡ length names → bool_eq takes way ≡ true → es ≡ get_or old number es ++ e ∷ [] → Grows names (one_at name takes e way) old (set old number es)
  grows_at number takes way e old es at even is made =
      let found = is_named number at in
      let within_old : number < length old = omega arith in (
        length-set old number es,
        λ n d within. elim (eqb_tells n number) [
          | inl same ↦
              get_or-set_at old number n es d same.1 within_old ∙ made
              ∙ (λ k. (get_or_default old number es d within_old ∙ ap (λ j. get_or old j d) (sym same.1)) k ++ sym (here n same.1) k)
          | inr differs ↦
              get_or-set_other old number n es d differs.1 ∙ sym (ap (λ xs. get_or old n d ++ xs) (there n within differs.1) ∙ append-nil (get_or old n d))
        ],
      ) where
        here : (n : ℕ) → n ≡ number → one_at name takes e way (name_at names n) ≡ e ∷ []
        here n same =
            let found = is_named number at in
            (λ k. where_true (same_true (name_at names n) name (ap (name_at names) same ∙ sym found.1) k && is k) e)

        there : (n : ℕ) → n < length names → n ≢ number → one_at name takes e way (name_at names n) ≡ []
        there n within differs = ap (λ b. where_true (b && bool_eq takes way) e) (other_node number n at within differs)

  -- None, where no node has the name.
  pub grows_nowhere : (takes way : Bool) (e : End) (old : List (List End)) → position (bytes_eq name) names ≡ None → Grows names (one_at name takes e way) old old
  grows_nowhere takes way e old none =
      grows_none names (one_at name takes e way) old
      (λ n within. ap (λ b. where_true (b && bool_eq takes way) e) (differ_false _ (λ same. absent names name none n within (sym ((bytes_eq-Decides (name_at names n) name).0 same)))))

-- Ends of more nodes, and of more primitives.
ends_in-append : (b : Behaviour) (way : Bool) (node : List ℕ) (i e : ℕ) (xs ys : List (List ℕ)) → ends_in b way node i e (xs ++ ys) ≡ ends_in b way node i e xs ++ ends_in b way node i (e + length xs) ys
ends_in-append b way node i e [] ys =
    let same : e ≡ e + 0 = omega arith in
    ap (λ k. ends_in b way node i k ys) same
ends_in-append b way node i e (x ∷ xs) ys =
    let same : suc e + length xs ≡ e + length (x ∷ xs) = omega arith in
    ap (λ es. where_true (bytes_eq node x && bool_eq (b.takes_in e) way) (end_of i e) ++ es) (ends_in-append b way node i (suc e) xs ys ∙ ap (λ k. ends_in b way node i (suc e) xs ++ ends_in b way node i k ys) same)
    ∙ sym (append_assoc (where_true (bytes_eq node x && bool_eq (b.takes_in e) way) (end_of i e)) (ends_in b way node i (suc e) xs) (ends_in b way node i (e + length (x ∷ xs)) ys))

ends_from-append : (way : Bool) (node : List ℕ) (i : ℕ) (ps qs : List Placed) → ends_from way node i (ps ++ qs) ≡ ends_from way node i ps ++ ends_from way node (i + length ps) qs
ends_from-append way node i [] qs =
    let same : i ≡ i + 0 = omega arith in
    ap (λ k. ends_from way node k qs) same
ends_from-append way node i (p ∷ ps) qs =
    let same : suc i + length ps ≡ i + length (p ∷ ps) = omega arith in
    ap (λ es. ends_in (behaviour_of p.kind) way node i 0 p.nodes ++ es) (ends_from-append way node (suc i) ps qs ∙ ap (λ k. ends_from way node (suc i) ps ++ ends_from way node k qs) same)
    ∙ sym (append_assoc (ends_in (behaviour_of p.kind) way node i 0 p.nodes) (ends_from way node (suc i) ps) (ends_from way node (i + length (p ∷ ps)) qs))

pub ends_in-more : (b : Behaviour) (way : Bool) (node : List ℕ) (i : ℕ) (at : List (List ℕ)) (e : ℕ) (name : List ℕ) → e < length at → name ≡ get_or at e name → ends_in b way node i 0 (take (e + 1) at) ≡ ends_in b way node i 0 (take e at) ++ one_at name (b.takes_in e) (end_of i e) way node
ends_in-more b way node i at e name within is =
    let long : length (take e at) ≡ e = length-take-le e at (omega arith) in
    let zero_on : 0 + length (take e at) ≡ e = omega arith in
    ap (ends_in b way node i 0) (take_next at e name within is) ∙ ends_in-append b way node i 0 (take e at) (name ∷ [])
    ∙ ap (λ k. ends_in b way node i 0 (take e at) ++ ends_in b way node i k (name ∷ [])) zero_on
    ∙ ap (λ es. ends_in b way node i 0 (take e at) ++ es) (append-nil _)

pub ends_from-more : (way : Bool) (node : List ℕ) (ps : List Placed) (i : ℕ) (p : Placed) → i < length ps → p ≡ get_or ps i p → ends_from way node 0 (take (i + 1) ps) ≡ ends_from way node 0 (take i ps) ++ ends_in (behaviour_of p.kind) way node i 0 p.nodes
ends_from-more way node ps i p within is =
    let long : length (take i ps) ≡ i = length-take-le i ps (omega arith) in
    let zero_on : 0 + length (take i ps) ≡ i = omega arith in
    ap (ends_from way node 0) (take_next ps i p within is) ∙ ends_from-append way node 0 (take i ps) (p ∷ [])
    ∙ ap (λ k. ends_from way node 0 (take i ps) ++ ends_from way node k (p ∷ [])) zero_on
    ∙ ap (λ es. ends_from way node 0 (take i ps) ++ es) (append-nil _)

-- What came, and then came more.
pub grows_on : (names : List (List ℕ)) (first more both : List ℕ → List End) (a b d : List (List End)) → Grows names first a b → Grows names more b d → ((node : List ℕ) → both node ≡ first node ++ more node) → Grows names both a d
grows_on names first more both a b d one two is =
    (two.0 ∙ one.0, λ n e within. two.1 n e within ∙ ap (λ es. es ++ more (name_at names n)) (one.1 n e within) ∙ append_assoc (get_or a n e) _ _ ∙ ap (λ es. get_or a n e ++ es) (sym (is (name_at names n))))

-- Primitives with their nodes, by number.
pub many_placed : (ks : List Kind) (es : List (List (List ℕ))) → length es ≡ length ks → length (placed_with ks es) ≡ length ks
many_placed [] es even = refl
many_placed (k ∷ ks) [] even = absurd (omega arith)
many_placed (k ∷ ks) (e ∷ es) even = let more = many_placed ks es (omega arith) in omega arith

pub placed_is : (ks : List Kind) (es : List (List (List ℕ))) (i : ℕ) (k : Kind) (e : List (List ℕ)) → length es ≡ length ks → i < length ks → k ≡ get_or ks i k → e ≡ get_or es i e → (d : Placed) → record { kind = k; nodes = e } ≡ get_or (placed_with ks es) i d
placed_is [] es i k e even within k_is e_is d = absurd (omega arith)
placed_is (x ∷ ks) [] i k e even within k_is e_is d = absurd (omega arith)
placed_is (x ∷ ks) (y ∷ es) zero k e even within k_is e_is d = λ j. record { kind = k_is j; nodes = e_is j }
placed_is (x ∷ ks) (y ∷ es) (suc i) k e even within k_is e_is d = placed_is ks es i k e (omega arith) (omega arith) k_is e_is d
