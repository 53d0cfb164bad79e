-- What the item of a literal is, case by case.
use denote.Hole.Carrier.{hidden}
use Rattle.std.proofs.Common.{arith, ◌≡◌, ◌∙◌, ℕ, ◌+◌, ◌<◌, ◌&&◌, Bool, true, false, cond, List, [], ◌∷◌, ◌++◌, length, take, get_or, Option, Some, None, IsSome, is_some, refl, sym, ap, bytes_eq}
use Rattle.std.proofs.lemmas.Bool.{lt-ltb}
use Rattle.std.proofs.lemmas.List.{take_more}
use Rattle.std.specs.Prelude.{option_map, option_and_then}
use Rattle.std.specs.List.{position_from, filter_map, cons_option}
use Rattle.reo_values.specs.declared.value.Value.{Value}
use Rattle.reo_values.specs.declared.value.Value.TheVariants as values
use Rattle.reo_values.specs.declared.value.Value.TheBlock.{hidden-the_row-Couple-0}
use Rattle.reo_values.specs.declared.kindred.Kindred as kindred
use Rattle.reo_values.specs.declared.kindred.Kindred.{Kindred}
use Rattle.reo_values.specs.declared.kindred.Kindred.TheVariants as kinds
use Rattle.reo_values.specs.declared.kindred.Kindred.TheBlock.{hidden-the_row-Twins-0}
use Rattle.reo_values.specs.declared.kindred.Twins.{Twins}
use Rattle.reo_values.specs.Kind.{is_item}
use Rattle.reo_trees.specs.declared.literals.Constant.{Constant}
use Rattle.reo_trees.specs.declared.literals.Constant.TheVariants as constants
use Rattle.reo_trees.specs.declared.literals.Constant.TheBlock.{hidden-the_row-LiteralPair-0}
use Rattle.reo_trees.specs.declared.literals.LiteralPair.{LiteralPair}
use Rattle.reo_rules.specs.literals.Items.{value_of, item_in, HasFewNames}
use Rattle.std.proofs.lemmas.List.Elements.{filter_map-append}

-- A place that was found is one of the list.
next : (b : Bool) (i k n : ℕ) (more : Option ℕ) → (more ≡ Some k → k < i + 1 + n) → cond b (Some i) more ≡ Some k → k < i + (1 + n)
next true i k n more later is =
    let here : i ≡ k = cc in
    omega arith
next false i k n more later is =
    let there = later is in
    omega arith

pub found_below : {X : Type 0} (test : X → Bool) (xs : List X) (i k : ℕ) → position_from test i xs ≡ Some k → k < i + length xs
found_below test [] i k is = absurd (cc)
found_below test (x ∷ xs) i k is =
    let within = next (test x) i k (length xs) (position_from test (i + 1) xs) (found_below test xs (i + 1) k) is in
    omega arith

-- A symbol at a place that there is is an item of the type.
kept : (names : List (List ℕ)) (found : Option ℕ) → ((k : ℕ) → found ≡ Some k → k < length names) → option_and_then (λ v. cond (is_item v (kinds.Sym names)) (Some v) None) (option_map (λ k. values.Sym k) found) ≡ option_map (λ k. values.Sym k) found
kept names None below = refl
kept names (Some k) below = ap (λ b. cond b (Some (values.Sym k)) None) (lt-ltb k (length names) (below k refl))

pub item_in-Name : (names : List (List ℕ)) (name : List ℕ) → item_in (kinds.Sym names) (constants.Name name) ≡ option_map (λ k. values.Sym k) (position_from (bytes_eq name) 0 names)
item_in-Name names name =
    kept names (position_from (bytes_eq name) 0 names)
    (λ k is. let below = found_below (bytes_eq name) names 0 k is in omega arith)

pub item_in_Name-other : (name : List ℕ) (k : Kindred) → ((names : List (List ℕ)) → k ≡ kinds.Sym names → ⊥) → item_in k (constants.Name name) ≡ None
item_in_Name-other name kindred.Unit other = refl
item_in_Name-other name kindred.Bool other = refl
item_in_Name-other name (kindred.Int a b) other = refl
item_in_Name-other name (kindred.Sym names) other = absurd (other names refl)
item_in_Name-other name (kindred.Text a) other = refl
item_in_Name-other name (kindred.Pair' m p) other = refl

-- Two items as a pair.
abbrev pub both : Option Value → Option Value → Option Value
both a b = option_and_then (λ v. option_map (λ w. values.Pair (record { left = v; right = w })) b) a

abbrev tested : Kindred → Option Value → Option Value
tested k found = option_and_then (λ v. cond (is_item v k) (Some v) None) found

two : (s t : Bool) (v w : Value) → cond (s && t) (Some (values.Pair (record { left = v; right = w }))) None ≡ both (cond s (Some v) None) (cond t (Some w) None)
two true true v w = refl
two true false v w = refl
two false t v w = refl

none : (s : Bool) (v : Value) → None ≡ both (cond s (Some v) None) None
none true v = refl
none false v = refl

tested-both : (y : Twins) (a b : Option Value) → tested (kinds.Pair y) (both a b) ≡ both (tested y.left a) (tested y.right b)
unfolding hidden hidden-the_row-Twins-0 hidden-the_row-Couple-0
tested-both y None b = refl
tested-both y (Some v) None = none (is_item v y.left) v
tested-both y (Some v) (Some w) = two (is_item v y.left) (is_item w y.right) v w

pub item_in-Pair : (x : LiteralPair) (y : Twins) → item_in (kinds.Pair y) (constants.Pair x) ≡ both (item_in y.left x.left.constant) (item_in y.right x.right.constant)
unfolding hidden hidden-the_row-LiteralPair-0 hidden-the_row-Twins-0 hidden-the_row-Couple-0
item_in-Pair x y = tested-both y (value_of x.left.constant y.left) (value_of x.right.constant y.right)

pub item_in_Pair-other : (x : LiteralPair) (k : Kindred) → ((y : Twins) → k ≡ kinds.Pair y → ⊥) → item_in k (constants.Pair x) ≡ None
unfolding hidden hidden-the_row-LiteralPair-0 hidden-the_row-Twins-0
item_in_Pair-other x kindred.Unit other = refl
item_in_Pair-other x kindred.Bool other = refl
item_in_Pair-other x (kindred.Int a b) other = refl
item_in_Pair-other x (kindred.Sym a) other = refl
item_in_Pair-other x (kindred.Text a) other = refl
item_in_Pair-other x (kindred.Pair' m (kindred.more_of-Twins a b kindred.end_of-Twins)) other = absurd (other (record { left = a; right = b }) refl)

-- The parts of a pair that is an item are items.
pub both-parts : (a b : Option Value) → IsSome (both a b) → IsSome a × IsSome b
both-parts None b there = absurd (cc)
both-parts (Some v) None there = absurd (cc)
both-parts (Some v) (Some w) there = (refl, refl)

pub is_some-both : (a b : Option Value) → is_some (both a b) ≡ is_some a && is_some b
is_some-both None b = refl
is_some-both (Some v) None = refl
is_some-both (Some v) (Some w) = refl

pub is_some-map : {X Y : Type 0} (f : X → Y) (o : Option X) → is_some (option_map f o) ≡ is_some o
is_some-map f None = refl
is_some-map f (Some x) = refl

pub both-made : (a b : Option Value) (v w : Value) → a ≡ Some v → b ≡ Some w → both a b ≡ Some (values.Pair (record { left = v; right = w }))
both-made a b v w left right = λ i. both (left i) (right i)

-- Few names in a pair are few in its parts.
pub HasFewNames-Pair : (y : Twins) → HasFewNames (kinds.Pair y) ≡ (HasFewNames y.left × HasFewNames y.right)
unfolding hidden hidden-the_row-Twins-0
HasFewNames-Pair y = refl

pub few_parts : (k : Kindred) (y : Twins) → k ≡ kinds.Pair y → HasFewNames k → HasFewNames y.left × HasFewNames y.right
few_parts k y is few = rw (is, HasFewNames-Pair y) at few

pub parts_in : (k : Kindred) (c : Constant) (x : LiteralPair) (y : Twins) → c ≡ constants.Pair x → k ≡ kinds.Pair y → IsSome (item_in k c) → IsSome (item_in y.left x.left.constant) × IsSome (item_in y.right x.right.constant)
parts_in k c x y at is there = both-parts _ _ (rw (is, at, item_in-Pair x y) at there)

-- Items one after another, as far as a place.
pub filter_map-more : {X Y : Type 0} (f : X → Option Y) (xs : List X) (i : ℕ) (x : X) → i < length xs → x ≡ get_or xs i x → filter_map f (take (i + 1) xs) ≡ filter_map f (take i xs) ++ cons_option (f x) []
filter_map-more f xs i x within is =
    ap (filter_map f) (take_more xs i x within ∙ ap (λ y. take i xs ++ y ∷ []) (sym is)) ∙ filter_map-append f (take i xs) (x ∷ [])
