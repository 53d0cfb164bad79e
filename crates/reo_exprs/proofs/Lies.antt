-- Items that lie in types, and in the types that these lie inside.
use Rattle.std.proofs.Common.{◌≡◌, ◌<◌, ◌≤◌, length, subst, refl, arith}
use Rattle.std.specs.Prelude.{◌≤ℤ◌}
use Rattle.std.specs.List.{All}
use Rattle.std.proofs.lemmas.Int.{ints}
use denote.Hole.Carrier.{hidden}
use Rattle.reo_values.specs.declared.value.Value as value
use Rattle.reo_values.specs.declared.value.Value.{Value}
use Rattle.reo_values.specs.declared.value.Value.TheVariants as values
use Rattle.reo_values.specs.declared.value.Value.TheBlock.{hidden-the_row-Couple-0}
use Rattle.reo_values.specs.declared.value.Couple.{Couple}
use Rattle.reo_values.specs.declared.kindred.Kindred as kindred
use Rattle.reo_values.specs.declared.kindred.Kindred.{Kindred}
use Rattle.reo_values.specs.declared.kindred.Kindred.TheVariants as kinds
use Rattle.reo_values.specs.declared.kindred.Kindred.TheBlock.{hidden-the_row-Twins-0}
use Rattle.reo_values.specs.declared.kindred.Twins.{Twins}
use Rattle.reo_values.specs.Kind.{IsIn, IsPlain}
use Rattle.reo_exprs.specs.Kinds.{LiesInside}

-- the item is of the type; that its names are the type's and its texts printable is said where S holds
abbrev pub Lies : Type 0 → Value → Kindred → Type 0
Lies S value.Unit kindred.Unit = Unit {0}
Lies S (value.Bool b) kindred.Bool = Unit {0}
Lies S (value.Int z) (kindred.Int low high) = (low ≤ℤ z) × (z ≤ℤ high)
Lies S (value.Sym k) (kindred.Sym names) = S → k < length names
Lies S (value.Text bytes) (kindred.Text most) = (length bytes ≤ most) × (S → All IsPlain bytes)
Lies S (value.Pair' m (value.more_of-Couple x y _)) (kindred.Pair' n (kindred.more_of-Twins a b _)) = Lies S x a × Lies S y b
Lies S _ _ = ⊥

module _ (S : Type 0) where
  -- what is of a type lies in it
  pub lies_in : (v : Value) (t : Kindred) → IsIn v t → Lies S v t
  lies_in value.Unit kindred.Unit h = h
  lies_in value.Unit kindred.Bool h = absurd h
  lies_in value.Unit (kindred.Int a b) h = absurd h
  lies_in value.Unit (kindred.Sym names) h = absurd h
  lies_in value.Unit (kindred.Text most) h = absurd h
  lies_in value.Unit (kindred.Pair' n (kindred.more_of-Twins a b kindred.end_of-Twins)) h = absurd h
  lies_in (value.Bool q) kindred.Unit h = absurd h
  lies_in (value.Bool q) kindred.Bool h = h
  lies_in (value.Bool q) (kindred.Int a b) h = absurd h
  lies_in (value.Bool q) (kindred.Sym names) h = absurd h
  lies_in (value.Bool q) (kindred.Text most) h = absurd h
  lies_in (value.Bool q) (kindred.Pair' n (kindred.more_of-Twins a b kindred.end_of-Twins)) h = absurd h
  lies_in (value.Int z) kindred.Unit h = absurd h
  lies_in (value.Int z) kindred.Bool h = absurd h
  lies_in (value.Int z) (kindred.Int a b) h = h
  lies_in (value.Int z) (kindred.Sym names) h = absurd h
  lies_in (value.Int z) (kindred.Text most) h = absurd h
  lies_in (value.Int z) (kindred.Pair' n (kindred.more_of-Twins a b kindred.end_of-Twins)) h = absurd h
  lies_in (value.Sym k) kindred.Unit h = absurd h
  lies_in (value.Sym k) kindred.Bool h = absurd h
  lies_in (value.Sym k) (kindred.Int a b) h = absurd h
  lies_in (value.Sym k) (kindred.Sym names) h = (λ p. h)
  lies_in (value.Sym k) (kindred.Text most) h = absurd h
  lies_in (value.Sym k) (kindred.Pair' n (kindred.more_of-Twins a b kindred.end_of-Twins)) h = absurd h
  lies_in (value.Text bytes) kindred.Unit h = absurd h
  lies_in (value.Text bytes) kindred.Bool h = absurd h
  lies_in (value.Text bytes) (kindred.Int a b) h = absurd h
  lies_in (value.Text bytes) (kindred.Sym names) h = absurd h
  lies_in (value.Text bytes) (kindred.Text most) h = (h.0, λ p. h.1)
  lies_in (value.Text bytes) (kindred.Pair' n (kindred.more_of-Twins a b kindred.end_of-Twins)) h = absurd h
  lies_in (value.Pair' m (value.more_of-Couple x y value.end_of-Couple)) kindred.Unit h = absurd h
  lies_in (value.Pair' m (value.more_of-Couple x y value.end_of-Couple)) kindred.Bool h = absurd h
  lies_in (value.Pair' m (value.more_of-Couple x y value.end_of-Couple)) (kindred.Int a b) h = absurd h
  lies_in (value.Pair' m (value.more_of-Couple x y value.end_of-Couple)) (kindred.Sym names) h = absurd h
  lies_in (value.Pair' m (value.more_of-Couple x y value.end_of-Couple)) (kindred.Text most) h = absurd h
  lies_in (value.Pair' m (value.more_of-Couple x y value.end_of-Couple)) (kindred.Pair' n (kindred.more_of-Twins a b kindred.end_of-Twins)) h = (lies_in x a h.0, lies_in y b h.1)

  -- and the other way round where S holds
  pub in_lies : S → (v : Value) (t : Kindred) → Lies S v t → IsIn v t
  in_lies p value.Unit kindred.Unit h = h
  in_lies p value.Unit kindred.Bool h = absurd h
  in_lies p value.Unit (kindred.Int a b) h = absurd h
  in_lies p value.Unit (kindred.Sym names) h = absurd h
  in_lies p value.Unit (kindred.Text most) h = absurd h
  in_lies p value.Unit (kindred.Pair' n (kindred.more_of-Twins a b kindred.end_of-Twins)) h = absurd h
  in_lies p (value.Bool q) kindred.Unit h = absurd h
  in_lies p (value.Bool q) kindred.Bool h = h
  in_lies p (value.Bool q) (kindred.Int a b) h = absurd h
  in_lies p (value.Bool q) (kindred.Sym names) h = absurd h
  in_lies p (value.Bool q) (kindred.Text most) h = absurd h
  in_lies p (value.Bool q) (kindred.Pair' n (kindred.more_of-Twins a b kindred.end_of-Twins)) h = absurd h
  in_lies p (value.Int z) kindred.Unit h = absurd h
  in_lies p (value.Int z) kindred.Bool h = absurd h
  in_lies p (value.Int z) (kindred.Int a b) h = h
  in_lies p (value.Int z) (kindred.Sym names) h = absurd h
  in_lies p (value.Int z) (kindred.Text most) h = absurd h
  in_lies p (value.Int z) (kindred.Pair' n (kindred.more_of-Twins a b kindred.end_of-Twins)) h = absurd h
  in_lies p (value.Sym k) kindred.Unit h = absurd h
  in_lies p (value.Sym k) kindred.Bool h = absurd h
  in_lies p (value.Sym k) (kindred.Int a b) h = absurd h
  in_lies p (value.Sym k) (kindred.Sym names) h = h p
  in_lies p (value.Sym k) (kindred.Text most) h = absurd h
  in_lies p (value.Sym k) (kindred.Pair' n (kindred.more_of-Twins a b kindred.end_of-Twins)) h = absurd h
  in_lies p (value.Text bytes) kindred.Unit h = absurd h
  in_lies p (value.Text bytes) kindred.Bool h = absurd h
  in_lies p (value.Text bytes) (kindred.Int a b) h = absurd h
  in_lies p (value.Text bytes) (kindred.Sym names) h = absurd h
  in_lies p (value.Text bytes) (kindred.Text most) h = (h.0, h.1 p)
  in_lies p (value.Text bytes) (kindred.Pair' n (kindred.more_of-Twins a b kindred.end_of-Twins)) h = absurd h
  in_lies p (value.Pair' m (value.more_of-Couple x y value.end_of-Couple)) kindred.Unit h = absurd h
  in_lies p (value.Pair' m (value.more_of-Couple x y value.end_of-Couple)) kindred.Bool h = absurd h
  in_lies p (value.Pair' m (value.more_of-Couple x y value.end_of-Couple)) (kindred.Int a b) h = absurd h
  in_lies p (value.Pair' m (value.more_of-Couple x y value.end_of-Couple)) (kindred.Sym names) h = absurd h
  in_lies p (value.Pair' m (value.more_of-Couple x y value.end_of-Couple)) (kindred.Text most) h = absurd h
  in_lies p (value.Pair' m (value.more_of-Couple x y value.end_of-Couple)) (kindred.Pair' n (kindred.more_of-Twins a b kindred.end_of-Twins)) h = (in_lies p x a h.0, in_lies p y b h.1)

  -- a pair lies in a type of pairs where its parts lie in the parts
  pub Lies-Pair : (x : Couple) (y : Twins) → Lies S (values.Pair x) (kinds.Pair y) ≡ (Lies S x.left y.left × Lies S x.right y.right)
  unfolding hidden-the_row-Couple-0 hidden hidden-the_row-Twins-0
  Lies-Pair x y = refl

  -- and what lies in a type of pairs is a pair of such parts
  pub pair_lies : (y : Twins) (v : Value) → Lies S v (kinds.Pair y) → (x : Couple) × (v ≡ values.Pair x) × Lies S x.left y.left × Lies S x.right y.right
  unfolding hidden-the_row-Couple-0 hidden hidden-the_row-Twins-0
  pair_lies y value.Unit h = absurd h
  pair_lies y (value.Bool b) h = absurd h
  pair_lies y (value.Int z) h = absurd h
  pair_lies y (value.Sym k) h = absurd h
  pair_lies y (value.Text bytes) h = absurd h
  pair_lies y (value.Pair' m (value.more_of-Couple l r value.end_of-Couple)) h = (record { left = l; right = r }, refl, h.0, h.1)

  -- what lies in a type lies in each that this lies inside
  pub lies_inside : (s t : Kindred) (v : Value) → LiesInside s t → Lies S v s → Lies S v t
  lies_inside kindred.Unit kindred.Unit value.Unit l h = h
  lies_inside kindred.Unit kindred.Unit (value.Bool q) l h = absurd h
  lies_inside kindred.Unit kindred.Unit (value.Int z) l h = absurd h
  lies_inside kindred.Unit kindred.Unit (value.Sym k) l h = absurd h
  lies_inside kindred.Unit kindred.Unit (value.Text bytes) l h = absurd h
  lies_inside kindred.Unit kindred.Unit (value.Pair' m (value.more_of-Couple x y value.end_of-Couple)) l h = absurd h
  lies_inside kindred.Unit kindred.Bool v l h = absurd l
  lies_inside kindred.Unit (kindred.Int c d) v l h = absurd l
  lies_inside kindred.Unit (kindred.Sym names2) v l h = absurd l
  lies_inside kindred.Unit (kindred.Text most2) v l h = absurd l
  lies_inside kindred.Unit (kindred.Pair' j (kindred.more_of-Twins c d kindred.end_of-Twins)) v l h = absurd l
  lies_inside kindred.Bool kindred.Unit v l h = absurd l
  lies_inside kindred.Bool kindred.Bool value.Unit l h = absurd h
  lies_inside kindred.Bool kindred.Bool (value.Bool q) l h = h
  lies_inside kindred.Bool kindred.Bool (value.Int z) l h = absurd h
  lies_inside kindred.Bool kindred.Bool (value.Sym k) l h = absurd h
  lies_inside kindred.Bool kindred.Bool (value.Text bytes) l h = absurd h
  lies_inside kindred.Bool kindred.Bool (value.Pair' m (value.more_of-Couple x y value.end_of-Couple)) l h = absurd h
  lies_inside kindred.Bool (kindred.Int c d) v l h = absurd l
  lies_inside kindred.Bool (kindred.Sym names2) v l h = absurd l
  lies_inside kindred.Bool (kindred.Text most2) v l h = absurd l
  lies_inside kindred.Bool (kindred.Pair' j (kindred.more_of-Twins c d kindred.end_of-Twins)) v l h = absurd l
  lies_inside (kindred.Int a b) kindred.Unit v l h = absurd l
  lies_inside (kindred.Int a b) kindred.Bool v l h = absurd l
  lies_inside (kindred.Int a b) (kindred.Int c d) value.Unit l h = absurd h
  lies_inside (kindred.Int a b) (kindred.Int c d) (value.Bool q) l h = absurd h
  lies_inside (kindred.Int a b) (kindred.Int c d) (value.Int z) l h = (omega (arith, ints), omega (arith, ints))
  lies_inside (kindred.Int a b) (kindred.Int c d) (value.Sym k) l h = absurd h
  lies_inside (kindred.Int a b) (kindred.Int c d) (value.Text bytes) l h = absurd h
  lies_inside (kindred.Int a b) (kindred.Int c d) (value.Pair' m (value.more_of-Couple x y value.end_of-Couple)) l h = absurd h
  lies_inside (kindred.Int a b) (kindred.Sym names2) v l h = absurd l
  lies_inside (kindred.Int a b) (kindred.Text most2) v l h = absurd l
  lies_inside (kindred.Int a b) (kindred.Pair' j (kindred.more_of-Twins c d kindred.end_of-Twins)) v l h = absurd l
  lies_inside (kindred.Sym names) kindred.Unit v l h = absurd l
  lies_inside (kindred.Sym names) kindred.Bool v l h = absurd l
  lies_inside (kindred.Sym names) (kindred.Int c d) v l h = absurd l
  lies_inside (kindred.Sym names) (kindred.Sym names2) value.Unit l h = absurd h
  lies_inside (kindred.Sym names) (kindred.Sym names2) (value.Bool q) l h = absurd h
  lies_inside (kindred.Sym names) (kindred.Sym names2) (value.Int z) l h = absurd h
  lies_inside (kindred.Sym names) (kindred.Sym names2) (value.Sym k) l h = λ p. subst (λ o. k < length o) l (h p)
  lies_inside (kindred.Sym names) (kindred.Sym names2) (value.Text bytes) l h = absurd h
  lies_inside (kindred.Sym names) (kindred.Sym names2) (value.Pair' m (value.more_of-Couple x y value.end_of-Couple)) l h = absurd h
  lies_inside (kindred.Sym names) (kindred.Text most2) v l h = absurd l
  lies_inside (kindred.Sym names) (kindred.Pair' j (kindred.more_of-Twins c d kindred.end_of-Twins)) v l h = absurd l
  lies_inside (kindred.Text most) kindred.Unit v l h = absurd l
  lies_inside (kindred.Text most) kindred.Bool v l h = absurd l
  lies_inside (kindred.Text most) (kindred.Int c d) v l h = absurd l
  lies_inside (kindred.Text most) (kindred.Sym names2) v l h = absurd l
  lies_inside (kindred.Text most) (kindred.Text most2) value.Unit l h = absurd h
  lies_inside (kindred.Text most) (kindred.Text most2) (value.Bool q) l h = absurd h
  lies_inside (kindred.Text most) (kindred.Text most2) (value.Int z) l h = absurd h
  lies_inside (kindred.Text most) (kindred.Text most2) (value.Sym k) l h = absurd h
  lies_inside (kindred.Text most) (kindred.Text most2) (value.Text bytes) l h = (omega arith, h.1)
  lies_inside (kindred.Text most) (kindred.Text most2) (value.Pair' m (value.more_of-Couple x y value.end_of-Couple)) l h = absurd h
  lies_inside (kindred.Text most) (kindred.Pair' j (kindred.more_of-Twins c d kindred.end_of-Twins)) v l h = absurd l
  lies_inside (kindred.Pair' n (kindred.more_of-Twins a b kindred.end_of-Twins)) kindred.Unit v l h = absurd l
  lies_inside (kindred.Pair' n (kindred.more_of-Twins a b kindred.end_of-Twins)) kindred.Bool v l h = absurd l
  lies_inside (kindred.Pair' n (kindred.more_of-Twins a b kindred.end_of-Twins)) (kindred.Int c d) v l h = absurd l
  lies_inside (kindred.Pair' n (kindred.more_of-Twins a b kindred.end_of-Twins)) (kindred.Sym names2) v l h = absurd l
  lies_inside (kindred.Pair' n (kindred.more_of-Twins a b kindred.end_of-Twins)) (kindred.Text most2) v l h = absurd l
  lies_inside (kindred.Pair' n (kindred.more_of-Twins a b kindred.end_of-Twins)) (kindred.Pair' j (kindred.more_of-Twins c d kindred.end_of-Twins)) value.Unit l h = absurd h
  lies_inside (kindred.Pair' n (kindred.more_of-Twins a b kindred.end_of-Twins)) (kindred.Pair' j (kindred.more_of-Twins c d kindred.end_of-Twins)) (value.Bool q) l h = absurd h
  lies_inside (kindred.Pair' n (kindred.more_of-Twins a b kindred.end_of-Twins)) (kindred.Pair' j (kindred.more_of-Twins c d kindred.end_of-Twins)) (value.Int z) l h = absurd h
  lies_inside (kindred.Pair' n (kindred.more_of-Twins a b kindred.end_of-Twins)) (kindred.Pair' j (kindred.more_of-Twins c d kindred.end_of-Twins)) (value.Sym k) l h = absurd h
  lies_inside (kindred.Pair' n (kindred.more_of-Twins a b kindred.end_of-Twins)) (kindred.Pair' j (kindred.more_of-Twins c d kindred.end_of-Twins)) (value.Text bytes) l h = absurd h
  lies_inside (kindred.Pair' n (kindred.more_of-Twins a b kindred.end_of-Twins)) (kindred.Pair' j (kindred.more_of-Twins c d kindred.end_of-Twins)) (value.Pair' m (value.more_of-Couple x y value.end_of-Couple)) l h = (lies_inside a c x l.0 h.0, lies_inside b d y l.1 h.1)

-- an item of a type is of each type that this lies inside
pub item_inside : (s t : Kindred) (v : Value) → LiesInside s t → IsIn v s → IsIn v t
item_inside s t v l h = in_lies (Unit {0}) tt v t (lies_inside (Unit {0}) s t v l (lies_in (Unit {0}) v s h))
