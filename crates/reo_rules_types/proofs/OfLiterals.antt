-- Literals that are items of types.
use Rattle.std.proofs.Common.{◌≡◌, ◌∙◌, ℕ, ℤ, List, length, Bool, true, false, ◌&&◌, Option, None, Some, cond, nat_lt, refl, sym, ap, bytes_eq}
use Rattle.std.specs.Prelude.{is_none, option_map, option_and_then, is_some, not}
use Rattle.std.specs.List.{position_or_len}
use Rattle.std.proofs.lemmas.Iterator.Adapters.{position_from-zero}
use denote.Hole.Carrier.{hidden}
use Rattle.reo_values.specs.declared.value.Value.{Value}
use Rattle.reo_values.specs.declared.value.Value.TheVariants as values
use Rattle.reo_values.specs.declared.value.Value.TheBlock.{hidden-the_row-Couple-0}
use Rattle.reo_values.specs.declared.kindred.Kindred.{Kindred}
use Rattle.reo_values.specs.declared.kindred.Kindred.TheVariants as kinds
use Rattle.reo_values.specs.declared.kindred.Kindred.TheBlock.{hidden-the_row-Twins-0}
use Rattle.reo_values.specs.declared.kindred.Twins.{Twins}
use Rattle.reo_values.specs.Kind.{is_item}
use Rattle.reo_trees.specs.declared.literals.Constant.TheVariants as constants
use Rattle.reo_trees.specs.declared.literals.Constant.TheBlock.{hidden-the_row-LiteralPair-0}
use Rattle.reo_trees.specs.declared.literals.LiteralPair.{LiteralPair}
use Rattle.reo_trees.specs.declared.literals.Literal.{Literal}
use Rattle.reo_rules.specs.literals.Items.{value_of, item_of}
use Rattle.reo_rules.specs.Lists.{has_name}
use Rattle.reo_rules_types.specs.declared.cell.TypeParts.{TypeParts}
use Rattle.reo_rules_types.specs.declared.cell.TypeParts.TheVariants as cells
use Rattle.reo_rules_types.specs.Cells.{kindred_of}
use Rattle.reo_rules_types.specs.Literals.{is_literal}
use Rattle.reo_rules_types.proofs.Places.{below}

-- The item, where it is one of the type.
abbrev checked : Kindred → Value → Option Value
checked k v = cond (is_item v k) (Some v) None

named : (t : Bool) (n : ℕ) (names : List (List ℕ)) → nat_lt n (length names) ≡ t → is_some (option_and_then (checked (kinds.Sym names)) (option_map (λ j. values.Sym j) (cond t (Some n) None))) ≡ t
named true n names e = ap (λ b. is_some (cond b (Some (values.Sym n)) None)) e
named false n names e = refl

-- A name is an item exactly where it is a symbol.
pub name_literal : (names : List (List ℕ)) (name : List ℕ) → has_name names name ≡ is_literal (kinds.Sym names) (constants.Name name)
name_literal names name =
    sym (below (bytes_eq name) names)
    ∙ sym (named _ (position_or_len (bytes_eq name) names) names refl)
    ∙ ap (λ o. is_some (option_and_then (checked (kinds.Sym names)) (option_map (λ j. values.Sym j) o))) (position_from-zero (bytes_eq name) names)

value-Pair : (p : LiteralPair) (t : Twins) → value_of (constants.Pair p) (kinds.Pair t) ≡ option_and_then (λ v. option_map (λ w. values.Pair (record { left = v; right = w })) (value_of p.right.constant t.right)) (value_of p.left.constant t.left)
unfolding hidden-the_row-Twins-0 hidden-the_row-LiteralPair-0 hidden
value-Pair p t = refl

item-Pair : (t : Twins) (v w : Value) → is_item (values.Pair (record { left = v; right = w })) (kinds.Pair t) ≡ (is_item v t.left && is_item w t.right)
unfolding hidden-the_row-Twins-0 hidden-the_row-Couple-0 hidden
item-Pair t v w = refl

both_some : (a b : Bool) (u v w : Value) → is_some (cond (a && b) (Some u) None) ≡ (is_some (cond a (Some v) None) && is_some (cond b (Some w) None))
both_some true true u v w = refl
both_some true false u v w = refl
both_some false true u v w = refl
both_some false false u v w = refl

and_false : (b : Bool) → false ≡ (b && false)
and_false true = refl
and_false false = refl

paired : (t : Twins) (o p : Option Value) → is_some (option_and_then (checked (kinds.Pair t)) (option_and_then (λ v. option_map (λ w. values.Pair (record { left = v; right = w })) p) o))
    ≡ (is_some (option_and_then (checked t.left) o) && is_some (option_and_then (checked t.right) p))
paired t None p = refl
paired t (Some v) None = and_false (is_some (checked t.left v))
paired t (Some v) (Some w) =
    ap (λ b. is_some (cond b (Some (values.Pair (record { left = v; right = w }))) None)) (item-Pair t v w)
    ∙ both_some (is_item v t.left) (is_item w t.right) (values.Pair (record { left = v; right = w })) v w

-- A pair is an item exactly where both parts are.
pub pair_literal : (p : LiteralPair) (t : Twins) → is_literal (kinds.Pair t) (constants.Pair p) ≡ (is_literal t.left p.left.constant && is_literal t.right p.right.constant)
pair_literal p t = ap (λ o. is_some (option_and_then (checked (kinds.Pair t)) o)) (value-Pair p t) ∙ paired t (value_of p.left.constant t.left) (value_of p.right.constant t.right)

if_some : (b : Bool) (v : Value) → is_some (cond b (Some v) None) ≡ b
if_some true v = refl
if_some false v = refl

-- A number and a text.
pub int_literal : (n low high : ℤ) → is_literal (kinds.Int low high) (constants.Int n) ≡ is_item (values.Int n) (kinds.Int low high)
int_literal n low high = if_some _ (values.Int n)

pub text_literal : (bytes : List ℕ) (most : ℕ) → is_literal (kinds.Text most) (constants.Text bytes) ≡ is_item (values.Text bytes) (kinds.Text most)
text_literal bytes most = if_some _ (values.Text bytes)

module _ (types : List Kindred) where
  -- No other item is one of the type.
  pub no_unit : (c : TypeParts) → (c ≡ cells.Unit → ⊥) → false ≡ is_literal (kindred_of types c) constants.Unit
  unfolding hidden-the_row-Twins-0 hidden
  no_unit cells.Unit not = absurd (not refl)
  no_unit cells.Bool not = refl
  no_unit (cells.Int a b) not = refl
  no_unit (cells.Sym names) not = refl
  no_unit (cells.Text m) not = refl
  no_unit (cells.Pair a b) not = refl

  pub no_bool : (c : TypeParts) (b : Bool) → (c ≡ cells.Bool → ⊥) → false ≡ is_literal (kindred_of types c) (constants.Bool b)
  unfolding hidden-the_row-Twins-0 hidden
  no_bool cells.Unit b not = refl
  no_bool cells.Bool b not = absurd (not refl)
  no_bool (cells.Int x y) b not = refl
  no_bool (cells.Sym names) b not = refl
  no_bool (cells.Text m) b not = refl
  no_bool (cells.Pair x y) b not = refl

  pub no_int : (c : TypeParts) (n : ℤ) → ((x y : ℤ) → c ≡ cells.Int x y → ⊥) → false ≡ is_literal (kindred_of types c) (constants.Int n)
  unfolding hidden-the_row-Twins-0 hidden
  no_int cells.Unit n not = refl
  no_int cells.Bool n not = refl
  no_int (cells.Int x y) n not = absurd (not x y refl)
  no_int (cells.Sym names) n not = refl
  no_int (cells.Text m) n not = refl
  no_int (cells.Pair x y) n not = refl

  pub no_name : (c : TypeParts) (name : List ℕ) → ((names : _) → c ≡ cells.Sym names → ⊥) → false ≡ is_literal (kindred_of types c) (constants.Name name)
  unfolding hidden-the_row-Twins-0 hidden
  no_name cells.Unit n not = refl
  no_name cells.Bool n not = refl
  no_name (cells.Int x y) n not = refl
  no_name (cells.Sym names) n not = absurd (not names refl)
  no_name (cells.Text m) n not = refl
  no_name (cells.Pair x y) n not = refl

  pub no_text : (c : TypeParts) (bytes : List ℕ) → ((m : ℕ) → c ≡ cells.Text m → ⊥) → false ≡ is_literal (kindred_of types c) (constants.Text bytes)
  unfolding hidden-the_row-Twins-0 hidden
  no_text cells.Unit n not = refl
  no_text cells.Bool n not = refl
  no_text (cells.Int x y) n not = refl
  no_text (cells.Sym names) n not = refl
  no_text (cells.Text m) n not = absurd (not m refl)
  no_text (cells.Pair x y) n not = refl

  pub no_pair : (c : TypeParts) (p : LiteralPair) → ((x y : ℕ) → c ≡ cells.Pair x y → ⊥) → false ≡ is_literal (kindred_of types c) (constants.Pair p)
  unfolding hidden-the_row-LiteralPair-0 hidden
  no_pair cells.Unit n not = refl
  no_pair cells.Bool n not = refl
  no_pair (cells.Int x y) n not = refl
  no_pair (cells.Sym names) n not = refl
  no_pair (cells.Text m) n not = refl
  no_pair (cells.Pair x y) n not = absurd (not x y refl)

-- Literals one after another.
none_from : {X : Type 0} (o : Option X) → is_some o ≡ false → is_none o ≡ true
none_from None is = refl
none_from (Some x) is = absurd (cc)

some_from : {X : Type 0} (o : Option X) → is_some o ≡ true → is_none o ≡ false
some_from None is = absurd (cc)
some_from (Some x) is = refl

pub misfit : (k : Kindred) (l : Literal) → is_literal k l.constant ≡ false → is_none (item_of k l) ≡ true
misfit k l is = none_from (item_of k l) is

pub fit : (k : Kindred) (l : Literal) → is_literal k l.constant ≡ true → is_none (item_of k l) ≡ false
fit k l is = some_from (item_of k l) is
