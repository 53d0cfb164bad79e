-- Names that are new where they stand.
use Rattle.std.proofs.Common.{arith, ◌≡◌, ◌∙◌, ℕ, ◌<◌, zero, suc, false, List, [], ◌∷◌, ◌++◌, length, take, get_or, sym, ap}
use Rattle.std.specs.Map.{keys_of}
use Rattle.std.proofs.lemmas.List.{append-nil, append_assoc, map-append}
use Rattle.reo_values.specs.declared.kindred.Kindred.{Kindred}
use Rattle.reo_rules_types.proofs.Sequences.{left_none}
use Rattle.reo_trees.specs.declared.types.TypeTerm.{TypeTerm}
use Rattle.reo_trees.specs.declared.items.Item.{Item}
use Rattle.reo_trees.specs.declared.items.ItemForm.TheVariants as forms
use Rattle.reo_trees.specs.declared.programs.Parameter.{Parameter}
use Rattle.reo_rules.specs.Lists.{each_after, has_name}
use Rattle.reo_rules.specs.Types.{Typed, names_of}
use Rattle.reo_rules.specs.Scopes.{parameter_names, node_names}
use Rattle.reo_rules.specs.Twice.{twice_in_parameter, twice_in_item, twice_in_type}
use Rattle.reo_rules_types.proofs.AfterLemmas.{right_none, where_false}
use Rattle.reo_rules_types.specs.Scoped.{typed}
use Rattle.reo_rules_types.proofs.Scoped.{names_typed}

module _ {X Y : Type 0} (f : List X → X → List Y) where
  -- Where there is no break there is none at a place.
  pub after_at : (b xs : List X) (i : ℕ) (x : X) → i < length xs → x ≡ get_or xs i x → each_after f b xs ≡ [] → f (b ++ take i xs) x ≡ []
  after_at b [] i x below is none = absurd (omega arith)
  after_at b (y ∷ ys) zero x below is none = (λ k. f (append-nil b k) (is k)) ∙ left_none (f b y) (each_after f (b ++ y ∷ []) ys) none
  after_at b (y ∷ ys) (suc i) x below is none =
      ap (λ c. f c x) (sym (append_assoc b (y ∷ []) (take i ys))) ∙ after_at (b ++ y ∷ []) ys i x (omega arith) is (right_none (f b y) (each_after f (b ++ y ∷ []) ys) none)

-- A parameter's name is new.
pub new_parameter : (ps : List Parameter) (i : ℕ) (p : Parameter) → i < length ps → p ≡ get_or ps i p → each_after twice_in_parameter [] ps ≡ [] → has_name (parameter_names (take i ps)) p.name ≡ false
new_parameter ps i p below is none = where_false _ _ (left_none _ (twice_in_type p.term) (after_at twice_in_parameter [] ps i p below is none))

-- A node's name is new.
pub new_node : (ps : List Parameter) (items : List Item) (i : ℕ) (x : Item) (name : List ℕ) (term : TypeTerm) → i < length items → x ≡ get_or items i x → x.form ≡ forms.Node name term
    → each_after (λ before (j : Item). twice_in_item ps before j.line j.form) [] items ≡ [] → has_name (parameter_names ps ++ node_names (take i items)) name ≡ false
new_node ps items i x name term below is form none =
    where_false _ _ (left_none _ (twice_in_type term) (ap (twice_in_item ps (take i items) x.line) (sym form) ∙ after_at (λ before (j : Item). twice_in_item ps before j.line j.form) [] items i x below is none))

-- The names of a scope, by its types.
pub keys_are : (types : List Kindred) (es : List (List ℕ × ℕ)) (known : List Typed) → typed types es ≡ known → keys_of es ≡ names_of known
keys_are types es known is = sym (names_typed types es) ∙ ap names_of is

pub names_append : (xs ys : List Typed) → names_of (xs ++ ys) ≡ names_of xs ++ names_of ys
names_append xs ys = map-append (λ (e : Typed). e.name) xs ys
