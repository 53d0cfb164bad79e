-- Items that are made are spelled.
use Rattle.std.proofs.Common.{ℕ, zero, suc, List, [], ◌∷◌, map, arith}
use Rattle.std.proofs.lemmas.List.Elements.{All-append, All-map}
use Rattle.std.specs.Prelude.{pos, Option, Some, None, flat_map}
use Rattle.std.specs.List.{All, range_with_len}
use Rattle.reo_trees.specs.declared.indexes.Index.{Index}
use Rattle.reo_trees.specs.declared.indexes.Ref.{Ref}
use Rattle.reo_trees.specs.declared.items.ItemForm.TheVariants as plain
use Rattle.reo_trees.specs.declared.items_two.ItemTwo.{ItemTwo}
use Rattle.reo_trees.specs.declared.items_two.FormTwo as form
use Rattle.reo_trees.specs.declared.items_two.FormTwo.{FormTwo}
use Rattle.reo_syntax_laws.specs.trees_laws.Spelled.{IsFreeName, IsItemName, IsSpelledItem}
use Rattle.reo_syntax_laws.specs.trees_laws.SpelledTwo.{IsSpelledRef, IsSpelledLooped, AreSpelledLooped, IsSpelledFormTwo, IsSpelledItemTwo}
use Rattle.reo_syntax_laws.proofs.trees_laws.Lists.{all-none, all-one}
use Rattle.reo_syntax_laws.proofs.trees_laws.Loose.{name_plain}
use Rattle.reo_expand.specs.declared.base.bound.Bound.{Bound}
use Rattle.reo_expand.specs.base.Indexed.{value_of, natural, turns}
use Rattle.reo_expand.specs.base.Expansion.{placed_name, name_at, ref_name, used_name, node_names, on_line, with_bound, items_of, items_of_row, items_in}
use Rattle.reo_expand.proofs.laws.PlainLemmas.{placed_plain, numbered_plain}

-- Of all that the parts of a list stand for.
pub all_flat : {X Y : Type 0} (P : Y → Type 0) (f : X → List Y) (xs : List X) → ((x : X) → All P (f x)) → All P (flat_map f xs)
all_flat P f [] each = all-none P
all_flat P f (x ∷ xs) each = All-append P (f x) (flat_map f xs) (each x) (all_flat P f xs each)

-- Of each that a list is mapped to.
pub all_mapped : {X Y : Type 0} (P : Y → Type 0) (f : X → Y) (xs : List X) → ((x : X) → P (f x)) → All P (map f xs)
all_mapped P f xs each = All-map P f xs (λ k d below. each _)

name_spelled : (bound : List Bound) (name : List ℕ) (place : Option Index) → IsFreeName name → IsItemName (name_at bound name place)
name_spelled bound name None free = name_plain name free.0
name_spelled bound name (Some i) free = placed_plain name (value_of bound i) (name_plain name free.0)

ref_spelled : (bound : List Bound) (r : Ref) → IsSpelledRef r → IsItemName (ref_name bound r)
ref_spelled bound r spelled = name_spelled bound r.name r.place spelled.0

used_spelled : (bound : List Bound) (name : List ℕ) (number : Option Index) → IsFreeName name → IsItemName (used_name bound name number)
used_spelled bound name None free = name_plain name free.0
used_spelled bound name (Some i) free = numbered_plain name (value_of bound i) (name_plain name free.0)

nodes_spelled : (bound : List Bound) (name : List ℕ) (size : Option Index) → IsFreeName name → All IsItemName (node_names bound name size)
nodes_spelled bound name None free = all-one IsItemName name (name_plain name free.0)
nodes_spelled bound name (Some size) free =
    all_mapped IsItemName (λ j. placed_name name (pos j)) (range_with_len 0 (natural (value_of bound size))) (λ j. placed_plain name (pos j) (name_plain name free.0))

mutual
  -- What an item of a loop stands for.
  looped_spelled : (bound : List Bound) (line loops : ℕ) (f : FormTwo) → IsSpelledLooped loops f → All IsSpelledItem (items_of bound line f)
  looped_spelled bound line loops (form.Node name size term) spelled = absurd spelled
  looped_spelled bound line loops (form.Joined channel first second) spelled =
      all-one IsSpelledItem (on_line line (plain.Joined channel (ref_name bound first) (ref_name bound second))) (spelled.0, ref_spelled bound first spelled.1, ref_spelled bound second spelled.2)
  looped_spelled bound line loops (form.Used name number arguments) spelled =
      all-one IsSpelledItem (on_line line (plain.Used (used_name bound name number) (map (ref_name bound) arguments)))
      (used_spelled bound name number spelled.0, All-map IsItemName (ref_name bound) arguments (λ k d below. ref_spelled bound _ (spelled.2 k d below)))
  looped_spelled bound line zero (form.Loop' variable low high m row) spelled = absurd spelled
  looped_spelled bound line (suc loops) (form.Loop' variable low high m row) spelled =
      all_flat IsSpelledItem (λ z. items_of_row (with_bound bound variable z) row) (turns (value_of bound low) (value_of bound high))
      (λ z. row_spelled (with_bound bound variable z) loops row spelled.3)

  row_spelled : (bound : List Bound) (loops : ℕ) {m : _} (row : form.Row_of-ItemTwo m) → AreSpelledLooped loops row → All IsSpelledItem (items_of_row bound row)
  row_spelled bound loops form.end_of-ItemTwo spelled = all-none IsSpelledItem
  row_spelled bound loops (form.more_of-ItemTwo line f rest) spelled =
      All-append IsSpelledItem (items_of bound line f) (items_of_row bound rest) (looped_spelled bound line loops f spelled.0) (row_spelled bound loops rest spelled.1)

form_spelled : (bound : List Bound) (line : ℕ) (f : FormTwo) → IsSpelledFormTwo f → All IsSpelledItem (items_of bound line f)
form_spelled bound line (form.Node name size term) spelled =
    All-map IsSpelledItem (λ n. on_line line (plain.Node n term)) (node_names bound name size) (λ k d below. (nodes_spelled bound name size spelled.0 k d below, spelled.2))
form_spelled bound line (form.Joined channel first second) spelled = looped_spelled bound line 8 (form.Joined channel first second) spelled
form_spelled bound line (form.Used name number arguments) spelled = looped_spelled bound line 8 (form.Used name number arguments) spelled
form_spelled bound line (form.Loop' variable low high m row) spelled = looped_spelled bound line 8 (form.Loop' variable low high m row) spelled

-- What the items of a connector stand for.
pub items_spelled : (bound : List Bound) (items : List ItemTwo) → All IsSpelledItemTwo items → All IsSpelledItem (items_in bound items)
items_spelled bound [] spelled = all-none IsSpelledItem
items_spelled bound (i ∷ items) spelled =
    All-append IsSpelledItem (items_of bound i.line i.form) (items_in bound items) (form_spelled bound i.line i.form (spelled zero i (omega arith))) (items_spelled bound items (λ k d below. spelled (suc k) d (omega arith)))
