-- No connector that is made has more items than are counted.
use Rattle.std.proofs.Common.{◌≡◌, ◌∙◌, ℕ, ◌+◌, ◌≤◌, Bool, true, false, cond, List, [], ◌∷◌, ◌++◌, length, map, refl, arith, length-append}
use Rattle.std.proofs.lemmas.Bool.{ltb-false}
use Rattle.std.proofs.lemmas.List.{length-map}
use Rattle.std.proofs.lemmas.List.Elements.{All-append}
use Rattle.std.proofs.lemmas.List.FromFn.{length-map-range_with_len}
use Rattle.std.specs.Prelude.{pos, Option, Some, None, Result, Ok, Err, nat_lt, flat_map}
use Rattle.std.specs.List.{All}
use Rattle.reo_trees.specs.declared.indexes.Index.{Index}
use Rattle.reo_trees.specs.declared.items.Item.{Item}
use Rattle.reo_trees.specs.declared.items.ItemForm.TheVariants as plain
use Rattle.reo_trees.specs.declared.items_two.ItemTwo.{ItemTwo}
use Rattle.reo_trees.specs.declared.items_two.FormTwo as form
use Rattle.reo_trees.specs.declared.items_two.FormTwo.{FormTwo}
use Rattle.reo_trees.specs.declared.programs.Declaration.{Declaration}
use Rattle.reo_trees.specs.declared.programs.Declaration.TheVariants as declarations
use Rattle.reo_trees.specs.declared.programs_two.ConnectorTwo.{ConnectorTwo}
use Rattle.reo_trees.specs.declared.programs_two.DeclarationTwo.{DeclarationTwo}
use Rattle.reo_trees.specs.declared.programs_two.DeclarationTwo.TheVariants as two
use Rattle.reo_syntax_laws.specs.trees_laws.Few.{HasAtMost}
use Rattle.reo_syntax_laws.proofs.trees_laws.Lists.{all-none, all-one, all-cons}
use Rattle.reo_expand.specs.declared.base.fault.ExpandFault.{ExpandFault}
use Rattle.reo_expand.specs.declared.base.fault.ExpandFault.TheVariants as faults
use Rattle.reo_expand.specs.declared.base.bound.Bound.{Bound}
use Rattle.reo_expand.specs.declared.base.bound.Instance.{Instance}
use Rattle.reo_expand.specs.base.Indexed.{value_of, natural, turns}
use Rattle.reo_expand.specs.base.Expansion.{placed_name, node_names, on_line, with_bound, items_of, items_of_row, items_in, connector_for, instances_of, connectors_of, declared_by, expanded}
use Rattle.reo_expand.specs.base.Steps.{Step, unbound_steps, index_steps, ref_steps, none_fits, of_name, refused_where, size_count, steps_of, steps_of_row, steps_in, two_in, declaration_steps, steps_from, most_steps, walked}
use Rattle.reo_expand.specs.base.Steps.Step.{counted, refused}

-- What the steps count in all.
abbrev total : List Step → ℕ
total [] = 0
total (counted k ∷ steps) = k + total steps
total (refused fault ∷ steps) = total steps

total_append : (xs ys : List Step) → total (xs ++ ys) ≡ total xs + total ys
total_append [] ys = omega arith
total_append (counted k ∷ xs) ys = let more = total_append xs ys in omega (arith, more)
total_append (refused fault ∷ xs) ys = total_append xs ys

behind_total : (xs ys : List Step) → total ys ≤ total (xs ++ ys)
behind_total xs ys = let is = total_append xs ys in omega (arith, is)

before_total : (xs ys : List Step) → total xs ≤ total (xs ++ ys)
before_total xs ys = let is = total_append xs ys in omega (arith, is)

-- A walk that meets no refusal ends at the sum, which is at most 65,536.
ok_is : (n m : ℕ) → ◌≡◌ {A = Result ℕ ExpandFault} (Ok n) (Ok m) → n ≡ m
ok_is n m e = cc

err_is_ok : (fault : ExpandFault) (m : ℕ) → ◌≡◌ {A = Result ℕ ExpandFault} (Err fault) (Ok m) → ⊥
err_is_ok fault m e = cc

abbrev Ends : ℕ → ℕ → ℕ → Type 0
Ends n m sum = (n + sum ≡ m) × (m ≤ most_steps)

counted_on : (n k m sum : ℕ) (rest : Result ℕ ExpandFault) (past : Bool) (fault : ExpandFault) → nat_lt most_steps (n + k) ≡ past → (n + k ≤ most_steps → rest ≡ Ok m → Ends (n + k) m sum)
    → cond past (Err fault) rest ≡ Ok m → Ends n m (k + sum)
counted_on n k m sum rest true fault over on is = absurd (err_is_ok fault m is)
counted_on n k m sum rest false fault over on is =
    let few = ltb-false most_steps (n + k) over in
    let more = on (omega (arith, few)) is in
    let sums = more.0 in (omega (arith, sums), more.1)

walked_total : (n m : ℕ) (steps : List Step) → n ≤ most_steps → walked n steps ≡ Ok m → Ends n m (total steps)
walked_total n m [] few is = let same = ok_is n m is in (omega (arith, same), omega (arith, same, few))
walked_total n m (refused fault ∷ steps) few is = absurd (err_is_ok fault m is)
walked_total n m (counted k ∷ steps) few is = counted_on n k m (total steps) (walked (n + k) steps) (nat_lt most_steps (n + k)) _ refl (λ less so. walked_total (n + k) m steps less so) is

-- What is made of each part of a list, and what is counted for it.
flat_few : {X : Type 0} (f : X → List Item) (g : X → List Step) (xs : List X) → ((x : X) → length (f x) ≤ total (g x)) → length (flat_map f xs) ≤ total (flat_map g xs)
flat_few f g [] each = omega arith
flat_few f g (x ∷ xs) each =
    let here = each x in
    let rest = flat_few f g xs each in
    let made = length-append (f x) (flat_map f xs) in
    let sum = total_append (g x) (flat_map g xs) in omega (arith, here, rest, made, sum)

names_count : (bound : List Bound) (name : List ℕ) (size : Option Index) → length (node_names bound name size) ≡ size_count bound size
names_count bound name None = refl
names_count bound name (Some i) = length-map-range_with_len (λ j. placed_name name (pos j)) 0 (natural (value_of bound i))

mutual
  -- An item, and what is counted for it.
  item_few : (before : List ConnectorTwo) (bound : List Bound) (line : ℕ) (f : FormTwo) → length (items_of bound line f) ≤ total (steps_of before bound line f)
  item_few before bound line (form.Node name size term) =
      let made : length (items_of bound line (form.Node name size term)) ≡ size_count bound size = length-map (node_names bound name size) (λ n. on_line line (plain.Node n term)) ∙ names_count bound name size in
      let sum = behind_total (index_steps bound line 1 size) (counted (size_count bound size) ∷ []) in omega (arith, made, sum)
  item_few before bound line (form.Joined channel first second) =
      let one = behind_total (ref_steps bound line second) (counted 1 ∷ []) in
      let sum = behind_total (ref_steps bound line first) (ref_steps bound line second ++ counted 1 ∷ []) in omega (arith, one, sum)
  item_few before bound line (form.Used name number arguments) =
      let last : List Step = refused_where (none_fits number (of_name before name)) (faults.Number line) ++ counted 1 ∷ [] in
      let one = behind_total (refused_where (none_fits number (of_name before name)) (faults.Number line)) (counted 1 ∷ []) in
      let two = behind_total (flat_map (ref_steps bound line) arguments) last in
      let sum = behind_total (index_steps bound line 0 number) (flat_map (ref_steps bound line) arguments ++ last) in omega (arith, one, two, sum)
  item_few before bound line (form.Loop' variable low high m row) =
      let turned : List Step = flat_map (λ z. counted 1 ∷ steps_of_row before (with_bound bound variable z) row) (turns (value_of bound low) (value_of bound high)) in
      let one = behind_total (unbound_steps bound line high) turned in
      let sum = behind_total (unbound_steps bound line low) (unbound_steps bound line high ++ turned) in
      let all = flat_few (λ z. items_of_row (with_bound bound variable z) row) (λ z. counted 1 ∷ steps_of_row before (with_bound bound variable z) row) (turns (value_of bound low) (value_of bound high))
      (λ z. let here = row_few before (with_bound bound variable z) row in omega (arith, here)) in
      omega (arith, one, sum, all)

  row_few : (before : List ConnectorTwo) (bound : List Bound) {m : _} (row : form.Row_of-ItemTwo m) → length (items_of_row bound row) ≤ total (steps_of_row before bound row)
  row_few before bound form.end_of-ItemTwo = omega arith
  row_few before bound (form.more_of-ItemTwo line f rest) =
      let here = item_few before bound line f in
      let more = row_few before bound rest in
      let made = length-append (items_of bound line f) (items_of_row bound rest) in
      let sum = total_append (steps_of before bound line f) (steps_of_row before bound rest) in omega (arith, here, more, made, sum)

items_few : (before : List ConnectorTwo) (bound : List Bound) (items : List ItemTwo) → length (items_in bound items) ≤ total (steps_in before bound items)
items_few before bound items = flat_few (λ (i : ItemTwo). items_of bound i.line i.form) (λ (i : ItemTwo). steps_of before bound i.line i.form) items (λ i. item_few before bound i.line i.form)

at_most : (few more : ℕ) → few ≤ more → (d : Declaration) → HasAtMost few d → HasAtMost more d
at_most few more le (declarations.Named line name term) has = tt
at_most few more le (declarations.Made c) has = omega (arith, le, has)

all_most : (few more : ℕ) → few ≤ more → (ds : List Declaration) → All (HasAtMost few) ds → All (HasAtMost more) ds
all_most few more le ds all k d below = at_most few more le _ (all k d below)

-- A connector for each instance.
made_few : (before : List ConnectorTwo) (c : ConnectorTwo) (is : List Instance) → All (HasAtMost (total (flat_map (λ (i : Instance). steps_in before i.bound c.items) is))) (map (λ (i : Instance). declarations.Made (connector_for c i)) is)
made_few before c [] = all-none (HasAtMost 0)
made_few before c (i ∷ is) =
    let steps : List Step = flat_map (λ (j : Instance). steps_in before j.bound c.items) is in
    let first = before_total (steps_in before i.bound c.items) steps in
    let others = behind_total (steps_in before i.bound c.items) steps in
    let few = items_few before i.bound c.items in
    all-cons (HasAtMost (total (steps_in before i.bound c.items ++ steps))) (declarations.Made (connector_for c i)) (map (λ (j : Instance). declarations.Made (connector_for c j)) is) (omega (arith, first, few))
    (all_most (total steps) (total (steps_in before i.bound c.items ++ steps)) others (map (λ (j : Instance). declarations.Made (connector_for c j)) is) (made_few before c is))

declared_few : (before : List ConnectorTwo) (behind : List DeclarationTwo) (d : DeclarationTwo) → All (HasAtMost (total (declaration_steps before behind d))) (declared_by (connectors_of (expanded behind)) d)
declared_few before behind (two.Named line name term) = all-one (HasAtMost 0) (declarations.Named line name term) tt
declared_few before behind (two.Made c) = made_few before c (instances_of (connectors_of (expanded behind)) c)

expanded_few : (before : List ConnectorTwo) (ds : List DeclarationTwo) → All (HasAtMost (total (steps_from before ds))) (expanded ds)
expanded_few before [] = all-none (HasAtMost 0)
expanded_few before (d ∷ ds) =
    let later : List Step = steps_from (before ++ two_in d) ds in
    let own : List Step = declaration_steps before ds d in
    let most : ℕ = total (later ++ own) in
    All-append (HasAtMost most) (declared_by (connectors_of (expanded ds)) d) (expanded ds)
    (all_most (total own) most (behind_total later own) (declared_by (connectors_of (expanded ds)) d) (declared_few before ds d))
    (all_most (total later) most (before_total later own) (expanded ds) (expanded_few (before ++ two_in d) ds))

-- Where no refusal is met, no connector has more items than are counted, and these are at most 65,536.
pub few_items : (ds : List DeclarationTwo) (count : ℕ) → walked 0 (steps_from [] ds) ≡ Ok count → All (HasAtMost most_steps) (expanded ds)
few_items ds count is =
    let sum = walked_total 0 count (steps_from [] ds) (omega arith) is in
    all_most (total (steps_from [] ds)) most_steps (omega (arith, sum.0, sum.1)) (expanded ds) (expanded_few [] ds)
