-- Items of a loop by the list of its items, and with few loops in one another.
use Rattle.std.proofs.Common.{arith, ◌≡◌, ℕ, zero, suc, Bool, true, List, [], ◌∷◌, sym, subst}
use Rattle.std.proofs.lemmas.Bool.{and_parts}
use Rattle.std.specs.List.{All, list_all}
use mathlib.Core.Former.{Count}
use Rattle.reo_trees.specs.declared.indexes.Index.{Index}
use Rattle.reo_trees.specs.declared.items_two.ItemTwo.{ItemTwo}
use Rattle.reo_trees.specs.declared.items_two.FormTwo as form
use Rattle.reo_trees.specs.declared.items_two.FormTwo.{FormTwo, Loop, Loop', Row_of-ItemTwo, end_of-ItemTwo, more_of-ItemTwo, items-the_row-ItemTwo, items_hidden-the_row-ItemTwo-0}
use Rattle.reo_trees.specs.declared.programs_two.DeclarationTwo.{DeclarationTwo}
use Rattle.reo_trees.specs.declared.programs_two.DeclarationTwo.TheVariants as declarations
use Rattle.reo_trees.specs.loops.Few.{few_loops, few_in_row, few_declared}
use Rattle.reo_syntax_laws.specs.trees_laws.Spelled.{IsFreeName}
use Rattle.reo_syntax_laws.specs.trees_laws.SpelledTwo.{IsSpelledIndex, IsSpelledLooped, AreSpelledLooped, IsSpelledFormTwo, IsSpelledItemTwo, IsSpelledDeclarationTwo}
use Rattle.reo_syntax_laws.specs.trees_two_laws.Looped.{IsLooped, AreLooped, IsLoopedItem, IsOuter, IsOuterItem, IsLooseDeclaration}

abbrev row_of : FormTwo → (n : Count) × Row_of-ItemTwo n
row_of (Loop' variable low high m row) = (_, row)
row_of f = (_, end_of-ItemTwo)

row_looped : (m : _) (row : Row_of-ItemTwo m) → All IsLoopedItem (items-the_row-ItemTwo m row) → AreLooped row
row_looped m end_of-ItemTwo all = tt
row_looped m (more_of-ItemTwo line f rest) all = (all zero (record { line = line; form = f }) (omega arith), row_looped _ rest (λ k d below. all (suc k) d (omega arith)))

pub loop_looped : (variable : List ℕ) (low high : Index) (items : List ItemTwo) → IsFreeName variable → IsSpelledIndex low → IsSpelledIndex high → All IsLoopedItem items → IsLooped (Loop variable low high items)
loop_looped variable low high items v l h all =
    let row = row_of (Loop variable low high items) in
    (v, l, h, row_looped row.0 row.1 (subst (All IsLoopedItem) (sym (items_hidden-the_row-ItemTwo-0 items)) all))

mutual
  counted : (n : ℕ) (f : FormTwo) → IsLooped f → few_loops n f ≡ true → IsSpelledLooped n f
  counted n (form.Node name size term) h few = h
  counted n (form.Joined channel first second) h few = h
  counted n (form.Used name number arguments) h few = h
  counted zero (form.Loop' variable low high m row) h few = absurd (cc)
  counted (suc n) (form.Loop' variable low high m row) h few = (h.0, h.1, h.2, row_counted n row h.3 few)

  row_counted : (n : ℕ) {m : _} (row : Row_of-ItemTwo m) → AreLooped row → few_in_row n row ≡ true → AreSpelledLooped n row
  row_counted n end_of-ItemTwo h few = tt
  row_counted n (more_of-ItemTwo line f rest) h few =
      (counted n f h.0 ((and_parts (few_loops n f) (few_in_row n rest) few).0), row_counted n rest h.1 ((and_parts (few_loops n f) (few_in_row n rest) few).1))

outer_counted : (f : FormTwo) → IsOuter f → few_loops 8 f ≡ true → IsSpelledFormTwo f
outer_counted (form.Node name size term) h few = h
outer_counted (form.Joined channel first second) h few = h
outer_counted (form.Used name number arguments) h few = h
outer_counted (form.Loop' variable low high m row) h few = counted 8 (form.Loop' variable low high m row) h few

-- What holds of each part, with a test that each passes.
all_counted : {X : Type 0} (P Q : X → Type 0) (test : X → Bool) → ((x : X) → P x → test x ≡ true → Q x) → (xs : List X) → All P xs → list_all test xs ≡ true → All Q xs
all_counted P Q test step [] all few k d below = absurd (omega arith)
all_counted P Q test step (x ∷ xs) all few zero d below = step x (all zero x (omega arith)) ((and_parts (test x) (list_all test xs) few).0)
all_counted P Q test step (x ∷ xs) all few (suc k) d below =
    all_counted P Q test step xs (λ j e lower. all (suc j) e (omega arith)) ((and_parts (test x) (list_all test xs) few).1) k d (omega arith)

declaration_counted : (d : DeclarationTwo) → IsLooseDeclaration d → few_declared 8 d ≡ true → IsSpelledDeclarationTwo d
declaration_counted (declarations.Named line name term) h few = h
declaration_counted (declarations.Made c) h few = record {
  name = h.name;
  number = h.number;
  parameters = h.parameters;
  items = all_counted IsOuterItem IsSpelledItemTwo (λ (i : ItemTwo). few_loops 8 i.form) (λ (i : ItemTwo) is test. outer_counted i.form is test) c.items h.items few;
}

pub declarations_counted : (ds : List DeclarationTwo) → All IsLooseDeclaration ds → list_all (few_declared 8) ds ≡ true → All IsSpelledDeclarationTwo ds
declarations_counted ds all few = all_counted IsLooseDeclaration IsSpelledDeclarationTwo (few_declared 8) declaration_counted ds all few
