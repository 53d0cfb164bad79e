-- How many loops stand in one another, in trees.
use Rattle.std.specs.Prelude.{ℕ, zero, suc, Bool, true, false, ◌&&◌, List}
use Rattle.std.specs.List.{list_all}
use Rattle.reo_trees.specs.declared.items_two.ItemTwo.{ItemTwo}
use Rattle.reo_trees.specs.declared.items_two.FormTwo as form
use Rattle.reo_trees.specs.declared.items_two.FormTwo.{FormTwo}
use Rattle.reo_trees.specs.declared.programs_two.DeclarationTwo.{DeclarationTwo}
use Rattle.reo_trees.specs.declared.programs_two.DeclarationTwo.TheVariants as declarations
use Rattle.reo_trees.specs.declared.programs_two.ProgramTwo.{ProgramTwo}

abbrev mutual
  -- At most so many loops stand in one another, itself among them.
  pub few_loops : ℕ → FormTwo → Bool
  few_loops zero (form.Loop' variable low high m row) = false
  few_loops (suc n) (form.Loop' variable low high m row) = few_in_row n row
  few_loops n f = true

  pub few_in_row : ℕ → {m : _} → form.Row_of-ItemTwo m → Bool
  few_in_row n form.end_of-ItemTwo = true
  few_in_row n (form.more_of-ItemTwo line f rest) = few_loops n f && few_in_row n rest

-- In each of these items at most so many stand in one another.
abbrev pub few_in_items : ℕ → List ItemTwo → Bool
few_in_items n items = list_all (λ (i : ItemTwo). few_loops n i.form) items

abbrev pub few_declared : ℕ → DeclarationTwo → Bool
few_declared n (declarations.Named line name term) = true
few_declared n (declarations.Made c) = few_in_items n c.items

-- In a program at most so many stand in one another.
abbrev pub few_in_program : ℕ → ProgramTwo → Bool
few_in_program n p = list_all (few_declared n) p.declarations
