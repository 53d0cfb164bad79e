-- Lines are no part of how many loops stand in one another.
use Rattle.std.proofs.Common.{◌≡◌, ◌∙◌, ℕ, zero, suc, Bool, ◌&&◌, List, [], ◌∷◌, map, refl, sym, ap}
use Rattle.std.specs.List.{list_all}
use Rattle.reo_trees.specs.declared.items_two.ItemTwo.{ItemTwo}
use Rattle.reo_trees.specs.declared.items_two.FormTwo as form
use Rattle.reo_trees.specs.declared.items_two.FormTwo.{FormTwo}
use Rattle.reo_trees.specs.declared.programs_two.DeclarationTwo.{DeclarationTwo}
use Rattle.reo_trees.specs.declared.programs_two.DeclarationTwo.TheVariants as declarations
use Rattle.reo_trees.specs.declared.programs_two.ProgramTwo.{ProgramTwo}
use Rattle.reo_trees.specs.loops.Few.{few_loops, few_in_row, few_in_items, few_declared, few_in_program}
use Rattle.reo_trees.proofs.loops.Unfold.{few-loop}
use Rattle.reo_syntax_laws.specs.syntax_two_laws.Unlined.{bare_form, bare_row, bare_item, bare_declaration, bare_program, SameTwo}

both-bools : (a b c d : Bool) → a ≡ c → b ≡ d → (a && b) ≡ (c && d)
both-bools a b c d e i = ap (λ z. z && b) e ∙ ap (λ z. c && z) i

mutual
  few-bare : (n : ℕ) (f : FormTwo) → few_loops n (bare_form f) ≡ few_loops n f
  few-bare zero (form.Node name size term) = refl
  few-bare zero (form.Joined channel first second) = refl
  few-bare zero (form.Used name number arguments) = refl
  few-bare zero (form.Loop' variable low high m row) = refl
  few-bare (suc n) (form.Node name size term) = refl
  few-bare (suc n) (form.Joined channel first second) = refl
  few-bare (suc n) (form.Used name number arguments) = refl
  few-bare (suc n) (form.Loop' variable low high m row) = few-loop n variable low high (bare_row row) ∙ few-row n row

  few-row : (n : ℕ) {m : _} (row : form.Row_of-ItemTwo m) → few_in_items n (bare_row row) ≡ few_in_row n row
  few-row n form.end_of-ItemTwo = refl
  few-row n (form.more_of-ItemTwo line f rest) = both-bools (few_loops n (bare_form f)) (few_in_items n (bare_row rest)) (few_loops n f) (few_in_row n rest) (few-bare n f) (few-row n rest)

all-bare : {A : Type 0} (f : A → Bool) (g : A → A) → ((x : A) → f (g x) ≡ f x) → (xs : List A) → list_all f (map g xs) ≡ list_all f xs
all-bare f g e [] = refl
all-bare f g e (x ∷ xs) = both-bools (f (g x)) (list_all f (map g xs)) (f x) (list_all f xs) (e x) (all-bare f g e xs)

declared-bare : (n : ℕ) (d : DeclarationTwo) → few_declared n (bare_declaration d) ≡ few_declared n d
declared-bare n (declarations.Named line name term) = refl
declared-bare n (declarations.Made c) = all-bare (λ (i : ItemTwo). few_loops n i.form) bare_item (λ i. few-bare n i.form) c.items

program-bare : (n : ℕ) (p : ProgramTwo) → few_in_program n (bare_program p) ≡ few_in_program n p
program-bare n p = all-bare (few_declared n) bare_declaration (declared-bare n) p.declarations

pub few-same : (n : ℕ) (p q : ProgramTwo) → SameTwo p q → few_in_program n p ≡ few_in_program n q
few-same n p q e = sym (program-bare n p) ∙ ap (few_in_program n) e ∙ program-bare n q
