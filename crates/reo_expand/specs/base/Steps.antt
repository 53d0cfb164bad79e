-- What is judged and counted while a program is expanded, in the order in which it is met.
use Rattle.std.specs.Prelude.{◌≡◌, ◌⊎◌, ℕ, ◌+◌, ℤ, pos, int_le, nat_lt, Bool, false, not, cond, ◌&&◌, Option, Some, None, is_some, is_none, Result, Ok, Err, List, [], ◌∷◌, ◌++◌, map, filter, bytes_eq, flat_map}
use Rattle.std.specs.List.{list_all}
use Rattle.reo_trees.specs.declared.indexes.Index.{Index}
use Rattle.reo_trees.specs.declared.indexes.Ref.{Ref}
use Rattle.reo_trees.specs.declared.items_two.ItemTwo.{ItemTwo}
use Rattle.reo_trees.specs.declared.items_two.FormTwo as form
use Rattle.reo_trees.specs.declared.items_two.FormTwo.{FormTwo}
use Rattle.reo_trees.specs.declared.programs.Program.{Program}
use Rattle.reo_trees.specs.declared.programs_two.ConnectorTwo.{ConnectorTwo}
use Rattle.reo_trees.specs.declared.programs_two.DeclarationTwo.{DeclarationTwo}
use Rattle.reo_trees.specs.declared.programs_two.DeclarationTwo.TheVariants as two
use Rattle.reo_trees.specs.declared.programs_two.ProgramTwo.{ProgramTwo}
use Rattle.reo_expand.specs.declared.base.fault.ExpandFault.{ExpandFault}
use Rattle.reo_expand.specs.declared.base.fault.ExpandFault.TheVariants as faults
use Rattle.reo_expand.specs.declared.base.bound.Bound.{Bound}
use Rattle.reo_expand.specs.declared.base.bound.Instance.{Instance}
use Rattle.reo_expand.specs.base.Indexed.{value_of, unbound_in, natural, turns}
use Rattle.reo_expand.specs.base.Expansion.{with_bound, instances_of, connectors_of, expanded, expansion, most_number}

-- A step raises the count, or is a refusal.
pub data Step : Type 0 where
  counted : ℕ → Step
  refused : ExpandFault → Step

-- The refusal, where the test holds.
abbrev pub refused_where : Bool → ExpandFault → List Step
refused_where test fault = cond test (refused fault ∷ []) []

-- Names of an index without a value.
abbrev pub unbound_steps : List Bound → ℕ → Index → List Step
unbound_steps bound line i = map (λ n. refused (faults.Unbound line n)) (unbound_in bound i)

-- Then a value outside of what its place allows.
abbrev pub is_outside : ℕ → ℤ → Bool
is_outside least z = not (int_le (pos least) z && int_le z (pos most_number))

abbrev pub index_steps : List Bound → ℕ → ℕ → Option Index → List Step
index_steps bound line least None = []
index_steps bound line least (Some i) = unbound_steps bound line i ++ refused_where (is_outside least (value_of bound i)) (faults.Index line)

abbrev pub place_steps : List Bound → ℕ → Option Index → List Step
place_steps bound line None = []
place_steps bound line (Some i) = unbound_steps bound line i

abbrev pub ref_steps : List Bound → ℕ → Ref → List Step
ref_steps bound line r = place_steps bound line r.place

-- The connectors of a name, in order.
abbrev pub two_in : DeclarationTwo → List ConnectorTwo
two_in (two.Named line name term) = []
two_in (two.Made c) = c ∷ []

abbrev pub of_name : List ConnectorTwo → List ℕ → List ConnectorTwo
of_name cs name = filter (λ (c : ConnectorTwo). bytes_eq name c.name) cs

-- There are connectors, and all of them are without a number, where one is given, or with one, where none is.
abbrev pub none_fits : Option Index → List ConnectorTwo → Bool
none_fits number [] = false
none_fits None (c ∷ cs) = list_all (λ (c : ConnectorTwo). is_some c.number) (c ∷ cs)
none_fits (Some i) (c ∷ cs) = list_all (λ (c : ConnectorTwo). is_none c.number) (c ∷ cs)

abbrev pub size_count : List Bound → Option Index → ℕ
size_count bound None = 1
size_count bound (Some i) = natural (value_of bound i)

abbrev mutual
  -- The steps of an item, by the connectors that stand before its own.
  pub steps_of : List ConnectorTwo → List Bound → ℕ → FormTwo → List Step
  steps_of before bound line (form.Node name size term) = index_steps bound line 1 size ++ counted (size_count bound size) ∷ []
  steps_of before bound line (form.Joined channel first second) = ref_steps bound line first ++ (ref_steps bound line second ++ counted 1 ∷ [])
  steps_of before bound line (form.Used name number arguments) =
      index_steps bound line 0 number ++ (flat_map (ref_steps bound line) arguments
      ++ (refused_where (none_fits number (of_name before name)) (faults.Number line) ++ counted 1 ∷ []))
  steps_of before bound line (form.Loop' variable low high m row) =
      unbound_steps bound line low ++ (unbound_steps bound line high
      ++ flat_map (λ z. counted 1 ∷ steps_of_row before (with_bound bound variable z) row) (turns (value_of bound low) (value_of bound high)))

  pub steps_of_row : List ConnectorTwo → List Bound → {m : _} → form.Row_of-ItemTwo m → List Step
  steps_of_row before bound form.end_of-ItemTwo = []
  steps_of_row before bound (form.more_of-ItemTwo line f rest) = steps_of before bound line f ++ steps_of_row before bound rest

abbrev pub steps_in : List ConnectorTwo → List Bound → List ItemTwo → List Step
steps_in before bound items = flat_map (λ (i : ItemTwo). steps_of before bound i.line i.form) items

-- The steps of a declaration, by the connectors that stand before it and the declarations behind it.
abbrev pub declaration_steps : List ConnectorTwo → List DeclarationTwo → DeclarationTwo → List Step
declaration_steps before behind (two.Named line name term) = []
declaration_steps before behind (two.Made c) = flat_map (λ (i : Instance). steps_in before i.bound c.items) (instances_of (connectors_of (expanded behind)) c)

-- From the last declaration to the first.
abbrev pub steps_from : List ConnectorTwo → List DeclarationTwo → List Step
steps_from before [] = []
steps_from before (d ∷ ds) = steps_from (before ++ two_in d) ds ++ declaration_steps before ds d

-- The most items and turns.
abbrev pub most_steps : ℕ
most_steps = 65536

-- The count after steps from a count on, or the first refusal met. It is one, where the count passes the most.
abbrev pub walked : ℕ → List Step → Result ℕ ExpandFault
walked n [] = Ok n
walked n (refused f ∷ steps) = Err f
walked n (counted k ∷ steps) = cond (nat_lt most_steps (n + k)) (Err faults.TooMany) (walked (n + k) steps)

abbrev pub walk_of : ProgramTwo → Result ℕ ExpandFault
walk_of p = walked 0 (steps_from [] p.declarations)

-- The program is expanded: no refusal is met.
pub record IsExpanded (p : ProgramTwo) (q : Program) : Type 0 where
  pub count : ℕ
  pub walked_to : walk_of p ≡ Ok count
  pub is : q ≡ expansion p

-- The fault is the first refusal met, or out of memory.
abbrev pub IsUnexpanded : ProgramTwo → ExpandFault → Type 0
IsUnexpanded p f = (f ≡ faults.NoMemory) ⊎ (walk_of p ≡ Err f)
