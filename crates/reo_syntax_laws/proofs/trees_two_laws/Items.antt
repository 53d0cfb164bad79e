-- Items of connectors in texts of version 2.
use Rattle.std.proofs.Common.{ℕ, Option, Some, None, List}
use Rattle.std.specs.List.{All}
use Rattle.reo_trees.specs.declared.literals.Literal.{Literal}
use Rattle.reo_trees.specs.declared.indexes.Index.{Index}
use Rattle.reo_trees.specs.declared.indexes.Ref.{Ref}
use Rattle.reo_trees.specs.declared.items.Channel.{Channel}
use Rattle.reo_trees.specs.declared.items.Channel.TheVariants as channels
use Rattle.reo_trees.specs.declared.items_two.FormTwo as form
use Rattle.reo_trees.specs.declared.items_two.FormTwo.{FormTwo}
use Rattle.reo_trees.specs.Channels.{plain_between, one_between, list_between, sized_between, fifo1_between, fifo_between, filter_between, map_between}
use Rattle.reo_trees.specs.Indexes.{ref_form}
use Rattle.reo_trees.specs.ItemsTwo.{join_two, size_form, node_two, number_two, arguments_two, use_two, shift_two, variable_two, quota_two, looped_items, loop_form, some_looped, looped_form, item_two, items_two}
use Rattle.reo_syntax_laws.proofs.Seen.{World, see-then}
use Rattle.reo_syntax_laws.specs.trees_laws.Spelled.{IsFreeName, IsSpelledLiteral, IsSpelledChannel}
use Rattle.reo_syntax_laws.specs.trees_laws.SpelledTwo.{IsSpelledIndex, IsSpelledPlace, IsSpelledRef}
use Rattle.reo_syntax_laws.proofs.trees_laws.Lists.{all-none, all-more}
use Rattle.reo_syntax_laws.proofs.trees_laws.Has.{Has, Lies, has-both, has-left, has-right, has-made, has-lined, has-either, has-nothing, has-chain, has-name, has-number, has-comma}
use Rattle.reo_syntax_laws.proofs.trees_laws.Programs.{IsFreeType, IsFreeTerm, Held, each_claim, has-held, has-held-list, has-plain-channel, type-left, term-left}
use Rattle.reo_syntax_laws.specs.trees_two_laws.Looped.{IsLooped, IsLoopedItem, IsOuter, IsOuterItem}
use Rattle.reo_syntax_laws.proofs.trees_two_laws.Counted.{loop_looped}
use Rattle.reo_syntax_laws.proofs.trees_two_laws.World.{Each, world_two, known, has-looped}
use Rattle.reo_syntax_laws.proofs.trees_two_laws.Indexes.{has-index, has-ref}

abbrev Literals : List Literal → Type 0
Literals ls = All IsSpelledLiteral ls

-- What becomes an item behind a channel, an end, or an end and a size.
abbrev Joins : (Channel → FormTwo) → Type 0
Joins f = (c : Channel) → IsSpelledChannel c → IsLooped (f c)

abbrev Ends : (Ref → FormTwo) → Type 0
Ends f = (x : Ref) → IsSpelledRef x → IsLooped (f x)

abbrev Sized : (ℕ → FormTwo) → Type 0
Sized f = (n : ℕ) → Lies 1 1024 n → IsLooped (f n)

abbrev Counted : (ℕ → FormTwo) → Type 0
Counted f = (n : ℕ) → Lies 0 1000000000 n → IsLooped (f n)

abbrev Between : (Ref → ℕ → FormTwo) → Type 0
Between f = (x : Ref) (n : ℕ) → IsSpelledRef x → Lies 1 1024 n → IsLooped (f x n)

-- Or behind a name, and one index.
abbrev Named : (List ℕ → FormTwo) → Type 0
Named f = (n : List ℕ) → IsFreeName n → IsLooped (f n)

abbrev From : (Index → List ℕ → FormTwo) → Type 0
From f = (l : Index) (n : List ℕ) → IsSpelledIndex l → IsFreeName n → IsLooped (f l n)

abbrev OuterNamed : (List ℕ → FormTwo) → Type 0
OuterNamed f = (n : List ℕ) → IsFreeName n → IsOuter (f n)

-- An item that holds one thing at first, or none, and one that holds some.
abbrev HeldBy : (Option Literal → Channel) → Type 0
HeldBy f = (held : Option Literal) → Held held → IsSpelledChannel (f held)

fifo1_held : HeldBy (λ held. channels.Fifo1 held)
fifo1_held None h = tt
fifo1_held (Some l) h = h

variable_held : HeldBy (λ held. channels.Variable held)
variable_held None h = tt
variable_held (Some l) h = h

looped_outer : (f : FormTwo) → IsLooped f → IsOuter f
looped_outer (form.Node name size term) h = absurd h
looped_outer (form.Joined channel first second) h = h
looped_outer (form.Used name number arguments) h = h
looped_outer (form.Loop' variable low high m row) h = h

module _ (k : ℕ) (each : Each k) where
  abbrev w : World
  w = world_two k each

  has-plain : Has w (plain_between ref_form join_two) IsLooped
  has-plain = has-both IsSpelledChannel Joins IsLooped (known k each (has-plain-channel k (each_claim k)))
      (has-both IsSpelledRef IsSpelledRef Joins has-ref (has-left IsSpelledRef has-ref) (λ x y p q c r. (r, p, q))) (λ c f p q. q c p)

  has-one : (make : Option Literal → Channel) → HeldBy make → Has w (one_between ref_form (λ held x y. join_two (make held) x y)) IsLooped
  has-one make holds = has-both IsSpelledRef Ends IsLooped has-ref
      (has-both IsSpelledRef Held Ends has-ref (has-left Held (known k each (has-held k (each_claim k)))) (λ y held p q x r. (holds held q, r, p))) (λ x f p q. q x p)

  has-fifo1 : Has w (fifo1_between ref_form join_two) IsLooped
  has-fifo1 = has-right IsLooped (has-one (λ held. channels.Fifo1 held) fifo1_held)

  has-list : (make : ℕ → List Literal → Channel) → ((n : ℕ) (ls : List Literal) → Lies 1 1024 n → Literals ls → IsSpelledChannel (make n ls))
      → Has w (list_between ref_form (λ n held x y. join_two (make n held) x y)) Sized
  has-list make holds = has-both IsSpelledRef Between Sized has-ref
      (has-both IsSpelledRef Literals Between has-ref (has-left Literals (known k each (has-held-list k (each_claim k)))) (λ y held p q x n r s. (holds n held s q, r, p))) (λ x f p q n s. q x n p s)

  has-sized : (make : ℕ → List Literal → Channel) → ((n : ℕ) (ls : List Literal) → Lies 1 1024 n → Literals ls → IsSpelledChannel (make n ls))
      → Has w (sized_between ref_form (λ n held x y. join_two (make n held) x y)) IsLooped
  has-sized make holds = has-both (Lies 1 1024) Sized IsLooped (has-number 1 1024) (has-list make holds) (λ n f p q. q n p)

  has-fifo : Has w (fifo_between ref_form join_two) IsLooped
  has-fifo = has-right IsLooped (has-sized (λ n held. channels.Fifo n held) (λ n ls p q. (p.0, p.1, q)))

  has-filter : Has w (filter_between ref_form join_two) IsLooped
  has-filter = has-right IsLooped (has-both IsSpelledRef Ends IsLooped has-ref
      (has-both IsSpelledRef IsFreeTerm Ends (has-left IsSpelledRef has-ref) (known k each (term-left k (each_claim k))) (λ y t p q x r. (q, r, p))) (λ x f p q. q x p))

  has-map : Has w (map_between ref_form join_two) IsLooped
  has-map = has-right IsLooped (has-both IsSpelledRef Ends IsLooped has-ref
      (has-both IsSpelledRef IsFreeTerm Ends (has-left IsSpelledRef has-ref) (known k each (term-left k (each_claim k))) (λ y t p q x r. (q, r, p))) (λ x f p q. q x p))

  has-number_two : Has w number_two IsSpelledPlace
  has-number_two = has-either IsSpelledPlace (has-made IsSpelledPlace (has-right IsSpelledIndex (has-left IsSpelledIndex has-index))) (has-nothing IsSpelledPlace tt)

  has-arguments : Has w arguments_two (All IsSpelledRef)
  has-arguments = has-either (All IsSpelledRef) (has-comma IsSpelledRef has-ref) (has-nothing (All IsSpelledRef) (all-none IsSpelledRef))

  has-use : Has w use_two IsLooped
  has-use = has-right IsLooped (has-both IsFreeName Named IsLooped has-name
      (has-both IsSpelledPlace (All IsSpelledRef) Named (has-left IsSpelledPlace has-number_two) (has-left (All IsSpelledRef) (has-left (All IsSpelledRef) has-arguments)) (λ i xs p q n r. (r, p, q)))
      (λ n f p q. q n p))

  has-shift : Has w shift_two IsLooped
  has-shift = has-right IsLooped (has-sized (λ n held. channels.Shift n held) (λ n ls p q. (p.0, p.1, q)))

  has-variable : Has w variable_two IsLooped
  has-variable = has-right IsLooped (has-one (λ held. channels.Variable held) variable_held)

  has-quota : Has w quota_two IsLooped
  has-quota = has-right IsLooped (has-both (Lies 0 1000000000) Counted IsLooped (has-number 0 1000000000)
      (has-both IsSpelledRef IsSpelledRef Counted has-ref (has-left IsSpelledRef has-ref) (λ x y p q n r. (r.1, p, q))) (λ n f p q. q n p))

  has-looped_items : Has w looped_items (All IsLoopedItem)
  has-looped_items = has-chain (All IsLoopedItem) IsLoopedItem (has-nothing (All IsLoopedItem) (all-none IsLoopedItem)) (has-looped k each) (λ xs y all here. all-more IsLoopedItem xs y all here)

  has-loop : Has w loop_form IsLooped
  has-loop = has-right IsLooped (has-both IsFreeName Named IsLooped (has-left IsFreeName has-name)
      (has-both IsSpelledIndex From Named (has-left IsSpelledIndex has-index)
      (has-both IsSpelledIndex (All IsLoopedItem) From (has-left IsSpelledIndex has-index) (has-left (All IsLoopedItem) has-looped_items) (λ h is p q l n r s. loop_looped n l h is s r p q))
      (λ l f p q n r. q l n p r)) (λ n f p q. q n p))

  has-some_looped : Has w some_looped IsLooped
  has-some_looped =
      has-either IsLooped has-plain
      (has-either IsLooped has-fifo1
      (has-either IsLooped has-fifo
      (has-either IsLooped has-filter
      (has-either IsLooped has-map
      (has-either IsLooped has-use
      (has-either IsLooped has-shift
      (has-either IsLooped has-variable
      (has-either IsLooped has-quota has-loop))))))))

  pub has-looped_form : Has w looped_form IsLoopedItem
  has-looped_form = has-lined IsLooped IsLoopedItem has-some_looped (λ l f p. p)

  has-size : Has w size_form IsSpelledPlace
  has-size = has-either IsSpelledPlace (has-made IsSpelledPlace (has-right IsSpelledIndex (has-right IsSpelledIndex (has-left IsSpelledIndex has-index)))) (has-nothing IsSpelledPlace tt)

  has-node : Has w node_two IsOuter
  has-node = has-right IsOuter (has-both IsFreeName OuterNamed IsOuter has-name
      (has-both IsSpelledPlace IsFreeType OuterNamed (has-left IsSpelledPlace has-size) (known k each (type-left k (each_claim k))) (λ s t p q n r. (r, p, q))) (λ n f p q. q n p))

  has-item : Has w item_two IsOuterItem
  has-item = has-lined IsOuter IsOuterItem (has-either IsOuter has-node (see-then has-some_looped (λ ts f p. looped_outer f p))) (λ l f p. p)

  pub has-items : Has w items_two (All IsOuterItem)
  has-items = has-chain (All IsOuterItem) IsOuterItem (has-nothing (All IsOuterItem) (all-none IsOuterItem)) has-item (λ xs y all here. all-more IsOuterItem xs y all here)
