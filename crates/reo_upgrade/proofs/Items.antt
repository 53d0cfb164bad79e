-- Items of version 1 are ones of version 2.
use Rattle.std.proofs.Common.{◌≡◌, ℕ, Option, None, inr, List, [], ◌∷◌, ◌++◌, map, refl, ◌∙◌, ap, subst, append-nil, codes}
use Rattle.std.proofs.lemmas.List.{map-append}
use Rattle.reo_grammar.specs.Grammar.{Says}
use Rattle.reo_grammar.specs.Grammar.Grammar.{both, rule}
use Rattle.reo_trees.specs.declared.literals.Literal.{Literal}
use Rattle.reo_trees.specs.declared.terms.Term.{Term}
use Rattle.reo_trees.specs.declared.items.Item.{Item}
use Rattle.reo_trees.specs.declared.items.ItemForm.{ItemForm}
use Rattle.reo_trees.specs.declared.items.Channel.{Channel}
use Rattle.reo_trees.specs.declared.items.Channel.TheVariants as channels
use Rattle.reo_trees.specs.declared.indexes.Ref.{Ref}
use Rattle.reo_trees.specs.declared.items_two.ItemTwo.{ItemTwo}
use Rattle.reo_trees.specs.declared.items_two.FormTwo.{FormTwo}
use Rattle.reo_trees.specs.declared.items_two.FormTwo.TheVariants as forms
use Rattle.reo_trees.specs.Forms.{word, name_form, ◌◂◌}
use Rattle.reo_trees.specs.Forms.Rule.{term_rule}
use Rattle.reo_trees.specs.Channels.{plain_between, one_between, sized_between, fifo1_between, fifo_between, filter_between, map_between, joined_names, plain_form, fifo1_form, fifo_form, filter_form, map_form}
use Rattle.reo_trees.specs.Indexes.{placed_form, ref_form}
use Rattle.reo_trees.specs.Items.{node_form, arguments_form, use_form, item_form, items_form}
use Rattle.reo_trees.specs.ItemsTwo.{join_two, size_form, node_two, number_two, arguments_two, use_two, item_two, items_two}
use Rattle.reo_trees.specs.Rules.{circuit_rules}
use Rattle.reo_syntax.proofs.Says.{says-both}
use Rattle.reo_expand.specs.base.Lifted.{lifted_ref, lifted_form, lifted_item}
use Rattle.reo_upgrade.proofs.Turned.{Turned, turned-same, turned-nothing, turned-both, turned-left, turned-right, turned-made, turned-lined, turned-either, turned-first, turned-chain, turned-behind}

abbrev IsRef : List ℕ → Ref → Type 0
IsRef n r = lifted_ref n ≡ r

abbrev IsRefs : List (List ℕ) → List Ref → Type 0
IsRefs ns rs = map lifted_ref ns ≡ rs

abbrev pub IsForm : ItemForm → FormTwo → Type 0
IsForm f g = lifted_form f ≡ g

-- What becomes an item of a name, of a number, of a channel.
abbrev OfName : (List ℕ → ItemForm) → (Ref → FormTwo) → Type 0
OfName f g = (n : List ℕ) → lifted_form (f n) ≡ g (lifted_ref n)

abbrev OfNumber : (ℕ → ItemForm) → (ℕ → FormTwo) → Type 0
OfNumber f g = (n : ℕ) → lifted_form (f n) ≡ g n

abbrev OfBoth : (List ℕ → ℕ → ItemForm) → (Ref → ℕ → FormTwo) → Type 0
OfBoth f g = (x : List ℕ) (n : ℕ) → lifted_form (f x n) ≡ g (lifted_ref x) n

abbrev OfChannel : (Channel → ItemForm) → (Channel → FormTwo) → Type 0
OfChannel f g = (c : Channel) → lifted_form (f c) ≡ g c

joined : (c : Channel) (x y : List ℕ) (u v : Ref) → lifted_ref x ≡ u → lifted_ref y ≡ v → join_two c (lifted_ref x) (lifted_ref y) ≡ join_two c u v
joined c x y u v e i = ap (λ z. join_two c z (lifted_ref y)) e ∙ ap (join_two c u) i

no-place : Says circuit_rules placed_form [] None
no-place = (0, inr (refl, refl))

module _ (k : ℕ) where
  turned-name : Turned k name_form ref_form IsRef
  turned-name = record { at = λ ts x d. (lifted_ref x, subst (λ l. Says circuit_rules ref_form l (lifted_ref x)) (append-nil ts) (says-both circuit_rules (λ n p. record { name = n; place = p }) name_form placed_form ts [] x None (k, d) no-place), refl) }

  turned-plain : Turned k plain_form (plain_between ref_form join_two) IsForm
  turned-plain = turned-both k IsForm (turned-same k)
      (turned-both k OfChannel turned-name (turned-left k IsRef turned-name) (λ x u y v e i c. joined c x y u v e i))
      (λ c d f g e i. i c ∙ ap g e)

  turned-one : (C : Option Literal → Channel) → Turned k (one_between name_form (λ held x y. joined_names (C held) x y)) (one_between ref_form (λ held x y. join_two (C held) x y)) IsForm
  turned-one C = turned-both k IsForm turned-name
      (turned-both k OfName turned-name (turned-left k (λ x y. x ≡ y) (turned-same k)) (λ y v h l e i x. ap (join_two (C h) (lifted_ref x)) e ∙ ap (λ z. join_two (C z) (lifted_ref x) v) i))
      (λ x u f g e i. i x ∙ ap g e)

  turned-sized : (C : ℕ → List Literal → Channel) → Turned k (sized_between name_form (λ n held x y. joined_names (C n held) x y)) (sized_between ref_form (λ n held x y. join_two (C n held) x y)) IsForm
  turned-sized C = turned-both k IsForm (turned-same k)
      (turned-both k OfNumber turned-name
      (turned-both k OfBoth turned-name (turned-left k (λ x y. x ≡ y) (turned-same k)) (λ y v h l e i x n. ap (join_two (C n h) (lifted_ref x)) e ∙ ap (λ z. join_two (C n z) (lifted_ref x) v) i))
      (λ x u f g e i n. i x n ∙ ap (λ z. g z n) e))
      (λ n m f g e i. i n ∙ ap g e)

  turned-told : (C : Term → Channel) (b : List ℕ)
      → Turned k (both (λ x (f : List ℕ → ItemForm). f x) name_form (both (λ y t (x : List ℕ). joined_names (C t) x y) (name_form ◂ word b) (rule term_rule ◂ word (codes ";"))))
      (both (λ x (f : Ref → FormTwo). f x) ref_form (both (λ y t (x : Ref). join_two (C t) x y) (ref_form ◂ word b) (rule term_rule ◂ word (codes ";")))) IsForm
  turned-told C b = turned-both k IsForm turned-name
      (turned-both k OfName (turned-left k IsRef turned-name) (turned-left k (λ x y. x ≡ y) (turned-same k)) (λ y v h l e i x. ap (join_two (C h) (lifted_ref x)) e ∙ ap (λ z. join_two (C z) (lifted_ref x) v) i))
      (λ x u f g e i. i x ∙ ap g e)

  turned-fifo1 : Turned k fifo1_form (fifo1_between ref_form join_two) IsForm
  turned-fifo1 = turned-right k IsForm (turned-one (λ h. channels.Fifo1 h))

  turned-fifo : Turned k fifo_form (fifo_between ref_form join_two) IsForm
  turned-fifo = turned-right k IsForm (turned-sized (λ n h. channels.Fifo n h))

  turned-filter : Turned k filter_form (filter_between ref_form join_two) IsForm
  turned-filter = turned-right k IsForm (turned-told (λ t. channels.Filter t) (codes "when"))

  turned-map : Turned k map_form (map_between ref_form join_two) IsForm
  turned-map = turned-right k IsForm (turned-told (λ t. channels.Map t) (codes "to"))

  refs-snoc : (xs : List (List ℕ)) (us : List Ref) (y : List ℕ) (v : Ref) → IsRefs xs us → IsRef y v → IsRefs (xs ++ y ∷ []) (us ++ v ∷ [])
  refs-snoc xs us y v e i = map-append lifted_ref xs (y ∷ []) ∙ ap (λ l. l ++ lifted_ref y ∷ []) e ∙ ap (λ z. us ++ z ∷ []) i

  turned-arguments : Turned k arguments_form arguments_two IsRefs
  turned-arguments = turned-either k
      (turned-chain k IsRefs (turned-made k IsRefs turned-name (λ x u e. ap (λ z. z ∷ []) e)) (turned-right k IsRef turned-name) refs-snoc)
      (turned-nothing k IsRefs refl)

  -- No index behind a name, and the tokens behind it.
  no-size : Says circuit_rules size_form [] None
  no-size = (0, inr (refl, refl))

  no-number : Says circuit_rules number_two [] None
  no-number = (0, inr (refl, refl))

  turned-node : Turned k node_form node_two IsForm
  turned-node = turned-right k IsForm (turned-behind k IsForm no-size (turned-same k) (λ n t u e. ap (λ z. forms.Node n None z) e))

  turned-use : Turned k use_form use_two IsForm
  turned-use = turned-right k IsForm (turned-behind k IsForm no-number (turned-left k IsRefs (turned-left k IsRefs turned-arguments)) (λ n xs us e. ap (λ z. forms.Used n None z) e))

  turned-item : Turned k item_form item_two (λ x y. lifted_item x ≡ y)
  turned-item = turned-lined k (λ (x : Item) (y : ItemTwo). lifted_item x ≡ y)
      (turned-either k turned-node (turned-either k turned-plain (turned-either k turned-fifo1 (turned-either k turned-fifo (turned-either k turned-filter (turned-either k turned-map (turned-first k turned-use)))))))
      (λ l f g e. ap (λ (z : FormTwo). record { line = l; form = z }) e)

  pub turned-items : Turned k items_form items_two (λ xs ys. map lifted_item xs ≡ ys)
  turned-items = turned-chain k (λ (xs : List Item) (ys : List ItemTwo). map lifted_item xs ≡ ys) (turned-nothing k _ refl) turned-item
      (λ xs us y v e i. map-append lifted_item xs (y ∷ []) ∙ ap (λ l. l ++ lifted_item y ∷ []) e ∙ ap (λ z. us ++ z ∷ []) i)
