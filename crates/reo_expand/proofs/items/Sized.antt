-- The names of the nodes of an array, by its size.
use Rattle.std.proofs.Common.{◌≡◌, ◌∙◌, ℕ, pos, Option, Some, List, [], map, length, ap, sym, subst}
use Rattle.std.specs.List.{range_with_len}
use Rattle.std.proofs.lemmas.List.FromFn.{length-map-range_with_len}
use Rattle.reo_trees.specs.declared.indexes.Index.{Index}
use Rattle.reo_expand.specs.declared.base.bound.Bound.{Bound}
use Rattle.reo_expand.specs.base.Indexed.{value_of, natural}
use Rattle.reo_expand.specs.base.Expansion.{placed_name, node_names}
use Rattle.reo_expand.specs.base.Steps.{index_steps, size_count}

pub sized : (bound : List Bound) (line : ℕ) (name : List ℕ) (o : Option Index) (size : Index) (n : ℕ) (ns : List (List ℕ))
    → o ≡ Some size → index_steps bound line 1 (Some size) ≡ [] → value_of bound size ≡ pos n
    → ns ≡ map (λ j. placed_name name (pos j)) (range_with_len 0 n)
    → (index_steps bound line 1 o ≡ []) × ((ns ≡ node_names bound name o) × (length ns ≡ size_count bound o))
sized bound line name o size n ns is steps value made =
    subst (λ (o : Option Index). (index_steps bound line 1 o ≡ []) × ((ns ≡ node_names bound name o) × (length ns ≡ size_count bound o))) (sym is) (
      steps,
      (
        made ∙ ap (λ z. map (λ j. placed_name name (pos j)) (range_with_len 0 (natural z))) (sym value),
        ap length made ∙ length-map-range_with_len (λ j. placed_name name (pos j)) 0 n ∙ ap natural (sym value),
      ),
    )
