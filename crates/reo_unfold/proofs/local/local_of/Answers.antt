-- One item more.
use Rattle.std.proofs.Common.{arith, ◌≡◌, ◌∙◌, ◌++◌, ◌<◌, sym, ap, subst, take, get_or, List, [], length}
use Rattle.std.proofs.lemmas.List.{append-nil, append_assoc, length-take-le}
use Rattle.reo_unfold.proofs.Sequences.{left_none}
use Rattle.reo_trees.specs.declared.items.Item.{Item}
use Rattle.reo_rules.specs.Twice.{twice_in_parameter, twice_in_item}
use Rattle.reo_rules.specs.Lists.{each_after}
use Rattle.reo_rules.specs.Scopes.{parameter_names, node_names, node_names_in}
use Rattle.reo_unfold.proofs.AfterLemmas.{right_none, more_flat}
use Rattle.reo_unfold.specs.Local.{node_place, IsNew}
use Rattle.reo_unfold.proofs.ListLemmas.{each_none, each_after-more}
use Rattle.reo_unfold.proofs.LocalLemmas.{new_node}
use Rattle.reo_unfold.proofs.local.local_of.Goals as goal

pub parameter_names-requires : goal.parameter_names-requires
parameter_names-requires c =
    ap (each_after twice_in_parameter []) c.as_slice.ensures
    ∙ left_none (each_after twice_in_parameter [] c.args.connector.now.parameters) _ c.requires

pub loop-place-init : goal.loop-place-init
loop-place-init c = record {
  names = c.in_ok-parameter_names.ensures ∙ ap parameter_names c.as_slice.ensures ∙ sym (append-nil _);
  nodes = c.new.ensures;
  items = c.as_slice-item-items.ensures;
}

pub note-requires : goal.note-requires
note-requires c =
    let items = c.args.connector.now.items in
    let i = c.loop-place.place in
    let x = c.item-item.result in
    let are = c.as_slice-item-items.ensures in
    let test = c.loop-place-test.true in
    let within : i < length items = subst (λ (xs : List Item). i < length xs) are test in
    let is : x ≡ get_or items i x = c.item-item.is ∙ ap (λ xs. get_or xs i x) are in
    let none = each_none (λ before (y : Item). twice_in_item c.args.connector.now.parameters before y.line y.form) [] items i x within is (right_none (each_after twice_in_parameter [] c.args.connector.now.parameters) _ c.requires) in
    subst (λ ns. IsNew ns x.form) (sym c.loop-place.invariant.names) (new_node c.args.connector.now.parameters (take i items) x.line x.form none)

pub loop-place-preserved : goal.loop-place-preserved
loop-place-preserved c =
    let items = c.args.connector.now.items in
    let i = c.loop-place.place in
    let x = c.item-item.result in
    let are = c.as_slice-item-items.ensures in
    let test = c.loop-place-test.true in
    let within : i < length items = subst (λ (xs : List Item). i < length xs) are test in
    let is : x ≡ get_or items i x = c.item-item.is ∙ ap (λ xs. get_or xs i x) are in
    let ps = parameter_names c.args.connector.now.parameters in
    let long : length (take i items) ≡ i = length-take-le i items (omega arith) in
    record {
      names = c.in_ok-note.ensures.names ∙ ap (λ ns. ns ++ node_names_in x.form) c.loop-place.invariant.names
          ∙ append_assoc ps (node_names (take i items)) (node_names_in x.form) ∙ ap (λ ns. ps ++ ns) (more_flat (λ (y : Item). node_names_in y.form) items i x within is);
      nodes = c.in_ok-note.ensures.nodes ∙ (λ k. c.loop-place.invariant.nodes k ++ node_place (sym long k) x.form)
          ∙ sym (each_after-more (λ before (y : Item). node_place (length before) y.form) items i x within is);
      items = c.loop-place.invariant.items;
    }
