-- One more name was noted.
use Rattle.std.proofs.Common.{◌∙◌, ◌||◌, false, ap, sym, map, take, bytes_eq, [], ◌∷◌, ◌++◌}
use Rattle.std.proofs.lemmas.List.{take_more, map_push}
use Rattle.reo_rules.specs.Lists.{has_name}
use Rattle.reo_rules_types.proofs.Lists.{noted, noted_push}
use Rattle.reo_rules_types.proofs.types.symbols_of.Goals as goal

pub loop-name-preserved : goal.loop-name-preserved
loop-name-preserved c name =
    let names = c.deref-name-items.result.now in
    let i = c.loop-name.name-index in
    let x = c.name-item.result in
    ap (λ ns. has_name ns name) c.in_ok-note.ensures.names ∙ noted c.loop-name.symbols _ name
    ∙ (λ k. c.loop-name.invariant name k || (bytes_eq name (c.as_slice.ensures.value k) || false))
    ∙ sym (noted_push (map (λ v. v.items) (take i names)) x.items name)
    ∙ ap (λ ns. has_name ns name) (sym (map_push (λ v. v.items) (take i names) x) ∙ ap (map (λ v. v.items)) (ap (λ v. take i names ++ v ∷ []) c.name-item.is ∙ sym (take_more names i x c.loop-name-test.true)))
