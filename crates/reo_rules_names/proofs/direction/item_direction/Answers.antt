-- A use's ends are those of its arguments, by the ways of its connector's parameters.
use Rattle.std.proofs.Common.{◌∙◌, ℕ, Bool, List, map, sym, ap}
use Rattle.std.specs.List.{flat_map, zip}
use Rattle.std.proofs.lemmas.List.Folds.{flat_map-map}
use Rattle.reo_trees.specs.declared.programs.Parameter.{Parameter}
use Rattle.reo_rules.specs.Scopes.{parameters_named}
use Rattle.reo_rules.specs.Touches.{touch}
use Rattle.reo_rules.specs.Direction.{direction_in_item}
use Rattle.reo_rules_names.proofs.AfterLemmas.{judged_same}
use Rattle.reo_rules_names.specs.Closed.{against}
use Rattle.reo_rules_names.proofs.EndLemmas.{used_touches}
use Rattle.reo_rules_names.proofs.direction.item_direction.Goals as goal

pub returns-in-Used : goal.returns-in-Used
returns-in-Used c known ps are closed =
    let line = c.args.line in
    let ways = c.ways-ways.result.now in
    let ways-is = c.ways-ways.ensures known are ∙ ap (λ n. map (λ (p : Parameter). p.inward) (parameters_named known n)) c.as_slice.ensures in
    let all =
    ap (λ names. flat_map (λ (q : List ℕ × Bool). against ps line (touch q.0 q.1)) (zip names ways)) c.as_slice-in-Used.ensures
    ∙ sym (flat_map-map (against ps line) (λ (q : List ℕ × Bool). touch q.0 q.1) (zip c.in-Used.arguments ways))
    ∙ ap (flat_map (against ps line)) (used_touches known c.in-Used.name c.in-Used.arguments ways ways-is)
    ∙ ap (direction_in_item known ps line) (sym c.in-Used.is) in
    judged_same _ _ c.use_direction.result all (c.use_direction.ensures ps closed)
