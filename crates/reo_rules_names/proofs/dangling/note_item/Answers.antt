-- The two ends of a channel, or those of a use.
use Rattle.std.proofs.Common.{◌∙◌, [], ◌∷◌, ◌++◌, ℕ, Bool, true, List, map, sym, ap, subst}
use Rattle.std.specs.List.{zip}
use Rattle.std.proofs.lemmas.List.{append_assoc}
use Rattle.std.proofs.lemmas.Result.{on_ok_weaker}
use Rattle.reo_trees.specs.declared.programs.Parameter.{Parameter}
use Rattle.reo_rules.specs.Scopes.{parameters_named}
use Rattle.reo_rules.specs.Touches.{touch, touches_in}
use Rattle.reo_rules_names.specs.EndsAtNames.{AreEnds}
use Rattle.reo_rules_names.proofs.EndLemmas.{used_touches}
use Rattle.reo_rules_names.proofs.dangling.note_item.Goals as goal

pub returns-in_ok-note-in-Joined : goal.returns-in_ok-note-in-Joined
returns-in_ok-note-in-Joined c =
    on_ok_weaker c.note-in-Joined.result
    (λ noted known touches table are.
    let ends = c.note-in-Joined.new.self in
    let first = touch c.as_slice.result.now true in
    let second = touch c.as_slice-in-Joined.result.now c.is_drain.result in
    let both = noted (touches ++ first ∷ []) (c.in_ok-note-in-Joined.ensures touches are) in
    let is = (λ i. touch (c.as_slice.ensures i) true ∷ touch (c.as_slice-in-Joined.ensures i) (c.is_drain.ensures i) ∷ []) ∙ ap (touches_in known) (sym c.in-Joined.is) in
    subst (λ ts. AreEnds (touches ++ ts) ends) is (subst (λ ts. AreEnds ts ends) (append_assoc touches (first ∷ []) (second ∷ [])) both))
    c.note-in-Joined.ensures

pub returns-in-Used : goal.returns-in-Used
returns-in-Used c =
    on_ok_weaker c.note_arguments.result
    (λ noted known touches table are.
    let ways = c.ways-ways.result.now in
    let ways-is = c.ways-ways.ensures known table ∙ ap (λ n. map (λ (p : Parameter). p.inward) (parameters_named known n)) c.as_slice-in-Used.ensures in
    let is =
    ap (λ names. map (λ (q : List ℕ × Bool). touch q.0 q.1) (zip names ways)) c.as_slice-in-Used-2.ensures
    ∙ used_touches known c.in-Used.name c.in-Used.arguments ways ways-is ∙ ap (touches_in known) (sym c.in-Used.is) in
    subst (λ ts. AreEnds (touches ++ ts) c.note_arguments.new.ends) is (noted touches are))
    c.note_arguments.ensures
