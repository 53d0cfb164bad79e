-- One argument with its way, and then those that are left.
use Rattle.std.proofs.Common.{◌∙◌, [], ◌∷◌, ◌++◌, ℕ, Bool, List, map, sym, ap, subst}
use Rattle.std.specs.List.{zip}
use Rattle.std.specs.Slice.Iter.{iter_rest}
use Rattle.std.specs.Iterator.Adapters.{zip_first, zip_second}
use Rattle.std.proofs.lemmas.List.{append-nil, append_assoc}
use Rattle.std.proofs.lemmas.Slice.Zip.{either_empty_from_Zip}
use Rattle.reo_rules.specs.Touches.{touch}
use Rattle.reo_rules_names.specs.EndsAtNames.{AreEnds}
use Rattle.reo_rules_names.proofs.EndLemmas.{zip_over}
use Rattle.reo_rules_names.proofs.dangling.note_arguments.Goals as goal

pub loop-argument-preserved : goal.loop-argument-preserved
loop-argument-preserved c touches are =
    let far = c.loop-argument.invariant touches are in
    let done = far.0 in
    let end = touch c.in-Some.argument.now c.in-Some.way.now in
    let next = c.next.new.self in
    let noted = subst (λ n. AreEnds ((touches ++ done) ++ touch n c.in-Some.way.now ∷ []) c.note.new.self) c.as_slice.ensures (c.in_ok-note.ensures (touches ++ done) far.1) in (
      done ++ end ∷ [],
      subst (λ ts. AreEnds ts c.note.new.self) (append_assoc touches done (end ∷ [])) noted,
      far.2 ∙ (λ i. done ++ map (λ (q : List ℕ × Bool). touch q.0 q.1) (zip (c.in-Some.ensures.steps.0 i) (c.in-Some.ensures.steps.1 i)))
          ∙ sym (append_assoc done (end ∷ []) (map (λ (q : List ℕ × Bool). touch q.0 q.1) (zip (iter_rest (zip_first next)) (iter_rest (zip_second next))))),
    )

pub returns : goal.returns
returns c touches are =
    let far = c.loop-argument.invariant touches are in
    let left = c.loop-argument.argument-iterator in
    let over = zip_over (iter_rest (zip_first left)) (iter_rest (zip_second left)) (either_empty_from_Zip left c.next.new.self c.next.result c.in-None.is c.next.ensures.steps) in
    let all = far.2 ∙ ap (λ qs. far.0 ++ map (λ (q : List ℕ × Bool). touch q.0 q.1) qs) over ∙ append-nil far.0 in
    subst (λ ts. AreEnds (touches ++ ts) c.loop-argument.ends) (sym all) far.1
