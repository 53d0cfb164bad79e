-- What a filter wants is there; what a map wants is the kind of its second node.
use Rattle.std.proofs.Common.{◌≡◌, ◌∙◌, sym, ap, subst}
use Rattle.std.specs.Prelude.{not, IfOk}
use Rattle.reo_rules.specs.Terms.{expr_of}
use Rattle.reo_rules.specs.Mistyped.{has_kind, misfits}
use Rattle.reo_rules_types.specs.Cells.{type_at}
use Rattle.reo_rules_types.specs.Scoped.{typed}
use Rattle.reo_rules_types.proofs.Kept.{at_told, at_within, kept_at, kept_below}
use Rattle.reo_rules_types.proofs.Scoped.{known_kept, typed_kept}
use Rattle.reo_rules_types.proofs.channels.misfits.Goals as goal

pub lacks_kind-requires-clause-known : goal.lacks_kind-requires-clause-known
lacks_kind-requires-clause-known c = known_kept c.args.types.now c.put.new.self c.in_ok-want-in-Filter.ensures.keeps c.args.declared.now c.requires.known

pub lacks_kind-requires-clause-of : goal.lacks_kind-requires-clause-of
lacks_kind-requires-clause-of c = kept_below c.args.types.now c.put.new.self c.in_ok-want-in-Filter.ensures.keeps c.args.a c.requires.first

pub lacks_kind-requires-clause-want : goal.lacks_kind-requires-clause-want
lacks_kind-requires-clause-want c = at_within c.put.new.self c.in_ok-want-in-Filter.want _ c.in_ok-want-in-Filter.ensures.number

pub lacks_kind-requires-in-Map-clause-want : goal.lacks_kind-requires-in-Map-clause-want
lacks_kind-requires-in-Map-clause-want c = at_within c.args.types.now c.kind-want.result _ c.kind-want.ensures

pub returns-in_ok-want-in-Filter-clause-test : goal.returns-in_ok-want-in-Filter-clause-test
returns-in_ok-want-in-Filter-clause-test c =
    let old = c.args.types.now in
    let new = c.put.new.self in
    let es = c.args.declared.now in
    let keeps = c.in_ok-want-in-Filter.ensures.keeps in
    let form = c.in-Filter.term.form in
    subst (λ b. IfOk c.lacks_kind.result (λ r. r ≡ b))
    ((λ i. not (has_kind (kept_at old new keeps c.args.a c.requires.first i) (at_told new c.in_ok-want-in-Filter.want _ c.in_ok-want-in-Filter.ensures.number i) (expr_of (typed_kept old new keeps es c.requires.known i) form)))
    ∙ ap (misfits (typed old es) (type_at old c.args.a) (type_at old c.args.b)) (sym c.in-Filter.is))
    c.lacks_kind.ensures.test

pub returns-in-Map-clause-test : goal.returns-in-Map-clause-test
returns-in-Map-clause-test c =
    let old = c.args.types.now in
    let es = c.args.declared.now in
    let form = c.in-Map.term.form in
    subst (λ b. IfOk c.lacks_kind-in-Map.result (λ r. r ≡ b))
    ((λ i. not (has_kind (type_at old c.args.a) (at_told old c.kind-want.result _ c.kind-want.ensures i) (expr_of (typed old es) form)))
    ∙ ap (misfits (typed old es) (type_at old c.args.a) (type_at old c.args.b)) (sym c.in-Map.is))
    c.lacks_kind-in-Map.ensures.test
