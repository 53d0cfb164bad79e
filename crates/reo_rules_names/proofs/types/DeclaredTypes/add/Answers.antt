-- A name that is there already, or one more.
use Rattle.std.proofs.Common.{◌≡◌, ◌∙◌, [], ◌∷◌, ◌++◌, sym, ap}
use Rattle.std.proofs.lemmas.Result.{on_ok_weaker}
use Rattle.reo_rules.specs.Lists.{has_name}
use Rattle.reo_rules.specs.Names.{with_name}
use Rattle.reo_rules.specs.Types.{Typed, resolved}
use Rattle.reo_rules_names.proofs.SymbolLemmas.{type_there, type_pushed}
use Rattle.reo_rules_names.proofs.types.DeclaredTypes.add.Goals as goal

pub returns-then-branch : goal.returns-then-branch
returns-then-branch c known are =
    let t = c.number.new.self in
    let e : Typed = record { name = c.args.name.now; kindred = resolved known c.args.shape.now } in
    let both = c.in_ok-number.ensures known are in
    type_there known e t both.0 c.note.new.self
    (c.in_ok-note.ensures.names ∙ ap (with_name t.names) c.as_slice.ensures)
    (ap (has_name t.names) (sym c.as_slice.ensures) ∙ sym c.in_ok-note.ensures.there ∙ c.if-branch.true)

pub returns : goal.returns
returns c =
    let t = c.number.new.self in
    on_ok_weaker c.push.result
    (λ (pushed : c.push.new.self ≡ t.numbers ++ c.in_ok-number.number ∷ []) known are.
    let e : Typed = record { name = c.args.name.now; kindred = resolved known c.args.shape.now } in
    let both = c.in_ok-number.ensures known are in
    type_pushed known e t both.0 c.note.new.self c.push.new.self c.in_ok-number.number
    (c.in_ok-note.ensures.names ∙ ap (with_name t.names) c.as_slice.ensures)
    (ap (has_name t.names) (sym c.as_slice.ensures) ∙ sym c.in_ok-note.ensures.there ∙ c.if-branch.false)
    pushed both.1)
    c.push.ensures.ok
