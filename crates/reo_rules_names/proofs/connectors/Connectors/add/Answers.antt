-- A name that is there already, or one more.
use Rattle.std.proofs.Common.{◌≡◌, ◌∙◌, sym, ap, [], ◌∷◌, ◌++◌}
use Rattle.std.proofs.lemmas.Result.{on_ok_weaker}
use Rattle.reo_rules.specs.Lists.{has_name}
use Rattle.reo_rules.specs.Names.{with_name}
use Rattle.reo_rules_names.proofs.TableLemmas.{ways, connector_there, connector_pushed}
use Rattle.reo_rules_names.proofs.connectors.Connectors.add.Goals as goal

pub returns-then-branch : goal.returns-then-branch
returns-then-branch c known are =
    let t = c.args.self.now in
    let k = c.args.connector.now in
    connector_there known k t are c.note.new.self
    (c.in_ok-note.ensures.names ∙ ap (with_name t.names) c.as_slice.ensures)
    (ap (has_name t.names) (sym c.as_slice.ensures) ∙ sym c.in_ok-note.ensures.there ∙ c.if-branch.true)

pub returns : goal.returns
returns c =
    let t = c.args.self.now in
    let k = c.args.connector.now in
    on_ok_weaker c.push.result
    (λ (pushed : c.push.new.self ≡ t.ways ++ c.in_ok-ways.ways ∷ []) known are.
    connector_pushed known k t are c.note.new.self c.push.new.self
    (c.in_ok-note.ensures.names ∙ ap (with_name t.names) c.as_slice.ensures)
    (ap (has_name t.names) (sym c.as_slice.ensures) ∙ sym c.in_ok-note.ensures.there ∙ c.if-branch.false)
    (pushed ∙ ap (λ w. t.ways ++ w ∷ []) (c.in_ok-ways.ensures ∙ ap ways c.as_slice-2.ensures)))
    c.push.ensures.ok
