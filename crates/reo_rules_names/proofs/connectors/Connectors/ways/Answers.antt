-- What stands beside the name.
use Rattle.std.proofs.Common.{◌∙◌, [], sym, ap}
use Rattle.std.specs.Option.{option_copied}
use Rattle.reo_rules_names.proofs.ValueLemmas.{value_found, value_lost, value_at-None}
use Rattle.reo_rules_names.proofs.connectors.Connectors.ways.Goals as goal

pub returns-in-Some-get : goal.returns-in-Some-get
returns-in-Some-get c known are =
    c.as_slice.ensures
    ∙ sym (value_found [] c.args.name.now c.args.self.now.names c.args.self.now.ways c.in-Some.number c.in-Some-get.ways.now are.paired (sym c.find.ensures ∙ c.in-Some.is) (sym c.get.ensures ∙ ap option_copied c.in-Some-get.is))
    ∙ are.ways c.args.name.now

pub returns-in-None-get : goal.returns-in-None-get
returns-in-None-get c known are =
    absurd (value_lost [] c.args.name.now c.args.self.now.names c.args.self.now.ways c.in-Some.number are.paired (sym c.find.ensures ∙ c.in-Some.is) (sym c.get.ensures ∙ ap option_copied c.in-None-get.is))

pub returns-in-None : goal.returns-in-None
returns-in-None c known are =
    sym (value_at-None [] c.args.name.now c.args.self.now.names c.args.self.now.ways are.paired (sym c.find.ensures ∙ c.in-None.is)) ∙ are.ways c.args.name.now
