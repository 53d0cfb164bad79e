-- What stands beside the name.
use Rattle.std.proofs.Common.{◌∙◌, None, sym, ap}
use Rattle.std.specs.Option.{option_copied}
use Rattle.reo_rules_names.proofs.ValueLemmas.{value_found, value_lost, value_at-None}
use Rattle.reo_rules_names.proofs.types.DeclaredTypes.number_of.Goals as goal

pub returns-in-Some-get : goal.returns-in-Some-get
returns-in-Some-get c paired =
    sym (value_found None c.args.name.now c.args.self.now.names c.args.self.now.numbers c.in-Some.place c.in-Some-get.number.now paired (sym c.find.ensures ∙ c.in-Some.is) (sym c.get.ensures ∙ ap option_copied c.in-Some-get.is))

pub returns-in-None-get : goal.returns-in-None-get
returns-in-None-get c paired =
    absurd (value_lost None c.args.name.now c.args.self.now.names c.args.self.now.numbers c.in-Some.place paired (sym c.find.ensures ∙ c.in-Some.is) (sym c.get.ensures ∙ ap option_copied c.in-None-get.is))

pub returns-in-None : goal.returns-in-None
returns-in-None c paired =
    sym (value_at-None None c.args.name.now c.args.self.now.names c.args.self.now.numbers paired (sym c.find.ensures ∙ c.in-None.is))
