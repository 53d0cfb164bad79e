-- The set of the number that stands beside the name.
use Rattle.std.proofs.Common.{◌∙◌, [], get_or, sym, subst}
use Rattle.std.proofs.lemmas.Option.{slice_get-get_or}
use Rattle.reo_rules.specs.Types.{type_named}
use Rattle.reo_rules_names.specs.Symbols.{IsSetOf, LacksNone, LacksOthers}
use Rattle.reo_rules_names.proofs.SymbolLemmas.{set_found}
use Rattle.reo_rules_names.proofs.types.DeclaredTypes.symbols.Goals as goal

pub returns-in-Some : goal.returns-in-Some
returns-in-Some c known are =
    let sets = c.args.self.now.sets in
    let n = c.in-Some.number in
    let type = type_named known c.args.name.now in
    let is = subst (λ o. IsSetOf sets o type) (sym (c.number_of.ensures are.paired) ∙ c.in-Some.is) (are.symbols c.args.name.now) in
    set_found c.get.result (get_or sets n []) (LacksNone type) (LacksOthers type)
    (c.get.ensures ∙ slice_get-get_or sets n [] is.0) is.1

pub returns-in-None : goal.returns-in-None
returns-in-None c known are =
    subst (λ o. IsSetOf c.args.self.now.sets o (type_named known c.args.name.now)) (sym (c.number_of.ensures are.paired) ∙ c.in-None.is) (are.symbols c.args.name.now)
