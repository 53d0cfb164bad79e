-- The number of the map.
use Rattle.std.proofs.Common.{◌∙◌, sym, ap, bytes_eq}
use Rattle.std.specs.Prelude.{unwrap_or}
use Rattle.reo_rules_types.specs.Scoped.{number_named}
use Rattle.reo_rules_types.proofs.Scoped.{lookup-map}
use Rattle.reo_rules_types.proofs.scope.Scope.find.Goals as goal

pub returns-in-Some : goal.returns-in-Some
returns-in-Some c =
    ap (λ o. unwrap_or o 0) (c.in-Some.ensures.value ∙ sym (lookup-map (λ v. v.items) (bytes_eq c.args.name.now) c.self.inside.numbers.entries))
    ∙ ap (λ es. number_named es c.args.name.now) c.self.view_is

pub returns-in-None : goal.returns-in-None
returns-in-None c =
    ap (λ o. unwrap_or o 0) (c.in-None.ensures.value ∙ sym (lookup-map (λ v. v.items) (bytes_eq c.args.name.now) c.self.inside.numbers.entries))
    ∙ ap (λ es. number_named es c.args.name.now) c.self.view_is
