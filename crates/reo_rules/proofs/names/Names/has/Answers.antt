-- The set has the bytes of its vectors as names.
use Rattle.std.proofs.Common.{◌∙◌, sym, ap}
use Rattle.std.specs.Str.{bytes_eq}
use Rattle.reo_rules.specs.Lists.{has_name}
use Rattle.reo_rules.proofs.Mapped.{list_any-map}
use Rattle.reo_rules.proofs.names.Names.has.Goals as goal

pub returns : goal.returns
returns c =
    c.contains.ensures ∙ sym (list_any-map (λ v. v.items) (bytes_eq c.args.name.now) c.self.inside.set.keys) ∙ ap (λ names. has_name names c.args.name.now) c.self.view_is
