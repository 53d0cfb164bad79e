use Rattle.std.proofs.Common.{◌∙◌, sym, ap}
use Rattle.std.specs.Prelude.{position}
use Rattle.std.specs.Str.{bytes_eq}
use Rattle.reo_rules.proofs.Mapped.{position-map}
use Rattle.reo_rules.proofs.names.Names.find.Goals as goal

pub returns : goal.returns
returns c =
    c.get_index_of.ensures.index ∙ sym (position-map (λ v. v.items) (bytes_eq c.args.name.now) c.self.inside.set.keys) ∙ ap (position (bytes_eq c.args.name.now)) c.self.view_is
