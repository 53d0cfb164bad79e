-- The place of the name among the names of the ports.
use Rattle.std.proofs.Common.{◌∙◌, sym}
use Rattle.std.specs.Str.{bytes_eq}
use Rattle.std.proofs.lemmas.Iterator.Adapters.{position_from-zero}
use Rattle.reo_net_base.specs.declared.port.Port.{Port}
use Rattle.reo_rules.proofs.Mapped.{position-map}
use Rattle.reo_script.proofs.lines.number_of.Goals as goal

pub returns : goal.returns
returns c =
    c.place_of.ensures ∙ sym (position_from-zero (λ (p : Port). bytes_eq c.args.name.now p.name) c.args.ports.now)
    ∙ sym (position-map (λ (p : Port). p.name) (bytes_eq c.args.name.now) c.args.ports.now)
