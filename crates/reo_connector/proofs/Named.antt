-- The number of the port of a name.
use Rattle.std.proofs.Common.{◌≡◌, ◌∙◌, ℕ, List, Option, sym}
use Rattle.std.specs.Str.{bytes_eq}
use Rattle.std.specs.List.{position_from}
use Rattle.std.proofs.lemmas.Iterator.Adapters.{position_from-zero}
use Rattle.reo_net_base.specs.declared.port.Port.{Port}
use Rattle.reo_rules.proofs.Mapped.{position-map}
use Rattle.reo_script.specs.scripts.ScriptRules.{port_number}

pub number_is : (ports : List Port) (name : List ℕ) (found : Option ℕ)
    → found ≡ position_from (λ (p : Port). bytes_eq name p.name) 0 ports → found ≡ port_number ports name
number_is ports name found is =
    is ∙ sym (position_from-zero (λ (p : Port). bytes_eq name p.name) ports)
    ∙ sym (position-map (λ (p : Port). p.name) (bytes_eq name) ports)
