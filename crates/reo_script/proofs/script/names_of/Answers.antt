use Rattle.std.proofs.Common.{arith, false, ℕ, ◌<◌, ◌≡◌, ◌∙◌, List, [], ◌∷◌, ◌++◌, sym, ap, map, cond, get_or, length}
use Rattle.std.proofs.lemmas.List.{take-map, length-map, get_or-map}
use Rattle.reo_net_base.specs.declared.port.Port.{Port}
use Rattle.reo_rules.specs.Lists.{has_name}
use Rattle.reo_rules.specs.Names.{with_name}
use Rattle.reo_rules.proofs.AfterLemmas.{more_mapped}
use Rattle.reo_rules.proofs.Distinct.{new_name}
use Rattle.reo_script.proofs.script.names_of.Goals as goal

abbrev pub name_of : Port → List ℕ
name_of p = p.name

pub loop-port-preserved : goal.loop-port-preserved
loop-port-preserved c =
    let ports = c.args.ports.now in
    let i = c.loop-port.port-index in
    let x = c.port-item.result in
    let names = c.loop-port.names in
    let within : i < length (map name_of ports) = omega (arith, c.loop-port-test.true, length-map ports name_of) in
    let is : x.name ≡ get_or (map name_of ports) i x.name = ap name_of c.port-item.is ∙ sym (get_or-map name_of ports i x x.name c.loop-port-test.true) in
    let absent : has_name names x.name ≡ false =
    ap (λ ns. has_name ns x.name) (c.loop-port.invariant ∙ sym (take-map name_of i ports)) ∙ new_name (map name_of ports) i x.name c.requires.distinct within is in
    let next : c.note.new.self ≡ names ++ x.name ∷ [] =
    c.in_ok-note.ensures.names ∙ (ap (with_name names) c.as_slice.ensures ∙ ap (λ b. cond b names (names ++ x.name ∷ [])) absent) in
    more_mapped name_of ports i x c.loop-port-test.true c.port-item.is c.loop-port.invariant next
