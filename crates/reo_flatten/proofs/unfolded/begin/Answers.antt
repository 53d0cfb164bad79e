-- The ports, and then what the connector adds.
use Rattle.std.proofs.Common.{arith, ◌≡◌, ◌∙◌, ◌<◌, ◌++◌, [], length, map, get_or, position, bytes_eq, codes, sym, ap, subst}
use Rattle.std.proofs.lemmas.List.{map-append, length-map}
use Rattle.reo_flatten.proofs.Sequences.{map_map}
use Rattle.reo_net_base.specs.declared.port.Port.{Port}
use Rattle.reo_rules.specs.Types.{types_of}
use Rattle.reo_trees.specs.declared.programs.Connector.{Connector}
use Rattle.reo_rules.specs.Scopes.{parameter_names, connector_names, connectors_of}
use Rattle.reo_unfold.proofs.Positions.{found_within}
use Rattle.reo_flat.specs.Unfolding.{Placed, Meaning, no_meaning, meanings_of, meaning_named}
use Rattle.reo_flat.specs.Flat.{port_of, port_placed, ports_of, main_parameters}
use Rattle.reo_unfold.specs.Ground.{IsStand, Stands}
use Rattle.reo_unfold.specs.Adds.{Adds}
use Rattle.reo_unfold.specs.declared.unfold.Unfolded.{Unfolded}
use Rattle.reo_flatten.proofs.MainLemmas.{main_meaning, main_parameters_are}
use Rattle.reo_flatten.proofs.unfolded.begin.Goals as goal

pub returns : goal.returns
returns c =
    let ds = c.args.declarations.now in
    let number = c.args.number in
    let at : position (bytes_eq (codes "main")) (connector_names ds) ≡ _ = ap (position (bytes_eq (codes "main"))) (sym c.requires.ground.names) ∙ c.requires.main in
    let main = c.connector_at-main.result.now in
    let within : number < length c.args.ground.now.stands = let found = found_within (bytes_eq (codes "main")) c.args.ground.now.connectors number c.requires.main in
    let names = ap length c.requires.ground.names in
    let many = length-map (connectors_of ds) (λ (k : Connector). k.name) in
    let even = c.requires.ground.one_each in
    omega arith in
    let stand = subst (Stands ds number) (sym c.at.ensures) (c.requires.ground.stands number c.at.result.now within) in
    let is : IsStand ds number main c.at.result.now = record { there = c.connector_at-main.ensures; before = stand.is.before; types = stand.is.types } in
    let ps = main_parameters_are ds number at main c.at.result.now is in
    let given = c.as_slice-parameters.ensures ∙ sym ps in
    let ports = c.in_ok-ports.ensures (types_of ds) c.requires.ground.types ∙ ap (map (port_of (types_of ds))) given in
    let names = ap parameter_names given in
    let m = meaning_named (meanings_of ds) (codes "main") in
    let meaning = main_meaning ds number at in
    let old : Unfolded = record { nodes = c.in_ok-names_of.field-0; kinds = c.in_ok-port_kinds.field-0; ends = c.in_ok-port_ends.field-0 } in
    let added : Adds old c.connector.new.made (m.nodes []) (m.channels [] (parameter_names (main_parameters ds))) =
    subst (λ (k : Meaning). Adds old c.connector.new.made (k.nodes []) (k.channels [] (parameter_names (main_parameters ds)))) (sym meaning)
    (subst (λ gs. Adds old c.connector.new.made ((get_or (meanings_of ds) number no_meaning).nodes []) ((get_or (meanings_of ds) number no_meaning).channels [] gs)) (c.as_slice-3.ensures ∙ c.in_ok-arguments.ensures ∙ names)
    (subst (λ p. Adds old c.connector.new.made ((get_or (meanings_of ds) number no_meaning).nodes p) ((get_or (meanings_of ds) number no_meaning).channels p c.as_slice-3.result.now)) c.new-path.ensures c.in_ok-connector.ensures.made)) in
    let channels = m.channels [] (parameter_names (main_parameters ds)) in
    record {
      ports = ports;
      nodes = added.nodes_are ∙ ap (λ ns. ns ++ m.nodes []) (c.in_ok-names_of.ensures ∙ names);
      kinds = added.kinds_are ∙ ap (λ ks. ks ++ map (λ (p : Placed). p.kind) channels) (c.in_ok-port_kinds.ensures ∙ ap (map (λ (p : Port). (port_placed p).kind)) (c.as_slice.ensures ∙ ports) ∙ sym (map_map (λ (p : Placed). p.kind) port_placed (ports_of ds)))
          ∙ sym (map-append (λ (p : Placed). p.kind) (map port_placed (ports_of ds)) channels);
      ends = added.ends_are ∙ ap (λ es. es ++ map (λ (p : Placed). p.nodes) channels) (c.in_ok-port_ends.ensures ∙ ap (map (λ (p : Port). (port_placed p).nodes)) (c.as_slice-2.ensures ∙ ports) ∙ sym (map_map (λ (p : Placed). p.nodes) port_placed (ports_of ds)))
          ∙ sym (map-append (λ (p : Placed). p.nodes) (map port_placed (ports_of ds)) channels);
    }
