-- The three laws together, and the ports.
use Rattle.std.proofs.Common.{arith, ◌≡◌, ℕ, ◌+◌, ◌<◌, zero, suc, List, [], ◌∷◌, ◌++◌, length, map, refl, sym, subst, codes}
use Rattle.std.specs.List.{flat_map}
use Rattle.std.proofs.lemmas.List.{length-append, length-map, map-append}
use Rattle.reo_values.specs.declared.kindred.Kindred.{Kindred}
use Rattle.reo_net_base.specs.declared.port.Port.{Port}
use Rattle.reo_net_base.specs.declared.port.Way.{Way}
use Rattle.reo_net_base.specs.declared.port.Way.TheVariants.{In as InWay, Out}
use Rattle.reo_net_base.specs.Behaviour.{Behaviour}
use Rattle.reo_net_base.specs.Net.{behaviour_at}
use Rattle.reo_net_base.specs.Wired.{IsPort}
use Rattle.reo_kinds.specs.Kinds.{behaviour_of}
use Rattle.reo_rules.specs.Scopes.{parameter_names}
use Rattle.reo_flat.specs.Unfolding.{Placed, meaning_named, meanings_of}
use Rattle.reo_flat.specs.Flat.{main_parameters, nodes_of, placed_of, ports_of, port_placed, port_kind, own_kinds, primitives_of}
use Rattle.reo_flat.proofs.flatten_laws.Breaks.{unbroken}
use Rattle.reo_flat.proofs.flatten_laws.RightWays.{Holds, all_hold, holds_split}
use Rattle.reo_flat.proofs.flatten_laws.circuits.circuits_are_made.Goals as goal

is_port : (w : Way) (k : Kindred) → IsPort (behaviour_of (port_kind w k))
is_port InWay k = record { one_side = refl; one_end = refl }
is_port Out k = record { one_side = refl; one_end = refl }

ports_at : (bs : List Behaviour) (from : ℕ) (ps : List Port) (rest : List Placed) → Holds bs from (map behaviour_of (map (λ (p : Placed). p.kind) (map port_placed ps ++ rest))) → (i : ℕ) → i < length ps → IsPort (behaviour_at bs (from + i))
ports_at bs from [] rest holds i below = absurd (omega arith)
ports_at bs from (p ∷ ps) rest holds zero below =
    let same : from ≡ from + 0 = omega arith in
    subst (λ n. IsPort (behaviour_at bs n)) same (subst IsPort (sym holds.0.1) (is_port p.way p.kindred))
ports_at bs from (p ∷ ps) rest holds (suc i) below =
    let same : suc from + i ≡ from + suc i = omega arith in
    subst (λ n. IsPort (behaviour_at bs n)) same (ports_at bs (suc from) ps rest holds.1 i (omega arith))

pub returns : goal.returns
returns c ds plain none =
    let kept = unbroken ds none in
    let served = c.nodes_are_served.ensures ds none in
    let ways = c.joints_go_right.ensures ds served in
    let placed = placed_of ds in
    let ports = ports_of ds in
    let channels = (meaning_named (meanings_of ds) (codes "main")).channels [] (parameter_names (main_parameters ds)) in
    let kinds = map (λ (p : Placed). p.kind) placed in
    let owns = flat_map (own_kinds placed) (nodes_of ds) in
    let bs = map behaviour_of (primitives_of ds) in
    let parts = holds_split bs 0 (map behaviour_of kinds) (map behaviour_of owns) (subst (Holds bs 0) (map-append behaviour_of kinds owns) (all_hold [] bs)) in
    let l1 = length-map (primitives_of ds) behaviour_of in
    let l2 = length-append kinds owns in
    let l3 = length-map placed (λ (p : Placed). p.kind) in
    let l4 = length-append (map port_placed ports) channels in
    let l5 = length-map ports port_placed in
    record {
      ports = record {
        within = omega arith;
        port = λ i below. let same : 0 + i ≡ i = omega arith in subst (λ n. IsPort (behaviour_at bs n)) same (ports_at bs 0 ports channels parts.0 i below);
      };
      ends = ways.1;
      joined = c.ends_are_joined.ensures ds plain kept.rules.types.names.no_twice kept.rules.types.names.no_unknown kept.rules.no_arity served;
      right = ways.0;
    }
