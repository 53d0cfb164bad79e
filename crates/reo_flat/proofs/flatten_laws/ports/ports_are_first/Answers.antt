-- What is placed begins with the ports.
use Rattle.std.proofs.Common.{◌≡◌, ◌∙◌, ℕ, List, [], ◌∷◌, ◌++◌, length, map, take, refl, sym, ap, codes}
use Rattle.std.specs.List.{flat_map}
use Rattle.std.proofs.lemmas.List.{append_assoc, length-map, map-append}
use Rattle.reo_net_base.specs.declared.port.Port.{Port}
use Rattle.reo_trees.specs.declared.programs.Parameter.{Parameter}
use Rattle.reo_rules.specs.Types.{Typed, types_of}
use Rattle.reo_rules.specs.Scopes.{parameter_names}
use Rattle.reo_flat.specs.Unfolding.{Placed, meaning_named, meanings_of}
use Rattle.reo_flat.specs.Flat.{main_parameters, ports_of, port_of, port_kind, port_placed, placed_of, nodes_of, own_kinds, primitives_of}
use Rattle.reo_flat.proofs.flatten_laws.ports.ports_are_first.Goals as goal

front : {X : Type 0} (xs ys : List X) → take (length xs) (xs ++ ys) ≡ xs
front [] ys = refl
front (x ∷ xs) ys = ap (λ zs. x ∷ zs) (front xs ys)

front_of : {X : Type 0} (n : ℕ) (xs ys all : List X) → all ≡ xs ++ ys → length xs ≡ n → take n all ≡ xs
front_of n xs ys all is long = ap (take n) is ∙ ap (λ k. take k (xs ++ ys)) (sym long) ∙ front xs ys

port_kinds : (ps : List Port) → map (λ (p : Placed). p.kind) (map port_placed ps) ≡ map (λ (p : Port). port_kind p.way p.kindred) ps
port_kinds [] = refl
port_kinds (p ∷ ps) = ap (λ ks. port_kind p.way p.kindred ∷ ks) (port_kinds ps)

port_names : (types : List Typed) (ps : List Parameter) → parameter_names ps ≡ map (λ (p : Port). p.name) (map (port_of types) ps)
port_names types [] = refl
port_names types (p ∷ ps) = ap (λ ns. p.name ∷ ns) (port_names types ps)

pub returns : goal.returns
returns c ds =
    let ports = ports_of ds in
    let ps = main_parameters ds in
    let kinds = map (λ (p : Port). port_kind p.way p.kindred) ports in
    let channels = (meaning_named (meanings_of ds) (codes "main")).channels [] (parameter_names ps) in
    let rest = map (λ (p : Placed). p.kind) channels in
    let owns = flat_map (own_kinds (placed_of ds)) (nodes_of ds) in
    let split = map-append (λ (p : Placed). p.kind) (map port_placed ports) channels ∙ ap (λ ks. ks ++ rest) (port_kinds ports) in
    let names = map (λ (p : Port). p.name) ports in
    record {
      primitives = front_of (length ports) kinds (rest ++ owns) (primitives_of ds) (ap (λ ks. ks ++ owns) split ∙ append_assoc kinds rest owns) (length-map ports (λ (p : Port). port_kind p.way p.kindred));
      nodes = front_of (length ports) names ((meaning_named (meanings_of ds) (codes "main")).nodes []) (nodes_of ds) (ap (λ ns. ns ++ (meaning_named (meanings_of ds) (codes "main")).nodes []) (port_names (types_of ds) ps)) (length-map ports (λ (p : Port). p.name));
    }
