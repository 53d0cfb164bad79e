-- Ports, and then what is no port.
use Rattle.std.proofs.Common.{arith, ◌≡◌, ℕ, zero, suc, ◌≤◌, List, [], ◌∷◌, ◌++◌, length, map, Some, None, refl, ap, subst}
use Rattle.std.specs.Prelude.{slice_get}
use Rattle.std.specs.List.{AllByRecursion}
use Rattle.reo_values.specs.declared.kindred.Kindred.{Kindred}
use Rattle.reo_net_base.specs.declared.port.Port.{Port}
use Rattle.reo_net_base.specs.declared.port.Way.{Way}
use Rattle.reo_net_base.specs.declared.port.Way.TheVariants.{In, Out}
use Rattle.reo_net_base.specs.PortState.{PortState, port_state_at}
use Rattle.reo_kinds.specs.declared.kind.Kind.{Kind}
use Rattle.reo_kinds.specs.Kinds.{port_state_of}
use Rattle.reo_exprs.proofs.Options.{some_same}
use Rattle.reo_flat.specs.Flat.{port_kind}
use Rattle.reo_runs.specs.run_premises.PortsOf.{IsPortOf, HasPorts, AreFree}
use Rattle.reo_runs.proofs.run_premises.NoPorts.{IsNoPort}

-- The states of these ports and of the primitives behind them.
abbrev pub states : List Port → List Kind → List PortState
states ports others = map port_state_of (map (λ (p : Port). port_kind p.way p.kindred) ports ++ others)

itself : (name : List ℕ) (way : Way) (k : Kindred) → IsPortOf (port_state_of (port_kind way k)) (record { name = name; way = way; kindred = k })
itself name In k = record { way = refl; accepts = λ is item. refl }
itself name Out k = record { way = refl; accepts = λ is item. absurd (cc) }

each : (ports : List Port) (others : List Kind) (i : ℕ) (port : Port) → slice_get ports i ≡ Some port → IsPortOf (port_state_at (states ports others) i) port
each [] others i port is = absurd (cc)
each (p ∷ ps) others zero port is = subst (IsPortOf (port_state_of (port_kind p.way p.kindred))) (some_same p port is) (itself p.name p.way p.kindred)
each (p ∷ ps) others (suc i) port is = each ps others i port is

behind : (ports : List Port) (others : List Kind) → AllByRecursion IsNoPort others → (i : ℕ) → length ports ≤ i → (port_state_at (states ports others) i).way ≡ None
behind [] [] none i past = refl
behind [] (k ∷ ks) none zero past = ap (λ (s : PortState). s.way) none.0
behind [] (k ∷ ks) none (suc i) past = behind [] ks none.1 i (omega arith)
behind (p ∷ ps) others none zero past = absurd (omega arith)
behind (p ∷ ps) others none (suc i) past = behind ps others none i (omega arith)

-- The first are the ports, and no other is one.
pub has_ports : (ports : List Port) (others : List Kind) → AllByRecursion IsNoPort others → HasPorts (states ports others) ports
has_ports ports others none = record { each = each ports others; others = behind ports others none }

unoffered : (way : Way) (k : Kindred) → (port_state_of (port_kind way k)).pending ≡ None
unoffered In k = refl
unoffered Out k = refl

-- Nothing is pending.
pub are_free : (ports : List Port) (others : List Kind) → AllByRecursion IsNoPort others → AreFree (states ports others)
are_free [] [] none i = refl
are_free [] (k ∷ ks) none zero = ap (λ (s : PortState). s.pending) none.0
are_free [] (k ∷ ks) none (suc i) = are_free [] ks none.1 i
are_free (p ∷ ps) others none zero = unoffered p.way p.kindred
are_free (p ∷ ps) others none (suc i) = are_free ps others none i
