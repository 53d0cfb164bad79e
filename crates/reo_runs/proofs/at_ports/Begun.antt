-- The start of a run: nothing is pending.
use Rattle.std.proofs.Common.{◌≡◌, ℕ, zero, suc, ◌<◌, List, [], ◌∷◌, length, map, refl, sym, ap, subst, arith, rules}
use Rattle.std.specs.Prelude.{Option, Some, None, IsSome, slice_get}
use Rattle.reo_net_base.specs.declared.port.Port.{Port}
use Rattle.reo_net_base.specs.PortState.{PortState, port_state_at}
use Rattle.reo_script.specs.declared.scripts.action.Component.{Component}
use Rattle.reo_players.specs.Written.{written_out}
use Rattle.reo_players.specs.Players.{Player, beginning_of, player_of}
use Rattle.reo_runs.specs.run_premises.Fitting.{FitPorts}
use Rattle.reo_runs.specs.run_premises.PortsOf.{HasPorts}
use Rattle.reo_rounds.specs.Offering.{AreJustPorts}
use Rattle.reo_runs.specs.at_ports.Pending.{held_at}
use Rattle.reo_runs.specs.at_ports.Between.{AreBetween}
use Rattle.reo_runs.specs.at_ports.Runnable.{CanRun}

pub got : {X : Type 0} (xs : List X) (i : ℕ) → i < length xs → (x : X) × (slice_get xs i ≡ Some x)
got [] i lt = absurd (omega arith)
got (x ∷ xs) zero lt = (x, refl)
got (x ∷ xs) (suc i) lt = got xs i (omega arith)

some_is : {X : Type 0} (o : Option X) (x : X) → o ≡ Some x → IsSome o
some_is None x is = absurd (cc)
some_is (Some y) x is = search rules

-- Exactly the ports have a way.
pub just_ports : (states : List PortState) (count : ℕ) (ports : List Port) → count ≡ length ports → HasPorts states ports → AreJustPorts states count
just_ports states count ports same has = record {
  first = λ i lt.
      let port = got ports i (omega arith) in
      some_is (port_state_at states i).way _ (has.each i port.0 port.1).way;
  others = λ i le. has.others i (omega arith);
}

rests : (cs : List Component) → map (λ (p : Player). p.rest) (map beginning_of cs) ≡ map written_out cs
rests [] = refl
rests (c ∷ cs) = ap (λ ls. written_out c ∷ ls) (rests cs)

unseen : (cs : List Component) (i : ℕ) → (player_of (map beginning_of cs) i).seen ≡ 0
unseen [] i = refl
unseen (c ∷ cs) zero = refl
unseen (c ∷ cs) (suc i) = unseen cs i

none_held : (port : ℕ) (p : Player) → p.seen ≡ 0 → held_at port p ≡ None
none_held port p is = rw is refl

-- Nothing is pending, and each component is at its beginning.
pub between_first : (states : List PortState) (count : ℕ) (ports : List Port) (cs : List Component) → CanRun states count ports cs → AreBetween ports count (map beginning_of cs) states
between_first states count ports cs can = record {
  at_ports = record { count_is = can.count_is; ports_are = can.ports_are; fit = subst (FitPorts ports) (sym (rests cs)) can.fit };
  pending = record {
    named = λ port i o lt within has. let none = none_held port (player_of (map beginning_of cs) i) (unseen cs i) in absurd (cc);
    unnamed = λ port lt none. can.free port;
  };
}
