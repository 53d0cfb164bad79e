use Rattle.std.proofs.Common.{◌∙◌, ap, sym, zero-add, refl, arith}
use Rattle.std.specs.Prelude.{option_map, slice_get}
use Rattle.reo_players.specs.Offers.{offer_for}
use Rattle.reo_rounds.specs.Ready.{with_pending}
use Rattle.reo_rounds.specs.Rules.{rules_of}
use Rattle.reo_runs.proofs.StartLemmas.{started, ready_others, ready_at}
use Rattle.reo_runs.proofs.laws.rounds_start.Goals as goal

pub returns : goal.returns
returns g c =
    let r = rules_of g.P.Primitive.behaviour g.P.Primitive.settled g.P.Ported.port_state g.P.Ported.placed g.P.Ported.withdrawn in
    λ a few apart taken.
    let at_port = started r g.met.P.Ported.withdrawn_port g.met.P.Ported.placed_port a few taken in
    record {
      offered = λ port lt. (c.offers_agree.ensures a.players port _ apart).1 (at_port port lt).pending_is;
      same = λ port lt. record { way = (at_port port lt).way; accepts = (at_port port lt).accepts; pending_is = refl };
      but_for_offers = λ port lt.
          rw (zero-add port) at (ready_at r (offer_for a.players) a.circuit.primitives a.circuit.ports 0 port (omega (arith, lt)))
          ∙ ap (λ o. option_map (with_pending r o) (slice_get a.circuit.primitives port)) (sym (at_port port lt).pending_is);
      joints = refl;
      ports = refl;
      others = λ k le. ready_others r (offer_for a.players) a.circuit.primitives a.circuit.ports 0 k (omega (arith, le));
    }
