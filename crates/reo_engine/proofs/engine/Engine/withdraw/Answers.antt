use Rattle.std.proofs.Common.{◌∙◌, map, ap, refl, arith}
use Rattle.std.proofs.lemmas.List.{length-map}
use Rattle.reo_net_base.specs.Net.{Wiring, net_of}
use Rattle.reo_engine.specs.Goers.{is_keeper}
use Rattle.reo_engine.proofs.FlowsLemmas.{flows_stay}
use Rattle.reo_engine.proofs.Going.{goers_stay, keeper_stays, map_changed}
use Rattle.reo_engine.proofs.KeptLemmas.{just_ports_kept, one_each_kept}
use Rattle.reo_engine.proofs.Lookups.{one_changes, one_elsewhere, one_held}
use Rattle.reo_engine.proofs.engine.Engine.withdraw.Goals as goal

pub unsettle-requires-clause-primitive : goal.unsettle-requires-clause-primitive
unsettle-requires-clause-primitive g c =
    omega (arith, c.known_ports.ensures.within, length-map c.self.inside.circuit.primitives g.P.Primitive.behaviour)

pub invariant_of-self : goal.invariant_of-self
invariant_of-self g c =
    let old = c.self.invariant in (
      old.0,
      one_each_kept g.P.Primitive.behaviour g.P.Ported.port_state c.self.inside.circuit c.withdraw.new.self c.self.inside.changed c.mark.new.marks c.args.port c.withdraw.ensures.shape old.1 c.mark.ensures,
      just_ports_kept g.P.Primitive.behaviour g.P.Ported.port_state c.self.inside.circuit c.withdraw.new.self c.withdraw.ensures.shape old.2,
      one_changes g.P.Primitive.behaviour c.self.inside.circuit c.withdraw.new.self g.P.Ported.withdrawn c.args.port c.known.ensures.wired c.known-2.ensures.wired c.withdraw.ensures.shape.net
          c.withdraw.ensures.circuit c.self.inside.rounds c.self.inside.knots c.self.inside.ends c.self.inside.kept c.unsettle.new.self old.3 c.unsettle.ensures,
      one_held g.P.Primitive.behaviour c.self.inside.circuit c.withdraw.new.self g.P.Ported.withdrawn c.args.port c.known.ensures.wired c.withdraw.ensures.shape.net
          c.withdraw.ensures.circuit c.self.inside.knots old.3.are_knots c.self.inside.kept c.unsettle.new.self c.self.inside.lookups old.4 c.unsettle.ensures g.met.P.Ported.withdrawn_alike,
      flows_stay (net_of g.P.Primitive.behaviour c.self.inside.circuit) (net_of g.P.Primitive.behaviour c.withdraw.new.self) c.self.inside.knots c.self.inside.kept c.unsettle.new.self c.unsettle.ensures.fewer
          (one_elsewhere g.P.Primitive.behaviour c.self.inside.circuit c.withdraw.new.self g.P.Ported.withdrawn c.args.port c.withdraw.ensures.shape.net
          c.withdraw.ensures.circuit c.self.inside.knots c.self.inside.kept c.unsettle.new.self c.unsettle.ensures) c.self.inside.flows old.5,
      goers_stay g.P.Primitive.behaviour g.P.Primitive.lasting c.self.inside.circuit.primitives c.withdraw.new.self.primitives c.self.inside.goers c.self.inside.goers old.6
          (ap (λ (w : Wiring g.row.P.Denot). map (is_keeper g.P.Primitive.behaviour g.P.Primitive.lasting) w.primitives) c.withdraw.ensures.circuit
          ∙ map_changed (is_keeper g.P.Primitive.behaviour g.P.Primitive.lasting) g.P.Ported.withdrawn (λ p. keeper_stays g.P.Primitive.behaviour g.P.Primitive.lasting p (g.P.Ported.withdrawn p) (g.met.P.Ported.withdrawn_shape p) (g.met.P.Ported.withdrawn_lasting p)) c.self.inside.circuit.primitives c.args.port)
          refl refl,
    )
