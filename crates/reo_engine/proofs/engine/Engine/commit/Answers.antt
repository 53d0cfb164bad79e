use Rattle.std.proofs.Common.{◌≡◌, ◌∙◌, length, map, ap, refl, sym, rules, arith}
use Rattle.std.proofs.lemmas.List.{length-map}
use Rattle.reo_net_base.specs.Net.{Net, Wiring, net_of}
use Rattle.reo_engine.proofs.Plannings.{fewer_twice}
use Rattle.reo_engine.proofs.FlowsLemmas.{flows_stay}
use Rattle.reo_engine.specs.Goers.{is_keeper}
use Rattle.reo_engine.proofs.Going.{goers_stay, keeper_stays, map_settled}
use Rattle.reo_engine.proofs.Lookups.{round_elsewhere, round_held, round_made, stay_settled}
use Rattle.reo_engine.proofs.Others.{others_stay}
use Rattle.reo_engine.proofs.Treating.{round_treats}
use Rattle.reo_engine.proofs.engine.Engine.commit.Goals as goal

pub returns-clause-others : goal.returns-clause-others
returns-clause-others g c =
    let now : Wiring g.row.P.Denot = c.self.inside.circuit in
    let colouring = rw (← c.self.view_is) at c.requires.suits.colouring in
    let flowed = rw c.as_slice-rows.ensures at c.mark_flowing.ensures in
    rw (← c.self.view_is) (others_stay g.P.Primitive.behaviour g.P.Primitive.settled g.met.P.Primitive.quiet now c.step.new.self c.args.plan.colouring.rows c.args.plan.colouring.items c.mark_flowing.new.marks
    c.known.ensures.wired colouring flowed c.step.ensures.circuit)

pub invariant_of-self : goal.invariant_of-self
invariant_of-self g c =
    let old = c.self.invariant in
    let now : Wiring g.row.P.Denot = c.self.inside.circuit in
    let colouring = rw (← c.self.view_is) at c.requires.suits.colouring in
    let flowed = rw c.as_slice-rows.ensures at c.mark_flowing.ensures in
    let few = rw (← c.self.view_is) at c.requires.few in
    let others = others_stay g.P.Primitive.behaviour g.P.Primitive.settled g.met.P.Primitive.quiet now c.step.new.self c.args.plan.colouring.rows c.args.plan.colouring.items c.mark_flowing.new.marks
    c.known.ensures.wired colouring flowed c.step.ensures.circuit in
    let before : length (map g.P.Primitive.behaviour now.primitives) ≡ length now.primitives = length-map now.primitives g.P.Primitive.behaviour in
    let after : length (map g.P.Primitive.behaviour c.step.new.self.primitives) ≡ length c.step.new.self.primitives = length-map c.step.new.self.primitives g.P.Primitive.behaviour in
    let marks : length c.mark_flowing.new.marks ≡ length now.primitives = c.mark_flowing.ensures.one_each ∙ before in (
      omega (arith, few),
      marks ∙ sym before ∙ sym c.step.ensures.shape.primitives.count ∙ after,
      search rules,
      round_made g.P.Primitive.behaviour now c.step.new.self c.mark_flowing.new.marks c.known.ensures.wired c.known-2.ensures.wired c.step.ensures.shape others marks
          c.self.inside.rounds c.self.inside.knots c.self.inside.ends c.self.inside.kept c.unsettle_marked.new.self c.unsettle_moving.new.self old.3 c.unsettle_marked.ensures c.unsettle_moving.ensures,
      round_held g.P.Primitive.behaviour now c.step.new.self c.mark_flowing.new.marks c.known.ensures.wired c.step.ensures.shape others marks
          c.self.inside.knots old.3.are_knots c.self.inside.kept c.unsettle_marked.new.self c.unsettle_moving.new.self c.self.inside.lookups old.4
          c.unsettle_marked.ensures c.unsettle_moving.ensures
          (round_treats g.P.Primitive.behaviour g.P.Primitive.settled g.met.P.Primitive.settled_alike now c.step.new.self c.args.plan.colouring.rows c.args.plan.colouring.items c.step.ensures.circuit),
      flows_stay (net_of g.P.Primitive.behaviour now) (net_of g.P.Primitive.behaviour c.step.new.self) c.self.inside.knots c.self.inside.kept c.unsettle_moving.new.self
          (fewer_twice c.self.inside.kept c.unsettle_marked.new.self c.unsettle_moving.new.self c.unsettle_marked.ensures.fewer c.unsettle_moving.ensures.fewer)
          (round_elsewhere g.P.Primitive.behaviour now c.step.new.self c.mark_flowing.new.marks c.step.ensures.shape others marks c.self.inside.knots c.self.inside.kept c.unsettle_marked.new.self c.unsettle_moving.new.self
          c.unsettle_marked.ensures c.unsettle_moving.ensures) c.self.inside.flows old.5,
      goers_stay g.P.Primitive.behaviour g.P.Primitive.lasting now.primitives c.step.new.self.primitives c.self.inside.goers c.self.inside.goers old.6
          (ap (λ (w : Wiring g.row.P.Denot). map (is_keeper g.P.Primitive.behaviour g.P.Primitive.lasting) w.primitives) c.step.ensures.circuit
          ∙ map_settled (is_keeper g.P.Primitive.behaviour g.P.Primitive.lasting) g.P.Primitive.settled (λ p r t. keeper_stays g.P.Primitive.behaviour g.P.Primitive.lasting p (g.P.Primitive.settled p r t) (g.met.P.Primitive.settled_shape p r t) (g.met.P.Primitive.settled_lasting p r t)) now.primitives _ _)
          refl refl,
    )

pub returns-clause-settled : goal.returns-clause-settled
returns-clause-settled g c =
    let net : Net = net_of g.P.Primitive.behaviour c.self.inside.circuit in
    rw (← c.self.view_is) (stay_settled net c.self.inside.knots c.mark_flowing.new.marks c.self.inside.kept c.unsettle_marked.new.self c.unsettle_moving.new.self
    c.unsettle_marked.ensures c.unsettle_moving.ensures)
