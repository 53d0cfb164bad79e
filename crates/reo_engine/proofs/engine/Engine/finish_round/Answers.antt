use Rattle.std.proofs.Common.{◌≡◌, ◌∙◌, ◌+◌, Bool, List, length, map, ap, sym, subst, rules, arith}
use Rattle.std.proofs.lemmas.List.{length-map}
use Rattle.reo_net_base.specs.declared.joint.Joint.{Joint}
use Rattle.reo_net_base.specs.Net.{Net, Wiring, net_of}
use Rattle.reo_round.specs.Filling.{AreBlank}
use Rattle.reo_engine.proofs.Between.{marked_unsettled, moving_again}
use Rattle.reo_engine.proofs.Others.{others_stay}
use Rattle.reo_engine.proofs.FlowsLemmas.{flows_stay, held_among}
use Rattle.reo_engine.specs.Goers.{is_keeper}
use Rattle.reo_engine.proofs.Going.{between_going, cover_going, goers_stay, keeper_stays, map_settled}
use Rattle.reo_engine.proofs.Lookups.{round_elsewhere, round_held, round_made, stay_settled}
use Rattle.reo_engine.proofs.Treating.{round_treats}
use Rattle.reo_engine.proofs.engine.Engine.finish_round.Goals as goal

pub unsettle_between-requires-clause-marks : goal.unsettle_between-requires-clause-marks
unsettle_between-requires-clause-marks g c =
    let is_made = rw (← c.self.view_is) at c.requires.is_made in
    c.note.ensures.going.one_each ∙ is_made.marks.one_each ∙ length-map c.self.inside.circuit.primitives g.P.Primitive.behaviour

pub note-requires-clause-keepers : goal.note-requires-clause-keepers
note-requires-clause-keepers g c =
    let is_made = rw (← c.self.view_is) at c.requires.is_made in
    let ps = c.self.inside.circuit.primitives in
    ap (λ (xs : List Bool). length xs) c.self.invariant.6.keepers ∙ length-map ps (is_keeper g.P.Primitive.behaviour g.P.Primitive.lasting) ∙ sym (is_made.marks.one_each ∙ length-map ps g.P.Primitive.behaviour)

pub note-requires-clause-going : goal.note-requires-clause-going
note-requires-clause-going g c =
    let is_made = rw (← c.self.view_is) at c.requires.is_made in
    c.self.invariant.6.one_each ∙ sym (is_made.marks.one_each ∙ length-map c.self.inside.circuit.primitives g.P.Primitive.behaviour)

pub unsettle_moving-requires : goal.unsettle_moving-requires
unsettle_moving-requires g c =
    let fewer = c.unsettle_between.ensures.fewer in
    let sizes = c.self.invariant.3.is_kept.sizes in
    fewer.one_each ∙ sizes.one_each ∙ sym sizes.one_mark ∙ sym (ap (λ (xs : List Bool). length xs) fewer.moving)

pub step_marked-requires-clause-marks : goal.step_marked-requires-clause-marks
step_marked-requires-clause-marks g c =
    let is_made = rw (← c.self.view_is) at c.requires.is_made in
    rw c.as_slice-by.ensures (cover_going g.P.Primitive.behaviour g.P.Primitive.lasting c.self.inside.circuit c.self.inside.goers c.self.invariant.6 c.args.made_round.marks c.note.new.self.going c.note.ensures.going
    c.args.made_round.colouring.rows is_made.marks)

pub cleared-requires : goal.cleared-requires
cleared-requires g c =
    let net : Net = net_of g.P.Primitive.behaviour c.self.inside.circuit in
    let is_made = rw (← c.self.view_is) at c.requires.is_made in
    let made_round = c.args.made_round in
    rw c.as_slice-joints.ensures (held_among net c.known.ensures.wired made_round.colouring.rows made_round.colouring.items c.step_marked.new.items is_made.first.colouring made_round.flowing is_made.flowing c.step_marked.ensures.items)

pub returns-clause-others : goal.returns-clause-others
returns-clause-others g c =
    let now : Wiring g.row.P.Denot = c.self.inside.circuit in
    let is_made = rw (← c.self.view_is) at c.requires.is_made in
    let made_round = c.args.made_round in
    let flowed = is_made.marks in
    let step = rw c.as_slice-by.ensures at c.step_marked.ensures.circuit in
    rw (← c.self.view_is, c.replace.ensures.after) (others_stay g.P.Primitive.behaviour g.P.Primitive.settled g.met.P.Primitive.quiet now c.step_marked.new.circuit made_round.colouring.rows made_round.colouring.items made_round.marks
    c.known.ensures.wired is_made.first.colouring flowed step)

pub invariant_of-self : goal.invariant_of-self
invariant_of-self g c =
    let old = c.self.invariant in
    let now : Wiring g.row.P.Denot = c.self.inside.circuit in
    let net : Net = net_of g.P.Primitive.behaviour now in
    let other : Net = net_of g.P.Primitive.behaviour c.step_marked.new.circuit in
    let is_made = rw (← c.self.view_is) at c.requires.is_made in
    let made_round = c.args.made_round in
    let flowed = is_made.marks in
    let step = rw c.as_slice-by.ensures at c.step_marked.ensures.circuit in
    let few = rw (← c.self.view_is) at c.requires.few in
    let same = rw (← c.self.view_is) at c.requires.same in
    let others = others_stay g.P.Primitive.behaviour g.P.Primitive.settled g.met.P.Primitive.quiet now c.step_marked.new.circuit made_round.colouring.rows made_round.colouring.items made_round.marks
    c.known.ensures.wired is_made.first.colouring flowed step in
    let before : length (map g.P.Primitive.behaviour now.primitives) ≡ length now.primitives = length-map now.primitives g.P.Primitive.behaviour in
    let after : length (map g.P.Primitive.behaviour c.step_marked.new.circuit.primitives) ≡ length c.step_marked.new.circuit.primitives = length-map c.step_marked.new.circuit.primitives g.P.Primitive.behaviour in
    let marks : length made_round.marks ≡ length now.primitives = flowed.one_each ∙ before in
    let shape = c.step_marked.ensures.shape in
    let unsettled = marked_unsettled net c.known.ensures.wired c.order-order.result.now c.order-order.ensures c.self.inside.knots old.3.are_knots (c.self.inside.rounds + 1)
    made_round.colouring.rows made_round.colouring.items is_made.first c.self.inside.kept old.3.is_kept made_round.marks flowed
    c.unsettle_between.new.self c.unsettle_moving.new.self
    (between_going g.P.Primitive.behaviour g.P.Primitive.lasting c.self.inside.circuit c.self.inside.goers c.self.invariant.6 made_round.marks c.note.new.self.going c.note.ensures.going
    c.self.inside.knots c.self.inside.kept c.unsettle_between.new.self c.unsettle_between.ensures) c.unsettle_moving.ensures in
    let moving = moving_again c.unsettle_between.new.self c.unsettle_moving.new.self c.unsettle_moving.ensures in
    let stay = flows_stay net other c.self.inside.knots c.self.inside.kept c.unsettle_moving.new.self unsettled.fewer
    (round_elsewhere g.P.Primitive.behaviour now c.step_marked.new.circuit made_round.marks shape others marks c.self.inside.knots c.self.inside.kept c.unsettle_moving.new.self c.unsettle_moving.new.self
    unsettled moving) c.self.inside.flows old.5 in
    let count : length c.step_marked.new.items ≡ length c.step_marked.new.circuit.joints =
    c.step_marked.ensures.items.count ∙ is_made.first.colouring.one_each ∙ ap (λ (js : List Joint). length js) (sym shape.joints) in (
      omega (arith, few),
      ap (λ (xs : List Bool). length xs) c.replace.ensures.after ∙ marks ∙ sym before ∙ sym shape.primitives.count ∙ after,
      search rules,
      round_made g.P.Primitive.behaviour now c.step_marked.new.circuit made_round.marks c.known.ensures.wired c.known-2.ensures.wired shape others marks
          c.self.inside.rounds c.self.inside.knots c.self.inside.ends c.self.inside.kept c.unsettle_moving.new.self c.unsettle_moving.new.self old.3 unsettled moving,
      round_held g.P.Primitive.behaviour now c.step_marked.new.circuit made_round.marks c.known.ensures.wired shape others marks
          c.self.inside.knots old.3.are_knots c.self.inside.kept c.unsettle_moving.new.self c.unsettle_moving.new.self c.self.inside.lookups old.4 unsettled moving
          (round_treats g.P.Primitive.behaviour g.P.Primitive.settled g.met.P.Primitive.settled_alike now c.step_marked.new.circuit made_round.colouring.rows made_round.colouring.items step),
      record {
        blank = subst (λ n. AreBlank n c.cleared.result) count c.cleared.ensures;
        rows = same ∙ sym unsettled.fewer.rows;
        marks = ap (λ (xs : List Bool). length xs) c.replace.ensures.value ∙ old.1 ∙ sym before ∙ sym shape.primitives.count;
        one_each = old.5.one_each;
        cells = stay.cells;
        shown = stay.shown;
        feeds = stay.feeds;
      },
      goers_stay g.P.Primitive.behaviour g.P.Primitive.lasting now.primitives c.step_marked.new.circuit.primitives c.self.inside.goers c.note.new.self old.6
          (ap (λ (w : Wiring g.row.P.Denot). map (is_keeper g.P.Primitive.behaviour g.P.Primitive.lasting) w.primitives) step
          ∙ map_settled (is_keeper g.P.Primitive.behaviour g.P.Primitive.lasting) g.P.Primitive.settled (λ p r t. keeper_stays g.P.Primitive.behaviour g.P.Primitive.lasting p (g.P.Primitive.settled p r t) (g.met.P.Primitive.settled_shape p r t) (g.met.P.Primitive.settled_lasting p r t)) now.primitives _ _)
          c.note.ensures.keepers (c.note.ensures.going.one_each ∙ marks ∙ sym old.6.one_each),
    )

pub returns-clause-settled : goal.returns-clause-settled
returns-clause-settled g c =
    let old = c.self.invariant in
    let net : Net = net_of g.P.Primitive.behaviour c.self.inside.circuit in
    let is_made = rw (← c.self.view_is) at c.requires.is_made in
    let made_round = c.args.made_round in
    let unsettled = marked_unsettled net c.known.ensures.wired c.order-order.result.now c.order-order.ensures c.self.inside.knots old.3.are_knots (c.self.inside.rounds + 1)
    made_round.colouring.rows made_round.colouring.items is_made.first c.self.inside.kept old.3.is_kept made_round.marks is_made.marks
    c.unsettle_between.new.self c.unsettle_moving.new.self
    (between_going g.P.Primitive.behaviour g.P.Primitive.lasting c.self.inside.circuit c.self.inside.goers c.self.invariant.6 made_round.marks c.note.new.self.going c.note.ensures.going
    c.self.inside.knots c.self.inside.kept c.unsettle_between.new.self c.unsettle_between.ensures) c.unsettle_moving.ensures in
    rw (← c.self.view_is, c.replace.ensures.after) (stay_settled net c.self.inside.knots made_round.marks c.self.inside.kept c.unsettle_moving.new.self c.unsettle_moving.new.self
    unsettled (moving_again c.unsettle_between.new.self c.unsettle_moving.new.self c.unsettle_moving.ensures))
