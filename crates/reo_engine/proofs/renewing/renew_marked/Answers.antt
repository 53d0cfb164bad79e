use Rattle.std.proofs.Common.{◌∙◌, ℕ, List, length, ap, sym, subst, arith}
use Rattle.std.specs.Prelude.{Some}
use Rattle.reo_net_base.specs.Net.{Net, net_of}
use Rattle.reo_net_base.specs.Colouring.{IsColouring}
use Rattle.reo_engine.specs.Flows.{AreFlaggedShown, MayBeRows}
use Rattle.reo_engine.proofs.FlowsLemmas.{all_renewed, all_shown, all_written, flows_unshown, flows_shown, served_settled}
use Rattle.reo_engine.proofs.renewing.renew_marked.Goals as goal

pub flag_shown-requires : goal.flag_shown-requires
flag_shown-requires g c = omega (arith, c.requires.flows.one_each, c.requires.kept.sizes.one_each)

pub returns-in_err-older-clause-flows : goal.returns-in_err-older-clause-flows
returns-in_err-older-clause-flows g c = flows_unshown (net_of g.P.Primitive.behaviour c.args.planning.now.circuit.now) c.args.planning.now.knots.now c.args.kept.now c.renew.new.kept c.args.flows.now c.flag_shown.new.parts c.renew.new.list
    c.requires.flows c.flag_shown.ensures.one_each (subst (MayBeRows c.renew.new.kept.rows) (sym c.renew.ensures.list) tt)

pub show_rest-requires-clause-coloured : goal.show_rest-requires-clause-coloured
show_rest-requires-clause-coloured g c =
    let net : Net = net_of g.P.Primitive.behaviour c.args.planning.now.circuit.now in
    let renewed = all_renewed c.args.planning.now.budget net c.known.ensures.wired c.args.planning.now.knots.now c.requires.planning.knots c.args.planning.now.turn c.renew.new.kept c.renew.ensures.kept c.in_ok-older.ensures.exact in
    record {
      items = renewed.first.items;
      colouring = subst (λ (rows : List ℕ). IsColouring net rows renewed.first.items) (sym c.rows.ensures) renewed.first.first.colouring;
    }

pub show_rest-requires-clause-one_each : goal.show_rest-requires-clause-one_each
show_rest-requires-clause-one_each g c = c.flag_shown.ensures.one_each ∙ c.requires.flows.one_each

pub show_rest-requires-clause-one_row : goal.show_rest-requires-clause-one_row
show_rest-requires-clause-one_row g c =
    let before = ap (λ (xs : List ℕ). length xs) c.in_ok-older.ensures.before in
    let rows = ap (λ (xs : List ℕ). length xs) c.rows.ensures in
    before ∙ c.requires.kept.sizes.one_row ∙ sym c.renew.ensures.kept.sizes.one_row ∙ sym rows

pub returns-clause-shown : goal.returns-clause-shown
returns-clause-shown g c =
    let net : Net = net_of g.P.Primitive.behaviour c.args.planning.now.circuit.now in
    let each = subst (λ (n : ℕ). AreFlaggedShown c.args.flows.now.shown c.args.kept.now n c.flag_shown.new.parts) c.requires.flows.one_each c.flag_shown.ensures in
    all_shown net c.known.ensures.wired c.order-order.result.now c.order-order.ensures c.args.planning.now.knots.now c.requires.planning.knots c.args.planning.now.turn c.args.kept.now c.renew.new.kept c.requires.kept c.renew.ensures.kept
    (served_settled c.renew.new.kept c.args.planning.now.budget _ c.in_ok-older.ensures.exact) c.args.flows.now c.requires.flows c.flag_shown.new.parts each
    c.show_rest.new.cells (rw c.rows.ensures at c.show_rest.ensures.shown)

pub returns-clause-flows : goal.returns-clause-flows
returns-clause-flows g c =
    let net : Net = net_of g.P.Primitive.behaviour c.args.planning.now.circuit.now in
    let each = subst (λ (n : ℕ). AreFlaggedShown c.args.flows.now.shown c.args.kept.now n c.flag_shown.new.parts) c.requires.flows.one_each c.flag_shown.ensures in
    let rows = all_written net c.known.ensures.wired c.order-order.result.now c.order-order.ensures c.args.planning.now.knots.now c.requires.planning.knots c.args.planning.now.turn c.args.kept.now c.renew.new.kept c.requires.kept c.renew.ensures.kept
    (served_settled c.renew.new.kept c.args.planning.now.budget _ c.in_ok-older.ensures.exact) c.args.flows.now c.requires.flows c.flag_shown.new.parts each
    c.in_ok-older.older c.show_rest.new.list c.in_ok-older.ensures.before (rw c.rows.ensures at c.show_rest.ensures.written) in
    flows_shown net c.args.planning.now.knots.now c.args.kept.now c.renew.new.kept c.args.flows.now c.flag_shown.new.parts (Some c.show_rest.new.list)
    c.show_rest.new.cells c.requires.flows c.flag_shown.ensures.one_each rows c.show_rest.ensures.cells (returns-clause-shown g c)

pub returns-clause-exact : goal.returns-clause-exact
returns-clause-exact g c = all_renewed c.args.planning.now.budget (net_of g.P.Primitive.behaviour c.args.planning.now.circuit.now) c.known.ensures.wired c.args.planning.now.knots.now c.requires.planning.knots c.args.planning.now.turn
    c.renew.new.kept c.renew.ensures.kept c.in_ok-older.ensures.exact

pub renew-requires-clause-list : goal.renew-requires-clause-list
renew-requires-clause-list g c = c.requires.flows.rows
