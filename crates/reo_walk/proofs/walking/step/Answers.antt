use Rattle.std.proofs.Common.{◌≡◌, ℕ, Bool, true, false, not, refl}
use Rattle.reo_net_base.specs.Net.{Net, net_of}
use Rattle.reo_joint_values.specs.Values.{Names}
use Rattle.reo_rows.specs.Sets.{code_of, family_of, names_of}
use Rattle.reo_propagate.specs.Queues.{among}
use Rattle.reo_walk.specs.Places.{side_of_place}
use Rattle.reo_walk.proofs.Holding.{narrowed_held}
use Rattle.reo_walk.proofs.Resting.{rest_of, supported_of, none_of, stepped_to, stepped_alone}
use Rattle.reo_walk.proofs.walking.step.Goals as goal

not_false : (b : Bool) → not b ≡ false → b ≡ true
not_false true h = refl
not_false false h = cc

pub returns-in-None-clause-found : goal.returns-in-None-clause-found
returns-in-None-clause-found g c =
    let net : Net = net_of g.P.Primitive.behaviour c.args.basis.now.circuit.now in
    none_of net c.known.ensures.wired (names_of c.args.basis.now.items.now) (among c.args.sides.now) c.args.turn c.args.place (family_of c.args.state.now.alive) c.args.state.now.rows c.requires.inside
    (c.requires.search.tended.works (side_of_place c.args.place) c.requires.inside) c.in-None.ensures

pub returns-in_ok-propagate-in-Some-clause-found : goal.returns-in_ok-propagate-in-Some-clause-found
returns-in_ok-propagate-in-Some-clause-found g c =
    let net : Net = net_of g.P.Primitive.behaviour c.args.basis.now.circuit.now in
    let names : Names = names_of c.args.basis.now.items.now in
    let inside : ℕ → Bool = among c.args.sides.now in
    let side : ℕ = side_of_place c.args.place in
    let side_lt = c.requires.sides side c.requires.inside in
    let search = c.requires.search in
    let rest = rest_of net names inside c.args.state.now.alive c.args.state.now.rows c.args.state.now.queue search.tended c.requires.empty side c.requires.inside side_lt in
    let after = c.in_ok-propagate-in-Some.ensures in
    stepped_to net c.known.ensures.wired names inside c.args.turn c.args.place (family_of c.args.state.now.alive) c.args.state.now.rows c.requires.inside c.in-Some.least c.in-Some.ensures rest side_lt (search.tables.width side side_lt) (family_of c.propagate.new.state.alive)
    (narrowed_held net names inside c.args.place c.in-Some.least.row c.args.state.now.alive c.hold.new.state.alive (family_of c.propagate.new.state.alive) c.in_ok-hold-in-Some.ensures.held after.reduced.narrowed)
    (λ j v h. c.in_ok-hold-in-Some.ensures.held.within j v (after.reduced.less j (code_of v) h))
    (supported_of net names inside c.propagate.new.state.alive c.propagate.new.state.rows c.propagate.new.state.queue after.search.tended after.empty c.requires.sides)

pub returns-else-not-least-clause-found : goal.returns-else-not-least-clause-found
returns-else-not-least-clause-found g c =
    let net : Net = net_of g.P.Primitive.behaviour c.args.basis.now.circuit.now in
    let names : Names = names_of c.args.basis.now.items.now in
    let inside : ℕ → Bool = among c.args.sides.now in
    let side : ℕ = side_of_place c.args.place in
    let side_lt = c.requires.sides side c.requires.inside in
    let search = c.requires.search in
    let rest = rest_of net names inside c.args.state.now.alive c.args.state.now.rows c.args.state.now.queue search.tended c.requires.empty side c.requires.inside side_lt in
    stepped_alone net c.known.ensures.wired names inside c.args.turn c.args.place (family_of c.args.state.now.alive) c.args.state.now.rows c.requires.inside c.in-Some.least c.in-Some.ensures rest side_lt (search.tables.width side side_lt) (not_false c.in-Some.least.alone c.if-not-least.false) (supported_of net names inside c.args.state.now.alive c.args.state.now.rows c.args.state.now.queue search.tended c.requires.empty c.requires.sides)
