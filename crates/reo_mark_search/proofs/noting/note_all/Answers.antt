use Rattle.std.proofs.Common.{◌≡◌, ◌∙◌, ℕ, Bool, List, length, subst, arith}
use Rattle.reo_net_base.specs.Net.{Net, net_of}
use Rattle.reo_net_laws.specs.Knots.{in_knot}
use Rattle.reo_mark_search.specs.Fitting.{AreOpenSides, AreReset}
use Rattle.reo_mark_search.proofs.Meeting.{noted_all, open_all, all_fits}
use Rattle.reo_mark_search.proofs.Parts.{side_below, side_listed, knot_below}
use Rattle.reo_mark_search.proofs.noting.note_all.Goals as goal

pub note_at-requires-clause-side : goal.note_at-requires-clause-side
note_at-requires-clause-side g c =
    side_below (net_of g.P.Primitive.behaviour c.args.circuit.now) c.args.knots.now c.requires.knots c.args.part c.requires.part c.sides-sides.result.now c.sides-sides.ensures c.loop-index.index (omega arith)

pub returns-clause-noted : goal.returns-clause-noted
returns-clause-noted g c = λ done.
    let net : Net = net_of g.P.Primitive.behaviour c.args.circuit.now in
    let inside : ℕ → Bool = in_knot c.args.knots.now.numbers c.args.part in
    let sides : List ℕ = c.sides-sides.result.now in
    let all : c.loop-index.index ≡ length sides = omega arith in
    noted_all net c.known.ensures.wired c.args.spots.now c.requires.spots inside (c.requires.knots.are_knots c.args.part c.requires.part).closed (knot_below net c.args.knots.now c.requires.knots c.args.part) sides
    (side_listed net c.args.knots.now c.requires.knots c.args.part c.requires.part sides c.sides-sides.ensures) c.loop-index.forms (c.loop-index.invariant.one_form ∙ c.requires.forms)
    (subst (λ (n : ℕ). AreOpenSides net sides n c.loop-index.forms) all c.loop-index.invariant.noted)

pub returns-clause-lets_in : goal.returns-clause-lets_in
returns-clause-lets_in g c = λ done.
    let net : Net = net_of g.P.Primitive.behaviour c.args.circuit.now in
    let inside : ℕ → Bool = in_knot c.args.knots.now.numbers c.args.part in
    let sides : List ℕ = c.sides-sides.result.now in
    let all : c.loop-index.index ≡ length sides = omega arith in
    open_all net c.known.ensures.wired c.args.spots.now c.requires.spots inside (c.requires.knots.are_knots c.args.part c.requires.part).closed (knot_below net c.args.knots.now c.requires.knots c.args.part) sides
    (side_listed net c.args.knots.now c.requires.knots c.args.part c.requires.part sides c.sides-sides.ensures) c.loop-index.forms
    (subst (λ (n : ℕ). AreOpenSides net sides n c.loop-index.forms) all c.loop-index.invariant.noted)

pub returns-clause-all : goal.returns-clause-all
returns-clause-all g c = λ done.
    let net : Net = net_of g.P.Primitive.behaviour c.args.circuit.now in
    let inside : ℕ → Bool = in_knot c.args.knots.now.numbers c.args.part in
    let sides : List ℕ = c.sides-sides.result.now in
    let all : c.loop-index.index ≡ length sides = omega arith in
    all_fits net c.known.ensures.wired c.args.spots.now c.requires.spots inside (c.requires.knots.are_knots c.args.part c.requires.part).closed (knot_below net c.args.knots.now c.requires.knots c.args.part) sides
    (side_listed net c.args.knots.now c.requires.knots c.args.part c.requires.part sides c.sides-sides.ensures) c.loop-index.sets
    (subst (λ (n : ℕ). AreReset net c.args.spots.now sides n c.loop-index.sets) all c.loop-index.invariant.reset)
