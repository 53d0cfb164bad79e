use Rattle.std.proofs.Common.{◌≡◌, ℕ, Bool, true, false, inl, refl, sym, ◌∙◌}
use Rattle.reo_net_base.specs.Net.{Net, net_of}
use Rattle.reo_joint_values.specs.Values.{Names}
use Rattle.reo_joint_values.specs.Chosen.{IsChosen}
use Rattle.reo_rows.specs.Sets.{family_of}
use Rattle.reo_walk.proofs.Settling.{walked_first}
use Rattle.reo_search.specs.choices.KnotSearch.{inside_of, names_in}
use Rattle.reo_search.proofs.choices.Remains.{one_at_loops}
use Rattle.reo_search.proofs.choices.Bettering.{none_behind, better_kept}
use Rattle.reo_search.proofs.choices.Matched.{least_of}
use Rattle.reo_search.proofs.choices.trying.decides.Goals as goal

pub returns-then-not-is_before-clause-better : goal.returns-then-not-is_before-clause-better
returns-then-not-is_before-clause-better g c = λ _.
    let net : Net = net_of g.P.Primitive.behaviour c.args.searched.now.basis.now.circuit.now in
    let names : Names = names_in c.args.searched.now in
    let inside : ℕ → Bool = inside_of c.args.searched.now in
    let walked = rw (c.in-Some.is) at c.in_ok-walk.ensures.found in
    inl (refl, none_behind net c.args.searched.now.turn c.args.searched.now.places.now (IsChosen net names inside (family_of c.args.state.now.alive)) c.in-Some.chosen walked.settling.least c.args.best.now (λ before. let e : true ≡ false = sym (c.is_before.ensures.1 before) ∙ c.if-not-is_before.true in cc))

pub returns-else-not-have_one-clause-better : goal.returns-else-not-have_one-clause-better
returns-else-not-have_one-clause-better g c = λ _.
    let net : Net = net_of g.P.Primitive.behaviour c.args.searched.now.basis.now.circuit.now in
    let names : Names = names_in c.args.searched.now in
    let inside : ℕ → Bool = inside_of c.args.searched.now in
    let walked = rw (c.in-Some.is) at c.in_ok-walk.ensures.found in
    let one = one_at_loops net inside c.walk.new.state.alive c.args.searched.now.loops.now c.requires.searched.loops_are (c.have_one.ensures c.if-not-have_one.false) in
    better_kept net c.args.searched.now.turn c.args.searched.now.places.now (IsChosen net names inside (family_of c.args.state.now.alive)) c.in-Some.chosen c.args.best.now c.keep.new.best
    (least_of net names inside c.args.searched.now.turn (family_of c.args.state.now.alive) c.args.searched.now.places.now c.in-Some.chosen
    (walked_first net names inside c.args.searched.now.turn (family_of c.args.state.now.alive) (family_of c.walk.new.state.alive) c.args.searched.now.places.now c.in-Some.chosen c.requires.searched.knot walked one))
    c.keep.ensures
