use Rattle.std.proofs.Common.{ℕ, Bool, arith}
use Rattle.reo_net_base.specs.Net.{Net, net_of}
use Rattle.reo_joint_values.specs.Values.{Names}
use Rattle.reo_search.specs.choices.KnotSearch.{inside_of, names_in}
use Rattle.reo_search.proofs.choices.Matched.{better_with}
use Rattle.reo_search.proofs.choices.Keeping.{none_kept, open_kept, some_kept}
use Rattle.reo_search.proofs.choices.trying.try_front.Goals as goal

pub returns-in_err-done-in-Some-clause-ticks : goal.returns-in_err-done-in-Some-clause-ticks
returns-in_err-done-in-Some-clause-ticks g c =
    let net : Net = net_of g.P.Primitive.behaviour c.args.searched.now.basis.now.circuit.now in
    let names : Names = names_in c.args.searched.now in
    let inside : ℕ → Bool = inside_of c.args.searched.now in
    let all = rw (c.in-Some.is) at c.in_ok-kept_of.ensures in
    let some = some_kept net names inside c.args.searched.now.loops.now c.args.codes.now c.requires.searched.loops_are c.narrow_to.new.state.alive c.in_ok-narrow_to.ensures.left c.args.left.now c.requires.front.cover c.requires.front.one_each c.in-Some.kept all in
    omega (arith, some, c.decides.ensures.ticks)

pub returns-in-None-clause-found : goal.returns-in-None-clause-found
returns-in-None-clause-found g c =
    let net : Net = net_of g.P.Primitive.behaviour c.args.searched.now.basis.now.circuit.now in
    let names : Names = names_in c.args.searched.now in
    let inside : ℕ → Bool = inside_of c.args.searched.now in
    let empty = rw (c.in-None.is) at c.in_ok-kept_of.ensures in
    none_kept net names inside c.args.searched.now.loops.now c.args.codes.now c.requires.searched.loops_are c.narrow_to.new.state.alive c.in_ok-narrow_to.ensures.left c.args.left.now c.requires.front.cover empty c.args.searched.now.turn c.args.searched.now.places.now c.args.best.now

pub returns-then-done-clause-found : goal.returns-then-done-clause-found
returns-then-done-clause-found g c =
    let net : Net = net_of g.P.Primitive.behaviour c.args.searched.now.basis.now.circuit.now in
    let names : Names = names_in c.args.searched.now in
    let inside : ℕ → Bool = inside_of c.args.searched.now in
    better_with net names inside c.args.searched.now.loops.now c.args.codes.now c.narrow_to.new.state.alive c.in_ok-narrow_to.ensures.left c.args.searched.now.turn c.args.searched.now.places.now c.args.best.now c.decides.new.best
    (c.in_ok-done-in-Some.ensures.better c.if-done.true)

pub returns-then-done-clause-ticks : goal.returns-then-done-clause-ticks
returns-then-done-clause-ticks g c =
    let net : Net = net_of g.P.Primitive.behaviour c.args.searched.now.basis.now.circuit.now in
    let names : Names = names_in c.args.searched.now in
    let inside : ℕ → Bool = inside_of c.args.searched.now in
    let all = rw (c.in-Some.is) at c.in_ok-kept_of.ensures in
    let some = some_kept net names inside c.args.searched.now.loops.now c.args.codes.now c.requires.searched.loops_are c.narrow_to.new.state.alive c.in_ok-narrow_to.ensures.left c.args.left.now c.requires.front.cover c.requires.front.one_each c.in-Some.kept all in
    omega (arith, some, c.decides.ensures.ticks)

pub returns-else-done-clause-found : goal.returns-else-done-clause-found
returns-else-done-clause-found g c =
    let net : Net = net_of g.P.Primitive.behaviour c.args.searched.now.basis.now.circuit.now in
    let names : Names = names_in c.args.searched.now in
    let inside : ℕ → Bool = inside_of c.args.searched.now in
    let all = rw (c.in-Some.is) at c.in_ok-kept_of.ensures in
    let looked = c.in_ok-done-in-Some.ensures.looked c.if-done.false in
    let open_is = open_kept net names inside c.args.searched.now.loops.now c.args.codes.now c.requires.searched.loops_are c.narrow_to.new.state.alive c.in_ok-narrow_to.ensures.left c.args.left.now c.requires.front.cover c.requires.front.one_each c.in-Some.kept all in
    (looked.0, looked.1, open_is)
