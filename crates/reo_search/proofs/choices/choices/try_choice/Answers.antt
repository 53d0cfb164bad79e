use Rattle.std.proofs.Common.{ℕ, Bool}
use Rattle.reo_net_base.specs.Net.{Net, net_of}
use Rattle.reo_joint_values.specs.Values.{Names}
use Rattle.reo_search.specs.choices.KnotSearch.{inside_of, names_in}
use Rattle.reo_search.proofs.choices.Matched.{one_alone, none_with, first_with}
use Rattle.reo_search.proofs.choices.choices.try_choice.Goals as goal

pub first_by-requires-clause-one : goal.first_by-requires-clause-one
first_by-requires-clause-one g c =
    let net : Net = net_of g.P.Primitive.behaviour c.args.searched.now.basis.now.circuit.now in
    let names : Names = names_in c.args.searched.now in
    let inside : ℕ → Bool = inside_of c.args.searched.now in
    one_alone net names inside c.args.searched.now.loops.now c.args.codes.now c.narrow_to.new.state.alive c.in_ok-narrow_to.ensures.left c.requires.searched.loops_are c.requires.codes

pub returns-in-None-clause-better : goal.returns-in-None-clause-better
returns-in-None-clause-better g c =
    let net : Net = net_of g.P.Primitive.behaviour c.args.searched.now.basis.now.circuit.now in
    let names : Names = names_in c.args.searched.now in
    let inside : ℕ → Bool = inside_of c.args.searched.now in
    let none = rw (c.in-None.is) at c.in_ok-first_by.ensures.first in
    none_with net names inside c.args.searched.now.loops.now c.args.codes.now c.narrow_to.new.state.alive c.in_ok-narrow_to.ensures.left c.args.searched.now.turn c.args.searched.now.places.now c.args.best.now none

pub returns-in-Some-clause-better : goal.returns-in-Some-clause-better
returns-in-Some-clause-better g c =
    let net : Net = net_of g.P.Primitive.behaviour c.args.searched.now.basis.now.circuit.now in
    let names : Names = names_in c.args.searched.now in
    let inside : ℕ → Bool = inside_of c.args.searched.now in
    let found = rw (c.in-Some.is) at c.in_ok-first_by.ensures.first in
    first_with net names inside c.args.searched.now.loops.now c.args.codes.now c.narrow_to.new.state.alive c.in_ok-narrow_to.ensures.left c.args.searched.now.turn c.args.searched.now.places.now c.in-Some.chosen c.args.best.now c.keep.new.best found c.keep.ensures
