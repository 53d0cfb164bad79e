use Rattle.std.proofs.Common.{ℕ, Bool}
use Rattle.reo_net_base.specs.Net.{Net, net_of}
use Rattle.reo_joint_values.specs.Values.{Names}
use Rattle.reo_search.specs.choices.KnotSearch.{inside_of, names_in}
use Rattle.reo_search.proofs.choices.Counted.{some_covered}
use Rattle.reo_search.proofs.Named.{some_chosen}
use Rattle.reo_search.proofs.searching.first_numbers.Goals as goal

pub first_over-requires-clause-some : goal.first_over-requires-clause-some
first_over-requires-clause-some g c =
    let net : Net = net_of g.P.Primitive.behaviour c.args.searched.now.basis.now.circuit.now in
    let names : Names = names_in c.args.searched.now in
    let inside : ℕ → Bool = inside_of c.args.searched.now in
    let a = some_chosen net c.known.ensures.wired names inside c.requires.searched.knot.closed c.requires.searched.sides_are in
    some_covered net names inside c.args.searched.now.loops.now c.args.left.now c.requires.left.cover c.requires.left.one_each a.rows a.choice a.chosen

pub unreachable-requires : goal.unreachable-requires
unreachable-requires g c =
    let net : Net = net_of g.P.Primitive.behaviour c.args.searched.now.basis.now.circuit.now in
    let names : Names = names_in c.args.searched.now in
    let inside : ℕ → Bool = inside_of c.args.searched.now in
    let a = some_chosen net c.known.ensures.wired names inside c.requires.searched.knot.closed c.requires.searched.sides_are in
    let none = rw (c.in-None.is) at c.in_ok-first_over.ensures.first in
    none a.rows a.choice a.chosen
