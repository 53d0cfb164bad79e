use Rattle.std.proofs.Common.{ℕ, Bool, List, Option, length, ap, subst, arith}
use Rattle.reo_net_base.specs.Net.{Net, net_of}
use Rattle.reo_joint_values.specs.Values.{Names}
use Rattle.reo_search.specs.choices.Trying.{HasCodes}
use Rattle.reo_search.specs.choices.Best.{IsBetter}
use Rattle.reo_search.specs.choices.KnotSearch.{inside_of, names_in}
use Rattle.reo_search.proofs.choices.Matched.{first_all, first_none}
use Rattle.reo_search.proofs.choices.choices.first_over.Goals as goal

pub returns-then-done-clause-first : goal.returns-then-done-clause-first
returns-then-done-clause-first g c =
    let net : Net = net_of g.P.Primitive.behaviour c.args.searched.now.basis.now.circuit.now in
    let names : Names = names_in c.args.searched.now in
    let inside : ℕ → Bool = inside_of c.args.searched.now in
    first_all net names inside c.args.searched.now.turn c.args.state.now.alive c.args.searched.now.places.now c.decides.new.best c.requires.left.of_all (c.in_ok-done.ensures.better c.if-done.true)

pub improve-requires-clause-front : goal.improve-requires-clause-front
improve-requires-clause-front g c = record {
  within = omega (arith, ap length c.new-codes.ensures);
  one_each = c.requires.left.one_each;
  cover = λ rows choice h. c.requires.left.cover rows choice h.chosen;
}

pub returns-clause-first : goal.returns-clause-first
returns-clause-first g c =
    let net : Net = net_of g.P.Primitive.behaviour c.args.searched.now.basis.now.circuit.now in
    let names : Names = names_in c.args.searched.now in
    let inside : ℕ → Bool = inside_of c.args.searched.now in
    let settled = (c.in_ok-done.ensures.looked c.if-done.false).0 in
    let better = subst (λ (o : Option (List ℕ)). IsBetter (HasCodes net names inside c.args.searched.now.loops.now c.new-codes.result) net c.args.searched.now.turn c.args.searched.now.places.now o c.improve.new.best) settled c.in_ok-improve.ensures.better in
    first_none net names inside c.args.searched.now.loops.now c.new-codes.result c.new-codes.ensures c.args.searched.now.turn c.args.searched.now.places.now c.improve.new.best better
