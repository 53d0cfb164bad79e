use Rattle.std.proofs.Common.{ℕ, Bool, List, ◌∙◌, subst}
use Rattle.reo_values.specs.declared.value.Value.{Value}
use Rattle.reo_net_base.specs.Net.{Net, net_of}
use Rattle.reo_rows.specs.Sets.{names_of}
use Rattle.reo_propagate.specs.Queues.{among}
use Rattle.reo_propagate.specs.ListedSets.{listed, AreLeft}
use Rattle.reo_propagate.proofs.Narrowed.{lists_greatest, lists_other, lists_full}
use Rattle.reo_propagate.proofs.sets.narrow.Goals as goal

pub returns-clause-greatest : goal.returns-clause-greatest
returns-clause-greatest g c =
    let net : Net = net_of g.P.Primitive.behaviour c.args.circuit.now in
    let inside : ℕ → Bool = among c.args.sides.now in
    let left : AreLeft net (names_of c.args.supply.now.items) inside (listed c.args.sets.now.values) c.in_ok-alive.alive =
    subst (λ (x : List (List Value)). AreLeft net (names_of x) inside (listed c.args.sets.now.values) c.in_ok-alive.alive) c.lists.ensures c.in_ok-alive.ensures.left in
    lists_greatest net (names_of c.args.supply.now.items) inside c.requires.closed c.in_ok-alive.alive c.args.sets.now.values c.keep_sets.new.sets.values c.keep_sets.ensures.kept left

pub returns-clause-others : goal.returns-clause-others
returns-clause-others g c =
    lists_other (net_of g.P.Primitive.behaviour c.args.circuit.now) (among c.args.sides.now) c.in_ok-alive.alive c.args.sets.now.values c.keep_sets.new.sets.values c.requires.one_each
    c.keep_sets.ensures.kept

pub returns-clause-full : goal.returns-clause-full
returns-clause-full g c =
    let full = lists_full (net_of g.P.Primitive.behaviour c.args.circuit.now) (among c.args.sides.now) c.requires.closed c.keep_sets.new.sets.values (c.keep_sets.ensures.kept.one_each ∙ c.requires.one_each) in
    (λ t. full.0 (c.keep_sets.ensures.some.0 t), λ h. c.keep_sets.ensures.some.1 (full.1 h))
