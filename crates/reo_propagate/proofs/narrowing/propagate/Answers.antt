use Rattle.std.proofs.Common.{ℕ, Bool}
use Rattle.reo_net_base.specs.Net.{Net, net_of}
use Rattle.reo_joint_values.specs.Values.{Names}
use Rattle.reo_joint_values.proofs.Narrowing.{narrowed_whole}
use Rattle.reo_rows.specs.Sets.{family_of, names_of}
use Rattle.reo_propagate.specs.Queues.{among}
use Rattle.reo_propagate.proofs.Tending.{next_inside, tended_next, tended_supported}
use Rattle.reo_propagate.proofs.Revising.{ready_alike, reduced_twice, reduced_side}
use Rattle.reo_propagate.proofs.narrowing.propagate.Goals as goal

pub revise-requires-clause-tended : goal.revise-requires-clause-tended
revise-requires-clause-tended g c =
    let net : Net = net_of g.P.Primitive.behaviour c.args.basis.now.circuit.now in
    let names : Names = names_of c.args.basis.now.items.now in
    let inside : ℕ → Bool = among c.args.sides.now in
    let is = next_inside net names inside c.loop-side.state.alive c.loop-side.state.rows c.loop-side.state.queue c.next.new.self c.in-Some.side c.in-Some.ensures c.loop-side.invariant.search.tended in
    tended_next net names inside c.loop-side.state.alive c.loop-side.state.rows c.loop-side.state.queue c.next.new.self c.in-Some.side c.in-Some.ensures c.loop-side.invariant.search.tended
    (c.requires.sides c.in-Some.side is)

pub returns-in_err-revise-clause-reduced : goal.returns-in_err-revise-clause-reduced
returns-in_err-revise-clause-reduced g c =
    let net : Net = net_of g.P.Primitive.behaviour c.args.basis.now.circuit.now in
    let names : Names = names_of c.args.basis.now.items.now in
    let inside : ℕ → Bool = among c.args.sides.now in
    let is = next_inside net names inside c.loop-side.state.alive c.loop-side.state.rows c.loop-side.state.queue c.next.new.self c.in-Some.side c.in-Some.ensures c.loop-side.invariant.search.tended in
    reduced_twice net names inside c.args.state.now.alive c.loop-side.state.alive c.revise.new.state.alive c.loop-side.invariant.reduced
    (reduced_side net names inside c.in-Some.side c.loop-side.state.alive c.revise.new.state.alive is c.loop-side.invariant.search.ready.one_set c.revise.ensures.revised)

pub loop-side-preserved : goal.loop-side-preserved
loop-side-preserved g c =
    let net : Net = net_of g.P.Primitive.behaviour c.args.basis.now.circuit.now in
    let names : Names = names_of c.args.basis.now.items.now in
    let inside : ℕ → Bool = among c.args.sides.now in
    let is = next_inside net names inside c.loop-side.state.alive c.loop-side.state.rows c.loop-side.state.queue c.next.new.self c.in-Some.side c.in-Some.ensures c.loop-side.invariant.search.tended in
    record {
      reduced = reduced_twice net names inside c.args.state.now.alive c.loop-side.state.alive c.revise.new.state.alive c.loop-side.invariant.reduced
          (reduced_side net names inside c.in-Some.side c.loop-side.state.alive c.revise.new.state.alive is c.loop-side.invariant.search.ready.one_set c.revise.ensures.revised);
      search = record {
        ready = ready_alike net c.args.basis.now.boards.now c.args.basis.now.ends.now c.args.basis.now.items.now c.loop-side.state.alive c.revise.new.state.alive c.revise.ensures.revised.alike c.loop-side.invariant.search.ready;
        tables = c.revise.ensures.tables;
        tended = c.in_ok-revise.ensures.tended;
      };
    }

pub returns-clause-greatest : goal.returns-clause-greatest
returns-clause-greatest g c =
    let net : Net = net_of g.P.Primitive.behaviour c.args.basis.now.circuit.now in
    let names : Names = names_of c.args.basis.now.items.now in
    let inside : ℕ → Bool = among c.args.sides.now in
    let supported = tended_supported net names inside c.loop-side.state.alive c.loop-side.state.rows c.loop-side.state.queue c.requires.sides c.in_default.ensures.0 c.loop-side.invariant.search.tended in
    narrowed_whole net names inside (family_of c.args.state.now.alive) (family_of c.loop-side.state.alive) c.loop-side.invariant.reduced.narrowed supported
