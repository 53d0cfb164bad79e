use Rattle.std.proofs.Common.{◌≡◌, ◌<◌, ◌≤◌, ◌+◌, ℕ, subst, arith}
use Rattle.reo_net_base.specs.Net.{Net, net_of}
use Rattle.reo_net_laws.specs.Knots.{knot_count}
use Rattle.reo_settling.proofs.HeldTables.{AreRenewed, renewed_all, renewed_more, renewed_next, renewed_none}
use Rattle.reo_settling.proofs.renewing.renew.Goals as goal

pub loop-part-init : goal.loop-part-init
loop-part-init g c =
    let net : Net = net_of g.P.Primitive.behaviour c.args.planning.now.circuit.now in
    let next : ℕ = c.next_clear-part.result in
    let is = c.next_clear-part.ensures in
    let next_in : next ≤ knot_count c.args.planning.now.knots.now = omega (arith, is.in_range, c.requires.one_each) in
    record {
      in_range = is.in_range;
      far = renewed_next net c.args.planning.now.knots.now c.args.fresh.now 0 next c.args.tables.now next_in is (renewed_none net c.args.planning.now.knots.now c.args.fresh.now c.args.tables.now c.requires.tables);
    }

pub loop-part-preserved : goal.loop-part-preserved
loop-part-preserved g c =
    let net : Net = net_of g.P.Primitive.behaviour c.args.planning.now.circuit.now in
    let n : ℕ = c.loop-part.part in
    let lt : n < knot_count c.args.planning.now.knots.now = omega (arith, c.requires.one_each) in
    let more = renewed_more net c.args.planning.now.knots.now c.args.fresh.now n c.loop-part.tables c.renew_part.new.tables lt c.loop-part.invariant.far c.renew_part.ensures.room c.in_ok-renew_part.ensures.right c.renew_part.ensures.others in
    let next : ℕ = c.next_clear-part-in-loop-part.result in
    let is = c.next_clear-part-in-loop-part.ensures in
    let next_in : next ≤ knot_count c.args.planning.now.knots.now = omega (arith, is.in_range, c.requires.one_each) in
    record { in_range = is.in_range; far = renewed_next net c.args.planning.now.knots.now c.args.fresh.now (n + 1) next c.renew_part.new.tables next_in is more }

pub returns : goal.returns
returns g c =
    let net : Net = net_of g.P.Primitive.behaviour c.args.planning.now.circuit.now in
    let last : c.loop-part.part ≡ knot_count c.args.planning.now.knots.now = omega (arith, c.loop-part.invariant.in_range, c.requires.one_each) in
    renewed_all net c.known.ensures.wired c.args.planning.now.ends.now c.requires.planning.ends c.args.planning.now.knots.now c.requires.planning.knots c.args.fresh.now c.loop-part.tables
    (subst (λ (n : ℕ). AreRenewed net c.args.planning.now.knots.now c.args.fresh.now n c.loop-part.tables) last c.loop-part.invariant.far)
