use Rattle.std.proofs.Common.{◌≡◌, ◌-◌, ◌+◌, ℕ, [], get_or, sym, subst, arith}
use Rattle.reo_net_base.specs.Net.{Net, net_of}
use Rattle.reo_joint_values.specs.Values.{Names, Family}
use Rattle.reo_rows.specs.Sets.{family_of, names_of}
use Rattle.reo_rows.specs.Sifting.{AreSiftedFrom}
use Rattle.reo_rows.proofs.Sieve.{noted_rows, sifted_more}
use Rattle.reo_rows.proofs.sifting.sift.Goals as goal

pub sift_row-requires-clause-noted : goal.sift_row-requires-clause-noted
sift_row-requires-clause-noted g c =
    noted_rows (net_of g.P.Primitive.behaviour c.args.basis.now.circuit.now) c.args.basis.now.items.now c.loop-index.rows c.loop-index.invariant.tables c.args.side (c.width-count.result - c.loop-index.index) c.requires.side (get_or c.loop-index.rows.notes c.args.side []) c.loop-index.invariant.noted

pub loop-index-preserved : goal.loop-index-preserved
loop-index-preserved g c =
    let net : Net = net_of g.P.Primitive.behaviour c.args.basis.now.circuit.now in
    let names : Names = names_of c.args.basis.now.items.now in
    let family : Family = family_of c.args.alive.now in
    let n : ℕ = (c.width-count.result - 1) - c.loop-index.index in
    let before : c.width-count.result - c.loop-index.index ≡ n + 1 = omega arith in
    let after : c.width-count.result - (c.loop-index.index + 1) ≡ n = omega arith in
    let are = subst (λ (k : ℕ). AreSiftedFrom net c.args.basis.now.items.now names family c.args.side k c.args.rows.now c.loop-index.rows) before c.loop-index.invariant in
    subst (λ (k : ℕ). AreSiftedFrom net c.args.basis.now.items.now names family c.args.side k c.args.rows.now c.sift_row.new.rows) (sym after)
    (sifted_more net c.args.basis.now.items.now names family c.args.side n c.args.rows.now c.loop-index.rows c.sift_row.new.rows are c.sift_row.ensures)
