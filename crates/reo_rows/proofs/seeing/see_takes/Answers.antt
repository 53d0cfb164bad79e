use Rattle.std.proofs.Common.{arith}
use Rattle.reo_net_base.specs.Net.{Net, net_of}
use Rattle.reo_joint_values.specs.Values.{Names, Family}
use Rattle.reo_rows.specs.Seeing.{TakenUse}
use Rattle.reo_rows.specs.Flowing.{names_in, family_in}
use Rattle.reo_rows.proofs.Union.{seen_more}
use Rattle.reo_rows.proofs.Used.{seen_takes}
use Rattle.reo_rows.proofs.seeing.see_takes.Goals as goal

pub loop-code-preserved : goal.loop-code-preserved
loop-code-preserved g c =
    let net : Net = net_of g.P.Primitive.behaviour c.args.flowing.now.basis.now.circuit.now in
    let names : Names = names_in c.args.flowing.now in
    let family : Family = family_in c.args.flowing.now in
    seen_more (TakenUse net names family c.args.flowing.now.side c.args.flowing.now.row c.args.source) c.loop-code.code c.args.seen.now c.loop-code.seen c.see_taken.new.seen c.loop-code.invariant c.see_taken.ensures

pub returns : goal.returns
returns g c =
    let net : Net = net_of g.P.Primitive.behaviour c.args.flowing.now.basis.now.circuit.now in
    let names : Names = names_in c.args.flowing.now in
    seen_takes net names c.args.flowing.now.alive.now c.args.flowing.now.side c.args.flowing.now.row c.args.source c.loop-code.code c.args.seen.now c.loop-code.seen (omega arith) c.loop-code.invariant
