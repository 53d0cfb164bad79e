use Rattle.std.proofs.Common.{◌≡◌, ◌∙◌, ℕ, List, length, get_or, subst, arith}
use Rattle.std.proofs.lemmas.List.{get_or_default}
use Rattle.reo_net_base.specs.Net.{Net, net_of}
use Rattle.reo_joint_values.specs.Values.{Names, Family}
use Rattle.reo_rows.specs.Seeing.{AreSeen, Below, TakesUse, AloneUse}
use Rattle.reo_rows.specs.Flowing.{names_in, family_in}
use Rattle.reo_rows.proofs.Union.{seen_more}
use Rattle.reo_rows.proofs.Used.{seen_row}
use Rattle.reo_rows.proofs.seeing.see_row.Goals as goal

pub loop-index-preserved : goal.loop-index-preserved
loop-index-preserved g c =
    let net : Net = net_of g.P.Primitive.behaviour c.args.flowing.now.basis.now.circuit.now in
    let names : Names = names_in c.args.flowing.now in
    let family : Family = family_in c.args.flowing.now in
    let list : List ℕ = c.args.flowing.now.flow.now.taking in
    let is : c.at-source.result.now ≡ get_or list c.loop-index.index 0 = c.at-source.ensures ∙ get_or_default list c.loop-index.index c.at-source.result.now 0 (omega arith) in
    seen_more (λ m. TakesUse net names family c.args.flowing.now.side c.args.flowing.now.row (get_or list m 0)) c.loop-index.index c.args.seen.now c.loop-index.seen c.see_takes.new.seen c.loop-index.invariant
    (subst (λ (s : ℕ). AreSeen (TakesUse net names family c.args.flowing.now.side c.args.flowing.now.row s) c.loop-index.seen c.see_takes.new.seen) is c.see_takes.ensures)

pub loop-index-2-preserved : goal.loop-index-2-preserved
loop-index-2-preserved g c =
    let net : Net = net_of g.P.Primitive.behaviour c.args.flowing.now.basis.now.circuit.now in
    let names : Names = names_in c.args.flowing.now in
    let family : Family = family_in c.args.flowing.now in
    let list : List ℕ = c.args.flowing.now.flow.now.giving in
    let is : c.at-joint.result.now ≡ get_or list c.loop-index-2.index 0 = c.at-joint.ensures ∙ get_or_default list c.loop-index-2.index c.at-joint.result.now 0 (omega arith) in
    seen_more (λ m. AloneUse net names family c.args.flowing.now.row (get_or list m 0)) c.loop-index-2.index c.loop-index.seen c.loop-index-2.seen c.see_alone.new.seen c.loop-index-2.invariant
    (subst (λ (s : ℕ). AreSeen (AloneUse net names family c.args.flowing.now.row s) c.loop-index-2.seen c.see_alone.new.seen) is c.see_alone.ensures)

pub returns : goal.returns
returns g c =
    let net : Net = net_of g.P.Primitive.behaviour c.args.flowing.now.basis.now.circuit.now in
    let names : Names = names_in c.args.flowing.now in
    let family : Family = family_in c.args.flowing.now in
    let taken : c.loop-index.index ≡ length c.args.flowing.now.flow.now.taking = omega arith in
    let given : c.loop-index-2.index ≡ length c.args.flowing.now.flow.now.giving = omega arith in
    seen_row net c.known.ensures.wired names family c.args.flowing.now.side c.args.flowing.now.row c.requires.flowing.row c.args.flowing.now.flow.now c.requires.flowing.flow c.args.seen.now c.loop-index.seen c.loop-index-2.seen
    (subst (λ (n : ℕ). AreSeen (Below (λ m. TakesUse net names family c.args.flowing.now.side c.args.flowing.now.row (get_or c.args.flowing.now.flow.now.taking m 0)) n) c.args.seen.now c.loop-index.seen) taken c.loop-index.invariant)
    (subst (λ (n : ℕ). AreSeen (Below (λ m. AloneUse net names family c.args.flowing.now.row (get_or c.args.flowing.now.flow.now.giving m 0)) n) c.loop-index.seen c.loop-index-2.seen) given c.loop-index-2.invariant)
