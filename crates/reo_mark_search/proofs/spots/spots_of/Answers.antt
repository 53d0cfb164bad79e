use Rattle.std.proofs.Common.{◌≡◌, ◌∙◌, length, ap, arith}
use Rattle.std.proofs.lemmas.List.{length-map}
use Rattle.reo_net_base.specs.Net.{Net, net_of}
use Rattle.reo_mark_search.proofs.Spotted.{noted_spots}
use Rattle.reo_mark_search.proofs.spots.spots_of.Goals as goal

pub returns : goal.returns
returns g c =
    let net : Net = net_of g.P.Primitive.behaviour c.args.circuit.now in
    let inv = c.loop-primitive.invariant in
    let count : length net.primitives ≡ length c.args.circuit.now.primitives = length-map c.args.circuit.now.primitives g.P.Primitive.behaviour in
    let seen = ap length c.primitives-primitive-end.ensures in
    let all : c.loop-primitive.primitive ≡ length net.primitives = omega (arith, count, seen) in
    noted_spots net c.known.ensures.wired c.args.ends.now c.requires.ends c.loop-primitive.made (inv.count ∙ all) (λ i lt. inv.one_each i (omega (arith, lt, all))) (λ i e lt. inv.each i e (omega (arith, lt, all)))
