use Rattle.std.proofs.Common.{arith}
use Rattle.reo_net_base.specs.Net.{Net, net_of}
use Rattle.reo_refute_base.specs.Places.{IsAllowed}
use Rattle.std.proofs.lemmas.Bool.Decides.{nat_tests}
use Rattle.std.proofs.lemmas.List.{nil_from_length}
use Rattle.reo_refute.proofs.proving.Writing.{read_made}
use Rattle.reo_refute.proofs.proving.branch.is_branch.Goals as goal

pub returns-in-Ok-clause-made : goal.returns-in-Ok-clause-made
returns-in-Ok-clause-made g c =
    let net : Net = net_of g.P.Primitive.behaviour c.args.judged.now.circuit.now in
    λ done. read_made net c.args.judged.now.lists.now (IsAllowed net c.args.judged.now.turn c.args.judged.now.given.now c.args.judged.now.number) c.new-lines.result c.check_part.new.lines c.args.text.now c.new-lines.ensures.left
    (nil_from_length c.check_part.new.lines.left (grind (arith, nat_tests, c.is_done.ensures, done))) c.in-Ok.ensures.part
