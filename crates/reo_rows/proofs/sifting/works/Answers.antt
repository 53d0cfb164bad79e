use Rattle.std.proofs.lemmas.Bool.{both_ways}
use Rattle.reo_net_base.specs.Net.{net_of}
use Rattle.reo_rows.specs.Sets.{family_of, names_of}
use Rattle.reo_rows.proofs.Working.{works_stands}
use Rattle.reo_rows.proofs.sifting.works.Goals as goal

pub returns-then-marks_stand : goal.returns-then-marks_stand
returns-then-marks_stand g c =
    let both = works_stands (net_of g.P.Primitive.behaviour c.args.basis.now.circuit.now) c.known.ensures.wired (names_of c.args.basis.now.items.now) (family_of c.args.alive.now) c.args.side c.args.row in
    (λ h. both.1 (c.requires.row, (c.marks_stand.ensures.0 c.if-marks_stand.true, c.flows_stand.ensures.0 h)), λ works. c.flows_stand.ensures.1 (both.0 works).1.1)

pub returns-else-marks_stand : goal.returns-else-marks_stand
returns-else-marks_stand g c =
    let both = works_stands (net_of g.P.Primitive.behaviour c.args.basis.now.circuit.now) c.known.ensures.wired (names_of c.args.basis.now.items.now) (family_of c.args.alive.now) c.args.side c.args.row in
    (λ h. absurd (both_ways c.marks_stand.result c.if-marks_stand.false h), λ works. c.marks_stand.ensures.1 (both.0 works).1.0)
