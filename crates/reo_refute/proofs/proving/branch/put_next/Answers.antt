use Rattle.std.proofs.Common.{◌<◌, ◌^◌, cond, [], length, ap, arith}
use Rattle.reo_net_base.specs.Net.{Net, net_of}
use Rattle.reo_net_base.specs.Sides.{side_count}
use Rattle.reo_refute_base.specs.Places.{IsAllowed}
use Rattle.reo_refute_base.specs.Texts.{IsNumbered}
use Rattle.reo_refute_live.specs.OpenBranch.{open_in}
use Rattle.reo_refute_live.specs.support.Families.{family_of}
use Rattle.reo_refute.specs.next.Next.{LeadsOn, IsSettled}
use Rattle.reo_refute.proofs.proving.Numbers.{part_of, line_numbered}
use Rattle.reo_refute.proofs.proving.Writing.{line_made}
use Rattle.reo_refute.proofs.proving.branch.put_next.Goals as goal

pub put_line-requires : goal.put_line-requires
put_line-requires g c =
    let net : Net = net_of g.P.Primitive.behaviour c.args.judged.now.circuit.now in
    let leads : LeadsOn net c.args.judged.now.lists.now (IsAllowed net c.args.judged.now.turn c.args.judged.now.given.now c.args.judged.now.number) (family_of c.args.scratch.now.live.table) c.in-Some.line = rw c.in-Some.is at c.in_ok-line.ensures in
    let sides : side_count net < 2 ^ 63 = omega (arith, c.requires.judged.tables.one_each, c.count_sides-sides.ensures.count, c.count_sides-sides.ensures.small, ap (λ l. length l) c.as_slice.ensures) in
    let numbered : IsNumbered c.in-Some.line = line_numbered net c.known.ensures.wired c.args.judged.now.lists.now c.requires.few c.known.ensures.few_joints sides (IsAllowed net c.args.judged.now.turn c.args.judged.now.given.now c.args.judged.now.number) (family_of c.args.scratch.now.live.table)
    (part_of c.args.judged.now.lists.now c.args.scratch.now.live.table c.requires.open.kept.live) c.in-Some.line leads in
    numbered

pub returns-in_ok-note-in-Some-clause-made : goal.returns-in_ok-note-in-Some-clause-made
returns-in_ok-note-in-Some-clause-made g c =
    let net : Net = net_of g.P.Primitive.behaviour c.args.judged.now.circuit.now in
    let leads : LeadsOn net c.args.judged.now.lists.now (IsAllowed net c.args.judged.now.turn c.args.judged.now.given.now c.args.judged.now.number) (family_of c.args.scratch.now.live.table) c.in-Some.line = rw c.in-Some.is at c.in_ok-line.ensures in
    let sides : side_count net < 2 ^ 63 = omega (arith, c.requires.judged.tables.one_each, c.count_sides-sides.ensures.count, c.count_sides-sides.ensures.small, ap (λ l. length l) c.as_slice.ensures) in
    let numbered : IsNumbered c.in-Some.line = line_numbered net c.known.ensures.wired c.args.judged.now.lists.now c.requires.few c.known.ensures.few_joints sides (IsAllowed net c.args.judged.now.turn c.args.judged.now.given.now c.args.judged.now.number) (family_of c.args.scratch.now.live.table)
    (part_of c.args.judged.now.lists.now c.args.scratch.now.live.table c.requires.open.kept.live) c.in-Some.line leads in
    line_made net c.args.judged.now.lists.now (IsAllowed net c.args.judged.now.turn c.args.judged.now.given.now c.args.judged.now.number) (open_in c.args.scratch.now.live) (cond c.in_ok-more-in-Some.more (open_in c.go_on.new.live) []) c.args.scratch.now.whole c.put_line.new.out c.in-Some.line numbered
    c.in_ok-put_line-in-Some.ensures c.in_ok-more-in-Some.ensures.leads

pub returns-in-None-clause-closed : goal.returns-in-None-clause-closed
returns-in-None-clause-closed g c =
    let net : Net = net_of g.P.Primitive.behaviour c.args.judged.now.circuit.now in
    let settled : IsSettled net c.args.judged.now.lists.now (IsAllowed net c.args.judged.now.turn c.args.judged.now.given.now c.args.judged.now.number) (family_of c.args.scratch.now.live.table) = rw c.in-None.is at c.in_ok-line.ensures in
    absurd (c.requires.never (family_of c.args.scratch.now.live.table) (part_of c.args.judged.now.lists.now c.args.scratch.now.live.table c.requires.open.kept.live) settled)

pub returns-in-None-clause-made : goal.returns-in-None-clause-made
returns-in-None-clause-made g c =
    let net : Net = net_of g.P.Primitive.behaviour c.args.judged.now.circuit.now in
    let settled : IsSettled net c.args.judged.now.lists.now (IsAllowed net c.args.judged.now.turn c.args.judged.now.given.now c.args.judged.now.number) (family_of c.args.scratch.now.live.table) = rw c.in-None.is at c.in_ok-line.ensures in
    absurd (c.requires.never (family_of c.args.scratch.now.live.table) (part_of c.args.judged.now.lists.now c.args.scratch.now.live.table c.requires.open.kept.live) settled)
