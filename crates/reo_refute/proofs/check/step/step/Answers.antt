use Rattle.std.proofs.Common.{◌≡◌, ◌∙◌, ◌<◌, true, false, length, sym, arith}
use Rattle.reo_values.proofs.Sequences.{nil_of}
use Rattle.reo_net_base.specs.Net.{Net, net_of}
use Rattle.reo_refute_base.specs.declared.line.LogLine.TheVariants.{At, Drop, Empty, Split}
use Rattle.reo_refute_base.specs.Live.{live_at}
use Rattle.reo_refute_base.specs.Places.{IsAllowed}
use Rattle.reo_refute_live.specs.support.Families.{family_of}
use Rattle.reo_refute.specs.check.Reading.{IsNext}
use Rattle.reo_refute.proofs.check.Stepping.{none_taken, at_taken, drop_stuck, empty_stuck, split_stuck, drop_read, empty_read, split_read}
use Rattle.reo_refute.proofs.check.step.step.Goals as goal
use Rattle.reo_refute.proofs.check.step.step.Goals.{then-joint-joint_count-via-then-joint-joint_count, then-joint-joint_count-via-else-joint-joint_count+then-has_live, then-joint-joint_count-2-via-then-joint-joint_count-2, then-joint-joint_count-2-via-else-joint-joint_count-2+then-not-has_live}

pub returns-then-not-branch-clause-step : goal.returns-then-not-branch-clause-step
returns-then-not-branch-clause-step g c =
    let net : Net = net_of g.P.Primitive.behaviour c.args.judged.now.circuit.now in
    let next : IsNext c.args.lines.now c.next.new.self (Drop c.in-Some-Drop.joint c.in-Some-Drop.value c.in-Some-Drop.side) = rw c.in-Some-Drop.field-0-is at c.in-Some-Drop.ensures in
    drop_stuck net c.args.judged.now.lists.now (IsAllowed net c.args.judged.now.turn c.args.judged.now.given.now c.args.judged.now.number) c.args.live.now c.args.live.now c.args.lines.now c.next.new.self
    c.in-Some-Drop.joint c.in-Some-Drop.value c.in-Some-Drop.side next
    (λ may. let wrong : false ≡ true = sym c.if-not-branch.true ∙ c.in_ok-may_go-in-Some-Drop.ensures.1 may in cc) c.wrong.result c.wrong.ensures

pub returns-in_ok-clear-in-Some-Drop-clause-step : goal.returns-in_ok-clear-in-Some-Drop-clause-step
returns-in_ok-clear-in-Some-Drop-clause-step g c =
    let net : Net = net_of g.P.Primitive.behaviour c.args.judged.now.circuit.now in
    let next : IsNext c.args.lines.now c.next.new.self (Drop c.in-Some-Drop.joint c.in-Some-Drop.value c.in-Some-Drop.side) = rw c.in-Some-Drop.field-0-is at c.in-Some-Drop.ensures in
    drop_read net c.args.judged.now.lists.now (IsAllowed net c.args.judged.now.turn c.args.judged.now.given.now c.args.judged.now.number) c.args.live.now c.clear.new.self c.args.lines.now c.next.new.self
    c.in-Some-Drop.joint c.in-Some-Drop.value c.in-Some-Drop.side next (c.in_ok-may_go-in-Some-Drop.ensures.0 c.if-not-branch.false) c.in_ok-clear-in-Some-Drop.ensures.gone c.in_ok-clear-in-Some-Drop.ensures.rest

pub returns-then-joint-joint_count-clause-step : goal.returns-then-joint-joint_count-clause-step
returns-then-joint-joint_count-clause-step g c =
    let net : Net = net_of g.P.Primitive.behaviour c.args.judged.now.circuit.now in
    let next : IsNext c.args.lines.now c.next.new.self (Empty c.in-Some-Empty.joint) = rw c.in-Some-Empty.field-0-is at c.in-Some-Empty.ensures in
    empty_stuck net c.args.judged.now.lists.now (IsAllowed net c.args.judged.now.turn c.args.judged.now.given.now c.args.judged.now.number) c.args.live.now c.args.live.now c.args.lines.now c.next.new.self
    c.in-Some-Empty.joint next
    (λ is. elim c.then-joint-joint_count.branch [
      | then-joint-joint_count-via-then-joint-joint_count w ↦ omega (arith, w.if-joint-joint_count.true, c.joint_count.ensures, is.in_range)
      | then-joint-joint_count-via-else-joint-joint_count+then-has_live w ↦ w.has_live.ensures.0 w.if-has_live.true is.none
    ]) c.wrong-then-joint-joint_count.result c.wrong-then-joint-joint_count.ensures

pub returns-in_ok-more-in-Some-Empty-clause-step : goal.returns-in_ok-more-in-Some-Empty-clause-step
returns-in_ok-more-in-Some-Empty-clause-step g c =
    let net : Net = net_of g.P.Primitive.behaviour c.args.judged.now.circuit.now in
    let next : IsNext c.args.lines.now c.next.new.self (Empty c.in-Some-Empty.joint) = rw c.in-Some-Empty.field-0-is at c.in-Some-Empty.ensures in
    let lt : c.in-Some-Empty.joint < length net.joints = omega (arith, c.if-joint-joint_count.false, c.joint_count.ensures) in
    empty_read net c.args.judged.now.lists.now (IsAllowed net c.args.judged.now.turn c.args.judged.now.given.now c.args.judged.now.number) c.args.live.now c.close.new.self c.args.lines.now c.next.new.self
    c.in-Some-Empty.joint next
    (record { in_range = lt; none = nil_of (live_at c.args.judged.now.lists.now (family_of c.args.live.now.table) c.in-Some-Empty.joint) (λ some. let wrong : false ≡ true = sym c.if-has_live.false ∙ c.has_live.ensures.1 some in cc) })
    c.in_ok-more-in-Some-Empty.more c.in_ok-more-in-Some-Empty.ensures.next

pub returns-then-joint-joint_count-2-clause-step : goal.returns-then-joint-joint_count-2-clause-step
returns-then-joint-joint_count-2-clause-step g c =
    let net : Net = net_of g.P.Primitive.behaviour c.args.judged.now.circuit.now in
    let next : IsNext c.args.lines.now c.next.new.self (Split c.in-Some-Split.joint) = rw c.in-Some-Split.field-0-is at c.in-Some-Split.ensures in
    split_stuck net c.args.judged.now.lists.now (IsAllowed net c.args.judged.now.turn c.args.judged.now.given.now c.args.judged.now.number) c.args.live.now c.args.live.now c.args.lines.now c.next.new.self
    c.in-Some-Split.joint next
    (λ may. elim c.then-joint-joint_count-2.branch [
      | then-joint-joint_count-2-via-then-joint-joint_count-2 w ↦ omega (arith, w.if-joint-joint_count-2.true, c.joint_count-in-Some-Split.ensures, may.in_range)
      | then-joint-joint_count-2-via-else-joint-joint_count-2+then-not-has_live w ↦ let wrong : false ≡ true = sym w.if-not-has_live.true ∙ w.has_live-else-joint-joint_count-2.ensures.1 may.some in cc
    ]) c.wrong-then-joint-joint_count-2.result c.wrong-then-joint-joint_count-2.ensures

pub returns-in_ok-split-in-Some-Split-clause-step : goal.returns-in_ok-split-in-Some-Split-clause-step
returns-in_ok-split-in-Some-Split-clause-step g c =
    let net : Net = net_of g.P.Primitive.behaviour c.args.judged.now.circuit.now in
    let next : IsNext c.args.lines.now c.next.new.self (Split c.in-Some-Split.joint) = rw c.in-Some-Split.field-0-is at c.in-Some-Split.ensures in
    let lt : c.in-Some-Split.joint < length net.joints = omega (arith, c.if-joint-joint_count-2.false, c.joint_count-in-Some-Split.ensures) in
    split_read net c.args.judged.now.lists.now (IsAllowed net c.args.judged.now.turn c.args.judged.now.given.now c.args.judged.now.number) c.args.live.now c.split.new.self c.args.lines.now c.next.new.self
    c.in-Some-Split.joint next (record { in_range = lt; some = c.has_live-else-joint-joint_count-2.ensures.0 c.if-not-has_live.false }) c.in_ok-split-in-Some-Split.ensures.branches

pub returns-in-None-clause-step : goal.returns-in-None-clause-step
returns-in-None-clause-step g c =
    let net : Net = net_of g.P.Primitive.behaviour c.args.judged.now.circuit.now in
    none_taken net c.args.judged.now.lists.now (IsAllowed net c.args.judged.now.turn c.args.judged.now.given.now c.args.judged.now.number) c.args.live.now c.args.live.now c.args.lines.now c.next.new.self c.in-None.ensures c.wrong-in-None.result c.wrong-in-None.ensures

pub returns-in-Some-At-clause-step : goal.returns-in-Some-At-clause-step
returns-in-Some-At-clause-step g c =
    let net : Net = net_of g.P.Primitive.behaviour c.args.judged.now.circuit.now in
    let next : IsNext c.args.lines.now c.next.new.self (At c.in-Some-At.field-0-0) = rw c.in-Some-At.field-0-is at c.in-Some-At.ensures in
    at_taken net c.args.judged.now.lists.now (IsAllowed net c.args.judged.now.turn c.args.judged.now.given.now c.args.judged.now.number) c.args.live.now c.args.live.now c.args.lines.now c.next.new.self c.in-Some-At.field-0-0 next c.wrong-in-Some-At.result c.wrong-in-Some-At.ensures
