use Rattle.std.specs.List.{flat_map}
use Rattle.reo_expand.specs.base.Steps.{two_in}
use Rattle.reo_expand.proofs.base.Turning.{passed_on}
use Rattle.reo_expand.proofs.programs.Numbered.{steps_with, copy_stopped, copy_done, copy_made}
use Rattle.reo_expand.proofs.programs.families.numbered.Goals as goal

pub returns-in_err-next-clause-walked : goal.returns-in_err-next-clause-walked
returns-in_err-next-clause-walked c =
    let before = flat_map two_in c.args.before.now in
    let values = c.args.values.now in
    let n = c.args.walk.now.count in
    let d = c.in_err-next.field-0.0 in
    passed_on c.from_residual-in_err-next.result d n c.copied.new.walk.count (flat_map (steps_with before c.args.connector.now c.args.number.now values) values) c.from_residual-in_err-next.ensures
    (copy_stopped before c.args.connector.now c.args.number.now values c.loop-value.value-index c.in_ok-instance.instance c.loop-value-test.true c.in_ok-instance.ensures
    n c.loop-value.walk.count d c.loop-value.invariant.walked c.in_err-next.ensures.walked)

pub loop-value-preserved : goal.loop-value-preserved
loop-value-preserved c =
    let before = flat_map two_in c.args.before.now in
    let values = c.args.values.now in
    let k = c.args.connector.now in
    let number = c.args.number.now in
    let i = c.loop-value.value-index in
    let e = c.in_ok-instance.instance in
    record {
      walked = copy_done before k number values i e c.loop-value-test.true c.in_ok-instance.ensures c.args.walk.now.count c.loop-value.walk.count c.copied.new.walk.count c.loop-value.invariant.walked c.in_ok-next.ensures.walked;
      made = copy_made before k number values i e c.loop-value-test.true c.in_ok-instance.ensures c.args.out.now c.loop-value.out c.push.new.self c.in_ok-next.next c.loop-value.invariant.made c.in_ok-next.ensures.made c.in_ok-push.ensures.ok;
      small = c.copied.ensures.small;
    }
