use Rattle.std.proofs.Common.{◌-◌, take, drop, length, sym, arith, length-drop}
use Rattle.std.proofs.lemmas.List.{take_all, take-append-drop}
use Rattle.reo_cases.proofs.lines.last_of.Goals as goal

pub returns : goal.returns
returns c =
    let text = c.args.text.now in
    let begin = c.loop-at.begin in
    (take begin text, rw (take_all (length text - begin) (drop begin text) (omega (arith, length-drop begin text))) (sym (take-append-drop begin text)))
