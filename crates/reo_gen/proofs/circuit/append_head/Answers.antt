use Rattle.std.proofs.lemmas.Result.{on_ok_weaker}
use Rattle.reo_gen.proofs.Added.{three}
use Rattle.reo_gen.proofs.circuit.append_head.Goals as goal

pub returns : goal.returns
returns c =
    on_ok_weaker c.append-2.result (three c.args.text.now c.append.new.self c.append_outputs.new.text c.append-2.new.self _ _ _ c.in_ok-append.ensures.ok c.in_ok-append_outputs.ensures)
    c.append-2.ensures.ok
