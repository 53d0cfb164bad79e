use Rattle.std.proofs.lemmas.Result.{on_ok_weaker}
use Rattle.reo_gen.specs.Circuits.{stage_text}
use Rattle.reo_gen.proofs.Added.{six}
use Rattle.reo_gen.proofs.circuit.append_stage.Goals as goal

pub returns : goal.returns
unfolding stage_text
returns c =
    on_ok_weaker c.append-6.result
    (six c.args.text.now c.append.new.self c.append-2.new.self c.append-3.new.self c.append-4.new.self c.append-5.new.self c.append-6.new.self _ _ _ _ _ _
    c.in_ok-append.ensures.ok c.in_ok-append-2.ensures.ok c.in_ok-append-3.ensures.ok c.in_ok-append-4.ensures.ok c.in_ok-append-5.ensures.ok)
    c.append-6.ensures.ok
