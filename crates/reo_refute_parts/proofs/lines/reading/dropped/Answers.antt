use Rattle.reo_refute_parts.proofs.lines.Lines.{no_joint, no_value_there, no_side}
use Rattle.reo_refute_parts.proofs.lines.reading.dropped.Goals as goal

pub returns-in-None : goal.returns-in-None
returns-in-None c j v side rest h e = no_joint c.args.reader.now c.number_and.new.reader c.in-None.ensures j v side rest h e

pub returns-in-None-value : goal.returns-in-None-value
returns-in-None-value c j v side rest h e =
    no_value_there c.in-Some.joint c.args.reader.now c.number_and.new.reader c.value.new.reader c.in-Some.ensures.0 c.in-Some.ensures.1 c.in-None-value.ensures c.value.new.reader j v side rest h e

pub returns-in-None-number_and : goal.returns-in-None-number_and
returns-in-None-number_and c j v side rest h e =
    no_side c.in-Some.joint c.in-Some-value.value c.args.reader.now c.number_and.new.reader c.value.new.reader c.number_and-in-Some-value.new.reader c.in-Some.ensures.0 c.in-Some-value.ensures.0 c.in-Some.ensures.1 c.in-Some-value.ensures.1
    c.in-None-number_and.ensures c.number_and-in-Some-value.new.reader j v side rest h e
