use Rattle.reo_mark_sets.proofs.Classed.{single_classed}
use Rattle.reo_mark_sets.proofs.sets.MarkSets.class_single.Goals as goal

pub returns : goal.returns
returns c =
    single_classed c.args.table c.args.places.now c.requires.width c.args.self.now c.put.new.self c.at.result c.classed_one-least.result.marks c.classed_one-least.result.class c.requires.places c.at.ensures c.put.ensures c.classed_one-least.ensures.taken c.classed_one-least.ensures.within
