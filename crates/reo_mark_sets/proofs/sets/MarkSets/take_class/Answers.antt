use Rattle.std.proofs.Common.{sym, subst}
use Rattle.reo_net_base.specs.declared.form.Form.{Form}
use Rattle.reo_mark_sets.specs.Standing.{IsClassed}
use Rattle.reo_mark_sets.proofs.sets.MarkSets.take_class.Goals as goal

pub returns-in-Single : goal.returns-in-Single
returns-in-Single c = subst (λ (f : Form). IsClassed f c.args.places.now c.args.turn c.args.self.now c.class_single.new.self) (sym c.in-Single.is) (c.class_single.ensures c.args.turn)

pub returns-in-Double : goal.returns-in-Double
returns-in-Double c = subst (λ (f : Form). IsClassed f c.args.places.now c.args.turn c.args.self.now c.class_double.new.self) (sym c.in-Double.is) (c.class_double.ensures c.args.turn)

pub returns-in-Replicating : goal.returns-in-Replicating
returns-in-Replicating c = subst (λ (f : Form). IsClassed f c.args.places.now c.args.turn c.args.self.now c.class_replicating.new.self) (sym c.in-Replicating.is) (c.class_replicating.ensures c.args.turn)
