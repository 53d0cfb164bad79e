use Rattle.std.proofs.Common.{inl, inr, ℕ, arith, below_more}
use Rattle.reo_net_base.specs.order.Arrows.{OnCycle}
use Rattle.reo_net_base.proofs.order.cycle.least_on_cycle.Goals as goal

pub loop-arrow-preserved : goal.loop-arrow-preserved
loop-arrow-preserved c = record {
  queue = c.in_ok-is_on_cycle.ensures.queue;
  none = below_more (λ (j : ℕ). OnCycle c.args.outs.now.ends.items c.args.ins.now.ends.items j → ⊥) c.loop-arrow.arrow c.loop-arrow.invariant.none
      (λ on. let is = c.in_ok-is_on_cycle.ensures.answer.1 on in let no = c.if-branch.false in cc);
}

pub loop-arrow-preserved-then-is_off : goal.loop-arrow-preserved-then-is_off
loop-arrow-preserved-then-is_off c = record {
  queue = c.loop-arrow.invariant.queue;
  none = below_more (λ (j : ℕ). OnCycle c.args.outs.now.ends.items c.args.ins.now.ends.items j → ⊥) c.loop-arrow.arrow c.loop-arrow.invariant.none
      (λ on. elim (c.is_off.ensures.0 c.if-is_off.true) [
        | inl front ↦ c.requires.front.none_on_cycle c.loop-arrow.arrow front on
        | inr back ↦ c.requires.back.none_on_cycle c.loop-arrow.arrow back on
      ]);
}

pub returns : goal.returns
returns c = λ j on. c.loop-arrow.invariant.none j (omega (arith, on.0)) on
