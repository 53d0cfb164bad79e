use Rattle.std.proofs.Common.{◌∙◌, ◌-◌, ◌+◌, sym, refl, arith}
use Rattle.reo_rows.proofs.Codes.{flag_flow, flag_in}
use Rattle.reo_rows.proofs.marks.has_flow.Goals as goal

pub returns-then-is_set : goal.returns-then-is_set
returns-then-is_set c = (λ h. (c.loop-code.code - 4, flag_flow c.args.alive.now c.args.joint c.loop-code.code c.loop-code.auto.code ∙ sym c.is_set.ensures ∙ c.if-is_set.true), λ h. refl)

pub returns : goal.returns
returns c = (
  λ h. absurd cc,
  λ f.
      let place = flag_in c.args.alive.now c.args.joint (f.0 + 4) f.1 in
      absurd (c.loop-code.invariant (f.0 + 4) (omega arith) (omega arith) f.1),
)
