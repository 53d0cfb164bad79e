use Rattle.std.proofs.Common.{Some}
use Rattle.reo_expand.specs.base.Indexed.{value_of}
use Rattle.reo_expand.specs.base.Steps.{unbound_steps, index_steps, refused_where, is_outside}
use Rattle.reo_expand.specs.declared.base.fault.ExpandFault.TheVariants as faults
use Rattle.reo_expand.specs.base.Judged.{IsHalted}
use Rattle.reo_expand.proofs.base.Walking.{passed, halted_more}
use Rattle.reo_expand.proofs.parts.refs.number_within.Goals as goal

pub returns-in_err-value-clause-judged : goal.returns-in_err-value-clause-judged
returns-in_err-value-clause-judged c =
    passed _ (IsHalted (index_steps c.args.bound.now c.args.line c.args.least (Some c.args.index.now))) c.from_residual.result c.in_err-value.field-0.0 c.from_residual.ensures
    (halted_more (unbound_steps c.args.bound.now c.args.line c.args.index.now)
    (refused_where (is_outside c.args.least (value_of c.args.bound.now c.args.index.now)) (faults.Index c.args.line)) c.in_err-value.field-0.0 c.in_err-value.ensures)
