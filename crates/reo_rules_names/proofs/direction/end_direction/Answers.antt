-- The end is closed at a parameter, or at none.
use Rattle.std.proofs.Common.{◌∙◌, Some, inr, map, not, sym, ap}
use Rattle.reo_trees.specs.declared.programs.Parameter.{Parameter}
use Rattle.reo_rules.specs.declared.fault.FlatFault.TheVariants as faults
use Rattle.reo_rules.specs.Lists.{where_true, first_of}
use Rattle.reo_rules.specs.Touches.{touch, is_touched}
use Rattle.reo_rules_names.proofs.EndLemmas.{closed_there}
use Rattle.reo_rules_names.proofs.direction.end_direction.Goals as goal

pub returns-then-has : goal.returns-then-has
returns-then-has c ps are =
    let name = c.args.name.now in
    let way = c.args.is_source in
    let closed = map (λ (p : Parameter). touch p.name (not p.inward)) ps in
    let here = sym (closed_there ps name way) ∙ ap (λ n. is_touched closed n way) (sym c.as_slice.ensures) ∙ sym (c.has.ensures closed are) ∙ c.if-has.true in
    inr (ap (λ b. first_of (where_true b (faults.Direction c.args.line name))) here ∙ ap (λ n. Some (faults.Direction c.args.line n)) (sym c.in_ok-copy.ensures))

pub returns : goal.returns
returns c ps are =
    let name = c.args.name.now in
    let way = c.args.is_source in
    let closed = map (λ (p : Parameter). touch p.name (not p.inward)) ps in
    let here = sym (closed_there ps name way) ∙ ap (λ n. is_touched closed n way) (sym c.as_slice.ensures) ∙ sym (c.has.ensures closed are) ∙ c.if-has.false in
    ap (λ b. where_true b (faults.Direction c.args.line name)) here
