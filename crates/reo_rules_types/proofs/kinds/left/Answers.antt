-- The left part of a pair's cell.
use Rattle.std.proofs.Common.{ap}
use Rattle.std.specs.Prelude.{option_map}
use Rattle.reo_values.specs.declared.kindred.Twins.{Twins}
use Rattle.reo_rules_types.proofs.Cells.{of_pair, of_no_pair, pair_below}
use Rattle.reo_rules_types.proofs.kinds.left.Goals as goal

pub returns-in-Pair : goal.returns-in-Pair
returns-in-Pair c =
    let types = c.args.types.now in
    let n = c.args.number in (
      (pair_below types n c.cell.result.now c.cell.ensures.is c.cell.ensures.fits c.in-Pair.left c.in-Pair.field-1 c.in-Pair.is).0,
      ap (option_map (λ (t : Twins). t.left)) (of_pair types n c.cell.result.now c.cell.ensures.is c.in-Pair.left c.in-Pair.field-1 c.in-Pair.is),
    )

pub returns-in_default : goal.returns-in_default
returns-in_default c = ap (option_map (λ (t : Twins). t.left)) (of_no_pair c.args.types.now c.args.number c.cell.result.now c.cell.ensures.is c.in_default.not-Pair)
