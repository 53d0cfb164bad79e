-- A choice has a kind where its condition is of truth values and its parts are of one kind.
use Rattle.std.proofs.Common.{◌∙◌, ap, sym, ◌&&◌}
use Rattle.std.proofs.Math.Bool.{and-false}
use Rattle.reo_exprs.specs.Kinds.{is_bool}
use Rattle.reo_rules.specs.Types.{is_same}
use Rattle.reo_rules_types.specs.Cells.{type_at}
use Rattle.reo_rules_types.proofs.OfKinds.{chosen, not_chosen}
use Rattle.reo_rules_types.proofs.kinds.choice_kind.Goals as goal
use Rattle.reo_rules_types.proofs.kinds.choice_kind.Goals.{else-is_bool-via-then-is_bool+else-same, else-is_bool-via-else-is_bool}

pub returns-then-same : goal.returns-then-same
returns-then-same c =
    let types = c.args.types.now in
    (c.requires.yes, chosen (type_at types c.args.condition) (type_at types c.args.yes) (type_at types c.args.no) c.requires.yes_bare c.requires.no_bare (sym c.if-is_bool.ensures) (sym c.if-same.ensures))

pub returns-else-is_bool : goal.returns-else-is_bool
returns-else-is_bool c =
    let types = c.args.types.now in
    let x = type_at types c.args.condition in
    let y = type_at types c.args.yes in
    let z = type_at types c.args.no in
    not_chosen x y z c.requires.yes_bare c.requires.no_bare
    (elim c.else-is_bool.branch [
      | else-is_bool-via-then-is_bool+else-same w ↦ ap (λ b. is_bool x && b) (sym w.if-same.ensures) ∙ and-false (is_bool x)
      | else-is_bool-via-else-is_bool w ↦ ap (λ b. b && is_same y z) (sym w.if-is_bool.ensures)
    ])
