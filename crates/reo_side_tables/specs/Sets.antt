-- Sets of marks.
use Rattle.std.specs.Prelude.{ℕ, ◌+◌, Bool, cond}
use Rattle.reo_net_base.specs.declared.mark.Mark.{Mark}
use Rattle.reo_net_base.specs.declared.mark.Mark.TheVariants.{F, G, R, J}
use Rattle.reo_side_tables.specs.declared.sets.Marks.{Marks}

-- Whether a set of marks has a mark.
abbrev pub marks_has : Marks → Mark → Bool
marks_has marks F = marks.flow
marks_has marks G = marks.given
marks_has marks R = marks.required
marks_has marks J = marks.jam

-- The bytes of the marks of a set together.
abbrev pub marks_byte : Marks → ℕ
marks_byte marks = cond marks.flow 1 0 + (cond marks.given 2 0 + (cond marks.required 4 0 + cond marks.jam 8 0))
