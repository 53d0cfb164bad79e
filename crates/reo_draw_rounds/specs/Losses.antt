-- Which primitives lose an item.
use Rattle.std.specs.Prelude.{ℕ, ◌==◌, ◌&&◌, Bool, false, not, Option, Some, None, List, slice_get}
use Rattle.reo_buffers.specs.Stored.{is_full}
use Rattle.reo_kinds.specs.declared.kind.Kind.{Kind}
use Rattle.reo_kinds.specs.declared.kind.Kind.TheVariants.{Lossy, Filter, Shift}
use Rattle.reo_trace.specs.declared.line.Cell.{Cell}
use Rattle.reo_trace.specs.declared.line.Cell.TheVariants.{Row, Jam}
use Rattle.reo_trace.specs.declared.line.Entry.{Entry}
use Rattle.reo_trace.specs.declared.line.Entry.TheVariants.{One, Two}
use Rattle.reo_draw_rounds.specs.Mapped.{mapped}

-- The cell is the row of a number.
abbrev pub is_row : Cell → ℕ → Bool
is_row (Row row) number = row == number
is_row Jam number = false

-- A lossy channel and a filter lose an item in their row 1, and a full shift buffer one where its mouth flows and its tail
-- does not.
abbrev pub loses : Kind → Entry → Bool
loses Lossy (One cell) = is_row cell 1
loses (Filter rule) (One cell) = is_row cell 1
loses (Shift buffer) (Two mouth tail) = is_full buffer && is_row mouth 0 && not (is_row tail 0)
loses _ _ = false

-- A primitive without an entry loses none.
abbrev pub loses_by : Kind → Option Entry → Bool
loses_by kind None = false
loses_by kind (Some entry) = loses kind entry

-- Whether the primitive of a number does, and whether each does.
abbrev pub loses_at : List Entry → ℕ → Kind → Bool
loses_at entries number kind = loses_by kind (slice_get entries number)

abbrev pub losses_of : List Kind → List Entry → List Bool
losses_of kinds entries = mapped (loses_at entries) 0 kinds
