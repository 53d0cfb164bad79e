use Rattle.std.proofs.Common.{◌≡◌, ◌<◌, ℕ, length, get_or}
use Rattle.reo_rows.specs.declared.groups.Group.{Group}
use Rattle.reo_rows.specs.Beginning.{nothing_noted}
use Rattle.reo_rows.proofs.sifting.clear_notes.Given as goal

abbrev pub invariant-loop-group : goal.invariant-loop-group
invariant-loop-group l = record {
  one_each : length l.notes ≡ length l.initial.notes;
  nothing : (k : ℕ) (d : Group) → k < l.group → get_or l.notes k d ≡ nothing_noted;
}
