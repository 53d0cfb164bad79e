use Rattle.std.proofs.Common.{◌≡◌, ◌<◌, ◌≤◌, ℕ, false, get_or}
use Rattle.reo_rows.specs.RowFlags.{flag, AreAlikeTables}
use Rattle.reo_rows.proofs.seeing.unsee_all.Given as goal

abbrev pub invariant-loop-index : goal.invariant-loop-index
invariant-loop-index l = record {
  alike : AreAlikeTables l.initial.seen l.seen;
  here : (m c : ℕ) → m < l.index → 4 ≤ c → flag l.seen (get_or l.joints m 0) c ≡ false;
}
