use Rattle.std.proofs.Common.{◌≡◌, ◌≢◌, ◌<◌, ◌≤◌, ℕ, false}
use Rattle.reo_rows.specs.RowFlags.{flag, AreAlikeTables}
use Rattle.reo_rows.proofs.seeing.unsee.Given as goal

abbrev pub invariant-loop-code : goal.invariant-loop-code
invariant-loop-code l = record {
  alike : AreAlikeTables l.initial.seen l.seen;
  here : (c : ℕ) → 4 ≤ c → c < l.code → flag l.seen l.joint c ≡ false;
  other : (j c : ℕ) → j ≢ l.joint → flag l.seen j c ≡ flag l.initial.seen j c;
}
