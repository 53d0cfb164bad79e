use Rattle.std.proofs.Common.{◌≡◌, ◌<◌, ◌≤◌, ℕ, true}
use Rattle.reo_rows.specs.RowFlags.{flag}
use Rattle.reo_rows.proofs.marks.has_flow.Given as goal

abbrev pub invariant-loop-code : goal.invariant-loop-code
invariant-loop-code l = (c : ℕ) → 4 ≤ c → c < l.code → flag l.alive l.joint c ≡ true → ⊥
