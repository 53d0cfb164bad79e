use Rattle.std.proofs.Common.{◌≡◌, ℕ}
use Rattle.std.specs.List.{filter, range_with_len}
use Rattle.reo_rows.specs.RowFlags.{flag}
use Rattle.reo_search.proofs.choices.weighing.codes_at.Given as goal

abbrev pub invariant-loop-code : goal.invariant-loop-code
invariant-loop-code l = l.codes ≡ filter (λ (c : ℕ). flag l.alive l.joint c) (range_with_len 0 l.code)
