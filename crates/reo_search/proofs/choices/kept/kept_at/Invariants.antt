use Rattle.std.proofs.Common.{◌≡◌, ℕ, take}
use Rattle.std.specs.Prelude.{filter}
use Rattle.reo_rows.specs.RowFlags.{flag}
use Rattle.reo_search.proofs.choices.kept.kept_at.Given as goal

abbrev pub invariant-loop-code : goal.invariant-loop-code
invariant-loop-code l = l.kept ≡ filter (λ (c : ℕ). flag l.alive l.joint c) (take l.code-index l.values)
