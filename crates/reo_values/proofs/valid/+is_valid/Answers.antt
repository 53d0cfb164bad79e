use Rattle.std.proofs.Common.{rules}
use Rattle.reo_values.proofs.Pairs.{IsValid-Pair}
use Rattle.reo_values.proofs.valid.+is_valid.Goals as goal

pub returns-then-is_valid : goal.returns-then-is_valid
returns-then-is_valid t c = rw (c.in-Pair.is, IsValid-Pair c.in-Pair.twins, ← c.get-twins.ensures) (search rules)

pub returns-else-is_valid : goal.returns-else-is_valid
returns-else-is_valid t c = rw (c.in-Pair.is, IsValid-Pair c.in-Pair.twins, ← c.get-twins.ensures) (search rules)
