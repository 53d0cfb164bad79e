-- The statuses of a line that a command writes when its work is done.
use Rattle.std.proofs.Common.{ℕ, List, subst, sym, arith}
use Rattle.std.specs.Prelude.{◌≢◌}
use Rattle.reo_command.specs.Statuses.{IsAmong, done}
use Rattle.reo_command.specs.top_base.Outputs.{IsLine}

pub done_status : (statuses : List ℕ) → IsAmong statuses done → (line bytes : List ℕ) (status : ℕ) → IsLine line done bytes status → IsAmong statuses status
done_status statuses here line bytes status h = subst (λ (k : ℕ). IsAmong statuses k) (sym h.1) here

pub done_not_three : (line bytes : List ℕ) (status : ℕ) → IsLine line done bytes status → status ≢ 3
done_not_three line bytes status h e = omega (arith, e, h.1)
