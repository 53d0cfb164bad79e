-- How proofs tell players apart: by lists of numbers and items.
use Rattle.std.specs.Prelude.{ℕ, Option, List, refl, ◌≡◌, ◌⊎◌}
use Rattle.std.proofs.Common.{inl, inr}
use Rattle.std.specs.Coded.{Coded, code_by, coded×, coded⊎, coded_ℕ, coded_list, coded_option}
use Rattle.reo_values.specs.declared.value.Value.{Value}
use Rattle.reo_players.specs.Written.{Task}
use Rattle.reo_players.specs.Written.Task.{writes, takes, rests}
use Rattle.reo_players.specs.Players.{Player}

-- A task as one of three.
abbrev pub OneOf : Type 0
OneOf = (ℕ × (Value × Option ℕ)) ⊎ ((ℕ × Option ℕ) ⊎ ℕ)

abbrev pub one_of : Task → OneOf
one_of (writes port item within) = inl (port, (item, within))
one_of (takes port within) = inr (inl (port, within))
one_of (rests rounds) = inr (inr rounds)

abbrev pub task_of : OneOf → Task
task_of (inl (port, (item, within))) = writes port item within
task_of (inr (inl (port, within))) = takes port within
task_of (inr (inr rounds)) = rests rounds

abbrev pub task_again : (t : Task) → task_of (one_of t) ≡ t
task_again (writes port item within) = refl
task_again (takes port within) = refl
task_again (rests rounds) = refl

abbrev pub task_code : Coded Value → Coded Task
task_code code = code_by OneOf (coded⊎ (coded× coded_ℕ (coded× code (coded_option coded_ℕ))) (coded⊎ (coded× coded_ℕ (coded_option coded_ℕ)) coded_ℕ)) one_of task_of task_again

-- A player is stored as the pair of its fields.
abbrev pub player_code : Coded Value → Coded Player
player_code code = code_by (List Task × ℕ) (coded× (coded_list (task_code code)) coded_ℕ) (λ p. (p.rest, p.seen)) (λ q. record { rest = q.0; seen = q.1 }) (λ _. refl)
