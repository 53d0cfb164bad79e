use Rattle.std.proofs.Common.{ℕ, ◌<◌}
use Rattle.reo_players.specs.Idle.{NamesPort}
use Rattle.reo_players.proofs.players.Players.first_at.Given as goal

-- None so far stands there.
abbrev pub invariant-loop-component : goal.invariant-loop-component
invariant-loop-component l = (i : ℕ) → i < l.component → NamesPort l.self l.port i → ⊥
