-- A component that does not count and whose offer does not flow stays where it is.
use Rattle.std.proofs.Common.{◌≡◌, ◌∙◌, ℕ, List, [], ◌∷◌, Bool, true, false, ◌||◌, ◌&&◌, cond, Some, None, refl, ap, map}
use Rattle.std.specs.Prelude.{is_none}
use Rattle.reo_rules.specs.Lists.{first_of}
use Rattle.reo_players.specs.Written.{Task}
use Rattle.reo_players.specs.Written.Task.{writes, takes, rests}
use Rattle.reo_players.specs.Players.{Player, after, after_task, counts, is_done, all_done, someone_counts}
use Rattle.reo_players.proofs.laws.stuck_is_not_done.Goals as goal

stays : (seen : ℕ) (rest : List Task) → counts (record { rest = rest; seen = seen }) ≡ false → is_done (after_task false seen rest) ≡ is_none (first_of rest)
stays seen [] e = refl
stays seen (writes port item None ∷ ts) e = refl
stays seen (writes port item (Some n) ∷ ts) e = ap (λ b. cond b (is_done (after_task false seen (writes port item (Some n) ∷ ts))) false) e
stays seen (takes port None ∷ ts) e = refl
stays seen (takes port (Some n) ∷ ts) e = ap (λ b. cond b (is_done (after_task false seen (takes port (Some n) ∷ ts))) false) e
stays seen (rests n ∷ ts) e = ap (λ b. cond b (is_done (after_task false seen (rests n ∷ ts))) false) e

left_of : (a b : Bool) → (a || b) ≡ false → a ≡ false
left_of false b e = refl
left_of true b e = e

right_of : (a b : Bool) → (a || b) ≡ false → b ≡ false
right_of false b e = e
right_of true b e = ap (λ x. cond x b false) e

all_stay : (ps : List Player) → someone_counts ps ≡ false → all_done (map (after false) ps) ≡ all_done ps
all_stay [] e = refl
all_stay (p ∷ ps) e =
    ap (λ d. d && all_done (map (after false) ps)) (stays p.seen p.rest (left_of (counts p) (someone_counts ps) e))
    ∙ ap (λ d. is_done p && d) (all_stay ps (right_of (counts p) (someone_counts ps) e))

pub returns : goal.returns
returns c = λ ps e not_done. all_stay ps e ∙ not_done
