-- No round has passed.
use Rattle.std.proofs.Common.{◌≡◌, ◌∙◌, ◌<◌, ◌^◌, ◌-◌, ℕ, List, length, map, get_or, replicate, sym, ap, subst, arith}
use Rattle.reo_players.specs.declared.pacing.Paced.{Paced}
use Rattle.reo_players.specs.Idle.{marks_of}
use Rattle.reo_players.specs.Pacing.{due_of, clock_at, each_shown, player_in, paced_of}
use Rattle.reo_players.proofs.Paces.{first-shown, first-due, first-time}
use Rattle.reo_players.proofs.players.Players.new.Goals as goal

pub invariant_of-result : goal.invariant_of-result
invariant_of-result c =
    let cs = c.args.script.components in
    let are : c.in_ok-players.players ≡ map paced_of cs = c.in_ok-players.ensures in
    record {
      marks_are = c.in_ok-marks.ensures ∙ ap (λ (ys : List Paced). marks_of (map player_in ys)) c.as_slice.ensures;
      dues_are =
          c.in_ok-dues.ensures
          ∙ ap (λ (n : ℕ). replicate n (2 ^ 64 - 1)) (c.len.ensures ∙ ap length are)
          ∙ first-due cs ∙ ap (map due_of) (sym are);
      behind = λ i d lt. let none = subst (λ (ys : List Paced). (get_or ys i d).as_of ≡ 0) (sym are) (first-time cs i d (subst (λ (ys : List Paced). i < length ys) are lt)) in omega (arith, none);
      goes_on = omega arith;
    }

pub returns : goal.returns
returns c = ap (each_shown (clock_at 0 0)) c.in_ok-players.ensures ∙ first-shown (clock_at 0 0) c.args.script.components
