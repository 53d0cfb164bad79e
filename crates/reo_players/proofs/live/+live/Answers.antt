use Rattle.std.proofs.Common.{arith, ◌∙◌, sym, ap, subst, ◌≡◌, [], MatchOption, ◌∷◌, ◌++◌}
use Rattle.std.specs.List.{flat_map}
use Rattle.reo_players.specs.Written.{written}
use Rattle.reo_players.specs.Counters.{IsLive, AreLive}
use Rattle.reo_players.proofs.Bodies.{live_repeat, same_repeat, no_repeat, live_more, written_more, empty_of}
use Rattle.reo_players.proofs.live.+live.Goals as goal

-- src/live.rt:35:5
pub live_of-loop-action-preserved-in-Continue-branch-3 :
    goal.live_of-loop-action-preserved-in-Continue-branch-3
live_of-loop-action-preserved-in-Continue-branch-3 t c =
    let a = c.in-Some-2.action in
    let kept = c.loop-action.kept in
    let h : IsLive a × (written a ≡ written c.in-Some.action) =
    subst (λ o. MatchOption o (written c.in-Some.action ≡ []) (λ b. IsLive b × (written b ≡ written c.in-Some.action))) c.in-Some-2.is c.in_ok-action.ensures in
    let push : c.push.new.self ≡ kept ++ a ∷ [] = c.in_ok-push.ensures.ok in (
      subst AreLive (sym push) (live_more kept a c.loop-action.invariant.0 h.0),
      ap (flat_map written) push ∙ (written_more kept a ∙ (ap (λ ts. ts ++ written a) c.loop-action.invariant.1
          ∙ (ap (λ ts. flat_map written c.loop-action.yielded ++ ts) h.1 ∙ sym (written_more c.loop-action.yielded c.in-Some.action)))),
    )

-- src/live.rt:23:17
pub live-returns-then-is_empty : goal.live-returns-then-is_empty
live-returns-then-is_empty t c =
    let body = c.in_ok-body-in-Repeat.body in
    ap written c.in-Repeat.is ∙ no_repeat c.in-Repeat.times c.in-Repeat.body (sym c.in_ok-body-in-Repeat.ensures.1 ∙ ap (flat_map written) (empty_of body (grind (arith, c.if-is_empty.true))))

-- src/live.rt:12:1
pub live-returns-else-is_empty : goal.live-returns-else-is_empty
live-returns-else-is_empty t c =
    let body = c.in_ok-body-in-Repeat.body in
    let times = c.in-Repeat.times in (
      live_repeat times body (omega (arith, c.if-times-eq0.false)) (grind (arith, c.if-is_empty.false)) c.in_ok-body-in-Repeat.ensures.0,
      same_repeat times body c.in-Repeat.body c.in_ok-body-in-Repeat.ensures.1 ∙ sym (ap written c.in-Repeat.is),
    )
