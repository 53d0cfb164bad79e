use Rattle.std.proofs.Common.{arith, ◌≡◌, ◌∙◌, ◌+◌, ◌<◌, ◌^◌, ◌++◌, ◌∷◌, [], ℕ, List, pos, map, ap, sym}
use Rattle.std.specs.Int.{w64}
use Rattle.std.specs.List.{range_with_len}
use Rattle.std.proofs.lemmas.Int.{to_z_pos}
use Rattle.std.proofs.lemmas.List.FromFn.{map-range_with_len_more}
use Rattle.reo_expand.specs.base.Expansion.{placed_name as placed}
use Rattle.reo_expand.proofs.items.arrays.array_names.Goals as goal

pub loop-place-preserved : goal.loop-place-preserved
loop-place-preserved c =
    let F : ℕ → List ℕ = λ j. placed c.args.name.now (pos j) in
    let n = c.loop-place.place in
    let z : 0 + n ≡ n = omega arith in
    let below : n < 2 ^ 63 = omega arith in
    c.in_ok-push.ensures.ok
    ∙ ap (λ l. l ++ c.in_ok-next.next ∷ []) c.loop-place.invariant
    ∙ ap (λ b. map F (range_with_len 0 n) ++ b ∷ []) (c.in_ok-next.ensures ∙ ap (placed c.args.name.now) (to_z_pos w64 n below))
    ∙ sym (map-range_with_len_more F 0 n n z)
