use Rattle.std.proofs.Common.{◌≡◌, ◌∙◌, ◌*◌, ◌<◌, ℕ, List, length, get_or, take, [], ap, sym, arith}
use Rattle.std.proofs.lemmas.List.{get_or_default}
use Rattle.reo_weights.specs.Weights.{capped}
use Rattle.reo_search.specs.choices.Remaining.{choices_of}
use Rattle.reo_search.proofs.choices.Counted.{choices_more, capped_times}
use Rattle.reo_search.proofs.choices.weighing.weight_of.Goals as goal

pub loop-index-preserved : goal.loop-index-preserved
loop-index-preserved c =
    let i : ℕ = c.loop-index.index in
    let left : List (List ℕ) = c.args.left.now in
    let lt : i < length left = omega (arith, c.len-index-end.ensures) in
    let n : c.len.result ≡ length (get_or left i []) = c.len.ensures ∙ ap length (c.at.ensures ∙ get_or_default left i c.at.result.now [] lt) in
    let was : ℕ = choices_of (take i left) in
    c.times-weight.ensures
    ∙ ap (λ (x : ℕ). capped (x * c.len.result)) c.loop-index.invariant
    ∙ ap (λ (x : ℕ). capped (capped was * x)) n
    ∙ capped_times was (length (get_or left i []))
    ∙ ap capped (sym (choices_more left i lt))
