use Rattle.std.proofs.Common.{◌≡◌, ◌∙◌, ℕ, ◌<◌, Bool, true, List, [], length, get_or, ap, sym, subst}
use Rattle.reo_rows.specs.RowFlags.{flag, count_set}
use Rattle.reo_rows.proofs.Counting.{cleared_count}
use Rattle.reo_rows.proofs.flags.RowFlags.clear.Goals as goal

pub returns-clause-fewer : goal.returns-clause-fewer
returns-clause-fewer c =
    let i : ℕ = c.args.row in
    let p : ℕ = c.args.place in
    let is : c.args.self.now ≡ c.self.inside.rows = sym c.self.view_is in
    cleared_count c.self.inside.rows i p c.at_mut-flags.result.now (subst (λ (t : List (List Bool)). i < length t) is c.requires.row) c.at_mut-flags.ensures.value
    (subst (λ (t : List (List Bool)). p < length (get_or t i [])) is c.requires.place) (subst (λ (t : List (List Bool)). flag t i p ≡ true) is c.requires.was)
    ∙ ap count_set (sym is)
