use Rattle.std.proofs.Common.{◌∙◌, ◌++◌, ◌∷◌, [], ℕ, List, ap, sym}
use Rattle.std.proofs.lemmas.Result.{on_ok_weaker}
use Rattle.reo_trace.proofs.cells.Kept.{narrow}
use Rattle.reo_trace.proofs.cells.code.append_code.Goals as goal

pub returns-else-is_wide : goal.returns-else-is_wide
returns-else-is_wide c = on_ok_weaker c.push.result
    (λ e. e ∙ ap (λ (b : ℕ). c.args.text.now ++ b ∷ []) c.byte_of.ensures ∙ ap (λ (xs : List ℕ). c.args.text.now ++ xs) (sym (narrow c.args.code (sym c.is_wide.ensures ∙ c.if-is_wide.false))))
    c.push.ensures.ok
