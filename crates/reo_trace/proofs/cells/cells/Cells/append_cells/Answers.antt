use Rattle.std.proofs.Common.{◌≡◌, ◌∙◌, ◌++◌, ℕ, List, ap, sym}
use Rattle.std.proofs.lemmas.Result.{on_ok_weaker}
use Rattle.std.specs.List.{count_by}
use Rattle.reo_trace.specs.cells.Texts.{befores, cells_text, is_wide}
use Rattle.reo_trace.proofs.cells.Kept.{kept-text, none_wide}
use Rattle.reo_trace.proofs.cells.cells.Cells.append_cells.Goals as goal

pub returns-then-self-eq0 : goal.returns-then-self-eq0
returns-then-self-eq0 c = λ net are.
    let none : count_by is_wide c.args.self.now.shown ≡ 0 = sym are.counted ∙ c.if-self-eq0.true in
    let same : c.as_slice.result.now ≡ cells_text (befores net) c.args.self.now.shown = c.as_slice.ensures ∙ are.bytes ∙ kept-text (befores net) c.args.self.now.shown (none_wide c.args.self.now.shown none) in
    on_ok_weaker c.append.result (λ e. e ∙ ap (λ (xs : List ℕ). c.args.text.now ++ xs) same) c.append.ensures.ok
