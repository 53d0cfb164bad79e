use Rattle.std.proofs.Common.{◌∙◌, ap, sym, ◌++◌, take, drop, arith}
use Rattle.std.proofs.lemmas.List.{drop-drop}
use Rattle.reo_io.proofs.Slices.{take_all-drop, copied_to_front}
use Rattle.reo_io.proofs.remaining.Remaining.move_to.Goals as goal

pub returns-clause-bytes : goal.returns-clause-bytes
returns-clause-bytes c =
    let count_is = rw (take_all-drop, c.as_slice.ensures) at c.min-count.ensures in
    let copied_is = rw (take_all-drop, c.as_slice.ensures) at c.copy_from_slice.ensures.after in
    sym c.self.view_is ∙ copied_to_front _ _ (drop c.min-count.result c.args.room.now) _ copied_is (omega (arith, count_is)) ∙ ap (λ rest. take c.min-count.result (c.copy_from_slice.new.self ++ drop c.min-count.result c.args.room.now) ++ rest) (drop-drop c.min-count.result c.self.inside.at c.self.inside.bytes)
