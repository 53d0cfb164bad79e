use Rattle.std.proofs.Common.{◌∙◌, sym}
use Rattle.std.proofs.lemmas.List.{append_cancel_left}
use Rattle.reo_values.proofs.unread.Unread.words.Goals as goal
use Rattle.reo_values.proofs.unread.Unread.words.Goals.{else-word-via-then-word+else-word-2, else-word-via-else-word}

pub returns-else-word-clause-none : goal.returns-else-word-clause-none
returns-else-word-clause-none c t rest e =
    let old = c.new-ahead.ensures ∙ c.self.view_is ∙ e in
    elim c.else-word.branch [
      | else-word-via-then-word+else-word-2 w ↦ w.word-then-word.ensures.none w.if-word-2.false rest (append_cancel_left c.args.first.now _ _ (sym (c.word.ensures.taken w.if-word.true) ∙ old))
      | else-word-via-else-word w ↦ c.word.ensures.none w.if-word.false _ old
    ]
