use Rattle.std.proofs.Common.{rules}
use Rattle.reo_trace.specs.RoundText.{entry_text}
use Rattle.reo_trace.proofs.Rows.{spaced-more}
use Rattle.reo_trace.proofs.text.append_entries.Goals as goal

pub loop-place-preserved : goal.loop-place-preserved
loop-place-preserved c =
    spaced-more entry_text c.args.entries.now c.loop-place.place _ _ _ _ _ (search rules)
    c.loop-place.invariant c.in_ok-append_gap.ensures c.in_ok-append_entry.ensures
