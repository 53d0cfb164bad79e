use Rattle.std.proofs.Common.{◌≡◌, ◌++◌, take}
use Rattle.reo_trace.specs.RoundText.{entry_text}
use Rattle.reo_trace.specs.Spaced.{spaced}
use Rattle.reo_trace.proofs.text.append_entries.Given as goal

abbrev pub invariant-loop-place : goal.invariant-loop-place
invariant-loop-place l = l.text ≡ l.initial.text ++ spaced entry_text (take l.place l.entries)
