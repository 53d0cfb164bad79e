use Rattle.std.proofs.Common.{◌≡◌, take}
use Rattle.reo_verify.proofs.JamLemmas.{jams_of}
use Rattle.reo_verify.proofs.jams.entries_jams.Given as goal

abbrev pub invariant-loop-entry : goal.invariant-loop-entry
invariant-loop-entry l = l.count ≡ jams_of (take l.entry-index l.entries)
