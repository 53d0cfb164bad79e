use Rattle.std.proofs.Common.{arith}
use Rattle.reo_trace.specs.declared.line.Cell.TheVariants.{Row}
use Rattle.reo_trace.specs.declared.line.Entry.TheVariants.{One}
use Rattle.reo_verify.proofs.judging.Cuts.{got_or}
use Rattle.reo_verify.proofs.JamLemmas.{jams_cut}
use Rattle.reo_verify.proofs.jams.entries_jams.Goals as goal

pub overflow_add-count : goal.overflow_add-count
overflow_add-count c =
    let got = got_or c.args.entries.now c.loop-entry.entry-index (One (Row 0)) c.loop-entry-test.true in
    omega (arith, jams_cut c.args.entries.now c.loop-entry.entry-index _ got, c.requires, c.loop-entry.invariant, c.entry_jams-count.ensures)
