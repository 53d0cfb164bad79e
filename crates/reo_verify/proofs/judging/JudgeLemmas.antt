-- What is wrong with the rows of entries is wrong with the entries.
use Rattle.std.proofs.Common.{◌≡◌, ℕ, List, sym, subst}
use Rattle.reo_net_base.specs.declared.colouring.Colouring.{Colouring}
use Rattle.reo_net_base.specs.Net.{Net, all_sides}
use Rattle.reo_net_base.specs.Colouring.{RowsFit, IsFilled}
use Rattle.reo_net_laws.proofs.Sides.{rows_length}
use Rattle.reo_net.specs.colouring.Filled.{AllFit}
use Rattle.reo_checker.specs.declared.wrong.Wrong.{Wrong}
use Rattle.reo_checker.specs.declared.wrong.Wrong.TheVariants.{Count, Row, Joint, Item}
use Rattle.reo_checker.specs.Faults.{AreWrongRows}
use Rattle.reo_checker.proofs.ExactLemmas.{row_out}
use Rattle.reo_trace.specs.declared.line.Entry.{Entry}
use Rattle.reo_runs.specs.verdicts.Said.{AreSaid}
use Rattle.reo_runs.specs.verdicts.Wrongs.{IsWrongWith}
use Rattle.reo_verify.specs.judging.Judged.{IsColouringSaid}

-- Rows that entries say can only be wrong at a joint.
pub marks_wrong : (net : Net) (entries : List Entry) (rows : List ℕ) (wrong : Wrong) → AreSaid net entries rows → AreWrongRows net rows wrong → IsWrongWith net entries wrong
marks_wrong net entries rows Count said wrong = absurd (wrong (rows_length (all_sides net.primitives) rows said.in_tables))
marks_wrong net entries rows (Row i) said wrong = absurd (row_out net rows i wrong.1 said.in_tables)
marks_wrong net entries rows (Joint j) said wrong = (rows, said, wrong.1)
marks_wrong net entries rows (Item j) said wrong = absurd wrong

-- Where nothing is wrong they are those of a colouring.
pub coloured : (net : Net) (entries : List Entry) (rows : List ℕ) (c : Colouring) → AreSaid net entries rows → RowsFit net rows → c.rows ≡ rows → IsFilled net rows c.items
    → AllFit net c.rows c.items → IsColouringSaid net entries c
coloured net entries rows c said fit same filled items = record {
  said = subst (AreSaid net entries) (sym same) said;
  is_colouring = record { rows_fit = subst (RowsFit net) (sym same) fit; one_each = filled.one_each; items_fit = items };
}
