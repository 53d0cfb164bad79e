-- Faults of logs whose rows are those of a colouring.
use Rattle.std.proofs.Common.{inl, inr, ap, ℕ, ◌+◌, ◌≤◌, List, Option, [], ◌∷◌, length, length-append, arith}
use Rattle.reo_values.specs.declared.value.Value.{Value}
use Rattle.reo_net_base.specs.Net.{Net}
use Rattle.reo_net_base.specs.Colouring.{IsColouring}
use Rattle.reo_checker.specs.declared.wrong.Wrong.{Wrong}
use Rattle.reo_checker.specs.declared.wrong.Wrong.TheVariants.{Count, Row, Joint, Item}
use Rattle.reo_trace.specs.declared.line.Entry.{Entry}
use Rattle.reo_rounds.specs.Order.{HasOrder}
use Rattle.reo_runs.specs.verdicts.Said.{AreSaid}
use Rattle.reo_runs.proofs.verdicts.WrongLemmas.{none_wrong}
use Rattle.reo_verify.proofs.judging.JudgeLemmas.{marks_wrong}
use Rattle.reo_refute_base.specs.declared.line.LogLine.{LogLine}
use Rattle.reo_refute_base.specs.RightTexts.{IsWrongLine}
use Rattle.reo_refute_base.specs.Texts.{line_text, log_text}
use Rattle.reo_refute.proofs.check.Taking.{line_some}
use Rattle.reo_refute_base.specs.faults.Faults.{AreWrongItems, AreNoColouring}

-- Nothing is wrong with the rows of a colouring, as entries say them.
module _ (net : Net) (ordered : HasOrder net) (entries : List Entry) (rows : List ℕ) (items : List (Option Value)) (said : AreSaid net entries rows) (col : IsColouring net rows items) where
  not_items : (wrong : Wrong) → AreWrongItems net rows wrong → ⊥
  not_items Count w = elim w.is_wrong [
    | inl other ↦ none_wrong net ordered entries rows items said col Count (marks_wrong net entries rows Count said other)
    | inr other ↦ other w.filled.one_each
  ]
  not_items (Row i) w = none_wrong net ordered entries rows items said col (Row i) (marks_wrong net entries rows (Row i) said w.is_wrong.1)
  not_items (Joint j) w = none_wrong net ordered entries rows items said col (Joint j) (marks_wrong net entries rows (Joint j) said w.is_wrong.1)
  not_items (Item j) w = none_wrong net ordered entries rows items said col (Item j) (rows, w.items, said, w.rows_fit, w.filled, w.is_wrong.2)

  pub none_wrong_by : (wrong : Wrong) → AreNoColouring net rows wrong → ⊥
  none_wrong_by wrong (inl w) = none_wrong net ordered entries rows items said col wrong (marks_wrong net entries rows wrong said w)
  none_wrong_by wrong (inr w) = not_items wrong w

lines_le : (lines : List LogLine) → length lines ≤ length (log_text lines)
lines_le [] = omega arith
lines_le (x ∷ xs) = omega (arith, line_some x, lines_le xs, length-append (line_text x) (log_text xs))

-- The line that is wrong is one of the text, or the one after.
pub wrong_line_le : (net : Net) (turn : ℕ) (rows log : List ℕ) (line : ℕ) → IsWrongLine net turn rows log line → line ≤ length log + 1
wrong_line_le net turn rows log line wrong =
    omega (arith, wrong.line_is, lines_le wrong.right, ap (λ (t : List ℕ). length t) wrong.text.text, length-append (log_text wrong.right) wrong.rest)
