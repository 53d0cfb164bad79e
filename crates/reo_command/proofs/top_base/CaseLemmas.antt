-- The three cases and exactness, from a line, from memory that ran out, and from what is owed in part.
use Rattle.std.proofs.Common.{◌≡◌, ◌∙◌, ◌⊎◌, inl, inr, refl, ◌++◌, ℕ, Bool, true, false, List, [], sym, subst, arith}
use Rattle.std.specs.Prelude.{◌≤◌, ◌≢◌, Option}
use Rattle.reo_io.specs.Sinks.{Appended}
use Rattle.reo_io.proofs.Taken.{Appended-none}
use Rattle.reo_io.proofs.Counts.{Rose-since}
use Rattle.reo_command.specs.top_base.Cases.{Adds, AreFirstLines, Cases, IsExact, IsExactFor, IsWritten, Refuses, SaysNoMemory, EndsWithNoMemory}
use Rattle.reo_command.specs.top_base.Outputs.{Outputs, IsLine}
use Rattle.reo_command.specs.States.{SinkState, Change}

module _ (sink : Change SinkState) (code : ℕ) where
  -- A line that is owed was written, or the sink failed on it.
  pub line_cases : (Owed : Outputs) (line : List ℕ) (status : ℕ) → Owed line status → Refuses line status sink code → Cases Owed sink code
  line_cases Owed line status owed (inl (is, adds)) = inl (record { bytes = line; owed = subst (λ (k : ℕ). Owed line k) (sym is) owed; adds = adds })
  line_cases Owed line status owed (inr (is, breaks)) = inr (inl (record { bytes = line; status = status; owed = owed; breaks = breaks; code_is = is }))

  -- Memory ran out before the first line.
  pub no_memory_cases : (Owed : Outputs) → EndsWithNoMemory sink code → Cases Owed sink code
  no_memory_cases Owed says = inr (inr (record { lines = []; first = inl refl; between = sink.old.told; adds = Appended-none sink.old.told; says = says.1; code_is = says.0 }))

  pub no_memory_exact : (Owed : Outputs) → EndsWithNoMemory sink code → IsExact Owed sink code
  no_memory_exact Owed says = λ bytes status owed. inr (inr says.0)

  -- Where there is no other output, there is none with another status.
  pub exact_for : (free : Bool) (Owed : Outputs) → IsExact Owed sink code → IsExactFor free Owed sink code
  exact_for true Owed exact = λ bytes status owed. elim (exact bytes status owed) [
    | inl written ↦ inl written.0
    | inr failed ↦ inr failed
  ]
  exact_for false Owed exact = exact

  -- What is owed is one line.
  pub line_written : (line : List ℕ) (status : ℕ) → Refuses line status sink code → (bytes : List ℕ) (other : ℕ) → IsLine line status bytes other → IsWritten sink code bytes other
  line_written line status (inl (is, adds)) bytes other same = inl (is ∙ sym same.1, subst (λ (b : List ℕ). Adds sink b) (sym same.0) adds)
  line_written line status (inr (is, breaks)) bytes other same = inr (inl is)

  pub line_code : (line : List ℕ) (status : ℕ) → Refuses line status sink code → (code ≡ status) ⊎ (code ≡ 9)
  line_code line status (inl h) = inl h.0
  line_code line status (inr h) = inr h.0

  -- It does not say that a file cannot be had.
  pub line_not_three : (line : List ℕ) (status : ℕ) → status ≢ 3 → Refuses line status sink code → code ≢ 3
  line_not_three line status other (inl (is, adds)) three = other (sym is ∙ three)
  line_not_three line status other (inr (is, breaks)) three = omega (arith, is, three)

  first_lifted : (A B : Outputs) → ((bytes : List ℕ) (status : ℕ) → A bytes status → B bytes status) → (lines : List ℕ) → (lines ≡ []) ⊎ AreFirstLines A lines → (lines ≡ []) ⊎ AreFirstLines B lines
  first_lifted A B lift lines (inl none) = inl none
  first_lifted A B lift lines (inr some) = inr (record { rest = some.rest; status = some.status; owed = lift (lines ++ some.rest) some.status some.owed; front = some.front; ends = some.ends })

  -- What is owed in part is owed.
  pub lifted : (A B : Outputs) → ((bytes : List ℕ) (status : ℕ) → A bytes status → B bytes status) → Cases A sink code → Cases B sink code
  lifted A B lift (inl wrote) = inl (record { bytes = wrote.bytes; owed = lift wrote.bytes code wrote.owed; adds = wrote.adds })
  lifted A B lift (inr (inl broke)) = inr (inl (record { bytes = broke.bytes; status = broke.status; owed = lift broke.bytes broke.status broke.owed; breaks = broke.breaks; code_is = broke.code_is }))
  lifted A B lift (inr (inr ran_out)) = inr (inr (record { lines = ran_out.lines; first = first_lifted A B lift ran_out.lines ran_out.first; between = ran_out.between; adds = ran_out.adds; says = ran_out.says; code_is = ran_out.code_is }))

-- Memory ran out after whole lines: what failed since then has failed since the beginning.
since : (between : Option (List ℕ)) (new : SinkState) (was amid : ℕ) → was ≤ amid → SaysNoMemory (record { old = record { told = between; faults = amid }; new = new })
    → SaysNoMemory (record { old = record { told = between; faults = was }; new = new })
since between new was amid later (inl all) = inl all
since between new was amid later (inr (part, rose)) = inr (part, Rose-since was amid new.faults later rose)

pub lines_cases : (Owed : Outputs) (sink : Change SinkState) (mid : SinkState) (code : ℕ) (lines : List ℕ) → sink.old.faults ≤ mid.faults → (lines ≡ []) ⊎ AreFirstLines Owed lines → Appended sink.old.told mid.told lines
    → EndsWithNoMemory (record { old = mid; new = sink.new }) code → Cases Owed sink code
lines_cases Owed sink mid code lines later first adds says =
    inr (inr (record { lines = lines; first = first; between = mid.told; adds = adds; says = since mid.told sink.new sink.old.faults mid.faults later says.1; code_is = says.0 }))
