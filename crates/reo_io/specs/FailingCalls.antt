-- Which calls of an object in memory fail.
use Rattle.std.specs.Prelude.{ℕ, List, Contains}
use Rattle.reo_io.specs.declared.failing_calls.FailingCalls.{FailingCalls}
use Rattle.reo_io.specs.Causes.{one_more}

-- The next call is one of those that are to fail.
abbrev pub FailsNext : FailingCalls → Type 0
FailsNext calls = Contains calls.failing (one_more calls.made)

-- The calls after one more was made.
abbrev pub after_call : FailingCalls → FailingCalls
after_call calls = record { failing = calls.failing; made = one_more calls.made }

-- No call was made yet, and these are to fail.
abbrev pub first_calls : List ℕ → FailingCalls
first_calls failing = record { failing = failing; made = 0 }
