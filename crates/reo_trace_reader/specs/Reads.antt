-- What a reader of a part of a line owes.
use Rattle.std.specs.Prelude.{ℕ, ◌≡◌, List, ◌++◌, Result, Ok, Err}
use Rattle.reo_trace_reader.specs.declared.texts.fault.LineFault.{LineFault}
use Rattle.reo_trace_reader.specs.declared.texts.fault.LineFault.TheVariants as forms

-- The reader answered x and left this rest, or found no memory.
abbrev pub Reads : {X : Type 0} → Result X LineFault → List ℕ → X → List ℕ → Type 0
Reads (Ok found) left x rest = (found ≡ x) × (left ≡ rest)
Reads (Err forms.Form) left x rest = ⊥
Reads (Err forms.NoMemory) left x rest = Unit {0}

-- What was read stood in front, and the rest is left.
abbrev pub Stood : {X : Type 0} → (X → Type 0) → (X → List ℕ) → Result X LineFault → List ℕ → List ℕ → Type 0
Stood Is text (Ok x) old left = Is x × (old ≡ text x ++ left)
Stood Is text (Err fault) old left = Unit {0}

-- What stands in front is read, whichever it is, and what comes after it is left.
abbrev pub ReadsAgain : {X : Type 0} → (X → Type 0) → (X → List ℕ) → (List ℕ → Type 0) → Result X LineFault → List ℕ → List ℕ → Type 0
ReadsAgain {X = X} Is text Ends result old left = (x : X) (rest : List ℕ) → Is x → Ends rest → old ≡ text x ++ rest → Reads result left x rest
