-- What a pass over a part of a program answers.
use Rattle.std.specs.Prelude.{◌≡◌, ◌⊎◌, Some, List, [], Result, MatchResult}
use Rattle.reo_rules.specs.declared.fault.FlatFault.{FlatFault}
use Rattle.reo_rules.specs.declared.fault.FlatFault.TheVariants as faults
use Rattle.reo_rules.specs.Lists.{first_of}

-- The fault is the first of these breaks, or out of memory.
abbrev pub IsFirst : List FlatFault → FlatFault → Type 0
IsFirst breaks fault = (fault ≡ faults.NoMemory) ⊎ (first_of breaks ≡ Some fault)

-- The answer of a pass that looks for these breaks.
abbrev pub IsJudged : {A : Type 0} → List FlatFault → Result A FlatFault → Type 0
IsJudged breaks answer = MatchResult answer (λ _. breaks ≡ []) (IsFirst breaks)
