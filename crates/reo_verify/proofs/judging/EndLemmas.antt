-- Whether a run is over.
use Rattle.std.proofs.Common.{◌≡◌, ◌≢◌, true, false, refl}
use Rattle.std.specs.Prelude.{Option, Some, None, is_some}
use Rattle.reo_trace.specs.declared.line.Ending.{Ending}

pub ended_by : (over : Option Ending) → is_some over ≡ true → over ≢ None
ended_by None is = λ none. absurd (cc)
ended_by (Some ending) is = λ none. absurd (cc)

pub on_by : (over : Option Ending) → is_some over ≡ false → over ≡ None
on_by None is = refl
on_by (Some ending) is = absurd (cc)
