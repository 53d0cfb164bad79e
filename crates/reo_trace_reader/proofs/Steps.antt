-- One step after another.
use Rattle.std.proofs.Common.{◌≡◌, ℕ, List, Result, Ok, Err}
use Rattle.std.specs.Result.{IsErr, IsErrAnd}
use Rattle.reo_trace_reader.specs.declared.texts.fault.LineFault.{LineFault}
use Rattle.reo_trace_reader.specs.declared.texts.fault.LineFault.TheVariants as forms
use Rattle.reo_trace_reader.specs.Reads.{Reads}

-- `?` passes on what a part found
pub passes : {X Y : Type 0} (r : Result Y LineFault) (d : LineFault) (m : List ℕ) (x : X) (p left : List ℕ) (y : Y) (rest : List ℕ)
    → Reads {X = X} (Err d) m x p → IsErr r × IsErrAnd r (λ z. z ≡ d) → Reads r left y rest
passes (Ok v) d m x p left y rest reads h = absurd (cc)
passes (Err forms.Form) forms.Form m x p left y rest reads h = absurd reads
passes (Err forms.Form) forms.NoMemory m x p left y rest reads h = absurd (cc)
passes (Err forms.NoMemory) d m x p left y rest reads h = tt

-- a refusal says that nothing stood there
pub form_none : {X : Type 0} (d : LineFault) (left : List ℕ) (x : X) (rest : List ℕ) → d ≡ forms.Form → Reads (Err d) left x rest → ⊥
form_none forms.Form left x rest e reads = reads
form_none forms.NoMemory left x rest e reads = absurd (cc)
