-- A fault that `?` passes on.
use Rattle.std.proofs.Common.{◌≡◌, ◌∙◌, ap, sym, Result, Ok, Err}
use Rattle.std.specs.Result.{IsErrOf, IsErr, IsErrAnd}
use Rattle.std.proofs.lemmas.Result.{err_from_is_err_and}

abbrev fault_or : {T E : Type 0} → E → Result T E → E
fault_or d (Ok x) = d
fault_or d (Err e) = e

-- the caller's fault is the callee's
pub same_fault : {T E : Type 0} (r : Result T E) (d e : E) → IsErr r × IsErrAnd r (λ y. y ≡ d) → IsErrOf r e → d ≡ e
same_fault r d e h failed =
    let p = err_from_is_err_and r h.1 in
    sym p.2 ∙ ap (λ s. fault_or d s) (sym p.1 ∙ failed)

pub passed_on : {T X E : Type 0} (r : Result T E) (d e : E) → IsErr r × IsErrAnd r (λ y. y ≡ d) → IsErrOf r e → IsErrOf {T = X} (Err d) e
passed_on r d e h failed = ap Err (same_fault r d e h failed)
