-- Faults that are passed on.
use Rattle.std.proofs.Common.{◌≡◌, Result, Ok, Err, IsErr, IsErrAnd, MatchResult, sym, subst}

-- A fault that is passed on is the one that came.
pub passed_on : {X E : Type 0} (r : Result X E) (e : E) (P : X → Type 0) (Q : E → Type 0) → IsErr r × IsErrAnd r (λ y. y ≡ e) → Q e → MatchResult r P Q
passed_on (Ok x) e P Q h q = absurd (cc)
passed_on (Err f) e P Q h q = subst Q (sym h.1) q
