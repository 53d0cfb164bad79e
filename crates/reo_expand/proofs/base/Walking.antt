-- Steps one after another.
use Rattle.std.proofs.Common.{◌≡◌, ◌⊎◌, ℕ, ◌+◌, Bool, true, false, cond, nat_lt, Result, Ok, Err, IsErr, IsErrAnd, MatchResult, List, [], ◌∷◌, ◌++◌, ap, sym, subst, inl, inr}
use Rattle.reo_expand.specs.declared.base.fault.ExpandFault.{ExpandFault}
use Rattle.reo_expand.specs.declared.base.fault.ExpandFault.TheVariants as faults
use Rattle.reo_expand.specs.base.Steps.{Step, walked}
use Rattle.reo_expand.specs.base.Steps.Step.{counted, refused}
use Rattle.reo_expand.specs.base.Judged.{IsHalted}

no-ok : (f : ExpandFault) (m : ℕ) → Err f ≡ Ok m → ⊥
no-ok f m h = cc

abbrev ended : ℕ → Result ℕ ExpandFault
ended n = Ok n

same-ok : (n m : ℕ) → ended n ≡ ended m → n ≡ m
same-ok n m h = cc

then-by : (b : Bool) (x y z : Result ℕ ExpandFault) (m : ℕ) → cond b (Err faults.TooMany) x ≡ Ok m → (x ≡ Ok m → y ≡ z) → cond b (Err faults.TooMany) y ≡ z
then-by true x y z m h k = absurd (no-ok faults.TooMany m h)
then-by false x y z m h k = k h

stop-by : (b : Bool) (x y : Result ℕ ExpandFault) (f : ExpandFault) → cond b (Err faults.TooMany) x ≡ Err f → (x ≡ Err f → y ≡ Err f) → cond b (Err faults.TooMany) y ≡ Err f
stop-by true x y f h k = h
stop-by false x y f h k = k h

-- Behind steps that lead to a count the walk goes on from that count.
pub walked-then : (n m : ℕ) (a b : List Step) → walked n a ≡ Ok m → walked n (a ++ b) ≡ walked m b
walked-then n m [] b h = ap (λ i. walked i b) (same-ok n m h)
walked-then n m (refused f ∷ a) b h = absurd (no-ok f m h)
walked-then n m (counted k ∷ a) b h = then-by (nat_lt 65536 (n + k)) (walked (n + k) a) (walked (n + k) (a ++ b)) (walked m b) m h (walked-then (n + k) m a b)

-- Where it is refused, nothing behind matters.
pub walked-stop : (n : ℕ) (a b : List Step) (f : ExpandFault) → walked n a ≡ Err f → walked n (a ++ b) ≡ Err f
walked-stop n [] b f h = absurd (cc)
walked-stop n (refused g ∷ a) b f h = h
walked-stop n (counted k ∷ a) b f h = stop-by (nat_lt 65536 (n + k)) (walked (n + k) a) (walked (n + k) (a ++ b)) f h (walked-stop (n + k) a b f)

-- And a fault of memory stays one.
pub stop-or-memory : (n : ℕ) (a b : List Step) (f : ExpandFault) → (f ≡ faults.NoMemory) ⊎ (walked n a ≡ Err f) → (f ≡ faults.NoMemory) ⊎ (walked n (a ++ b) ≡ Err f)
stop-or-memory n a b f (inl h) = inl h
stop-or-memory n a b f (inr h) = inr (walked-stop n a b f h)

pub then-or-memory : (n m : ℕ) (a b : List Step) (f : ExpandFault) → walked n a ≡ Ok m → (f ≡ faults.NoMemory) ⊎ (walked m b ≡ Err f) → (f ≡ faults.NoMemory) ⊎ (walked n (a ++ b) ≡ Err f)
then-or-memory n m a b f e (inl h) = inl h
then-or-memory n m a b f e (inr h) = inr (rw (walked-then n m a b e) h)

-- A fault that was passed on.
pub passed : {A : Type 0} (P : A → Type 0) (H : ExpandFault → Type 0) (r : Result A ExpandFault) (d : ExpandFault) → IsErr r × IsErrAnd r (λ y. y ≡ d) → H d → MatchResult r P H
passed P H (Ok v) d h is = absurd (cc)
passed P H (Err e) d h is = subst H (sym h.1) is

-- A refusal that comes first is the answer, whatever follows.
pub halted : (n : ℕ) (a b : List Step) (f : ExpandFault) → IsHalted a f → (f ≡ faults.NoMemory) ⊎ (walked n (a ++ b) ≡ Err f)
halted n a b f (inl memory) = inl memory
halted n a b f (inr (rest, is)) = inr (ap (λ s. walked n (s ++ b)) is)

pub halted_more : (a b : List Step) (f : ExpandFault) → IsHalted a f → IsHalted (a ++ b) f
halted_more a b f (inl memory) = inl memory
halted_more a b f (inr (rest, is)) = inr (rest ++ b, ap (λ s. s ++ b) is)
