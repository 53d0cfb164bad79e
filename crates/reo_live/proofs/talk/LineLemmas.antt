-- Lines within bytes.
use Rattle.std.proofs.Common.{◌≡◌, ◌≢◌, ℕ, zero, suc, ◌+◌, ◌-◌, ◌<◌, ◌==◌, Bool, true, false, cond, List, [], ◌∷◌, refl, sym, ap, subst, length, take, drop, arith}
use Rattle.std.specs.Prelude.{slice_index}
use Rattle.std.proofs.Math.Seq.{take-length}
use Rattle.std.proofs.lemmas.Bool.Decides.{nat_tests}
use Rattle.std.proofs.lemmas.List.{length-drop}
use Rattle.reo_values.specs.Bytes.{line_feed}
use Rattle.reo_live.specs.base.Hearing.{without_return, carriage_return}
use Rattle.reo_live.specs.talk.Feeds.{HasNoFeed, IsCut}

front_none : (b : ℕ) (front : List ℕ) → b ≢ line_feed → HasNoFeed front → HasNoFeed (b ∷ front)
front_none b front first none zero lt = first
front_none b front first none (suc k) lt = none k (omega arith)

-- A slice up to its end.
up_to_end : (bytes : List ℕ) (m : ℕ) → take (length bytes - m) (drop m bytes) ≡ drop m bytes
up_to_end bytes m = subst (λ (n : ℕ). take n (drop m bytes) ≡ drop m bytes) (length-drop m bytes) (take-length (drop m bytes))

cut_behind : (bytes : List ℕ) (i : ℕ) → i < length bytes → slice_index bytes i ≡ line_feed → ((k : ℕ) → k < i → slice_index bytes k ≢ line_feed) → IsCut bytes (take i bytes) (drop (suc i) bytes)
cut_behind [] i lt is before = absurd (omega arith)
cut_behind (b ∷ bs) zero lt is before = record { none = λ k h. absurd (omega (arith, h)); cut = ap (λ (x : ℕ). x ∷ bs) is }
cut_behind (b ∷ bs) (suc i) lt is before =
    let rest : IsCut bs (take i bs) (drop (suc i) bs) = cut_behind bs i (omega arith) is (λ k h. before (suc k) (omega arith)) in
    record { none = front_none b (take i bs) (before zero (omega arith)) rest.none; cut = ap (λ (l : List ℕ). b ∷ l) rest.cut }

-- The bytes before the first line feed, and those behind it.
pub cut_at : (bytes : List ℕ) (i m : ℕ) → m ≡ suc i → i < length bytes → slice_index bytes i ≡ line_feed → ((k : ℕ) → k < i → slice_index bytes k ≢ line_feed)
    → IsCut bytes (take i bytes) (take (length bytes - m) (drop m bytes))
cut_at bytes i m next lt is before =
    subst (λ (l : List ℕ). IsCut bytes (take i bytes) l) (sym (up_to_end bytes m))
    (subst (λ (n : ℕ). IsCut bytes (take i bytes) (drop n bytes)) (sym next) (cut_behind bytes i lt is before))

pub keeps_return : (bytes : List ℕ) → ((k : ℕ) → k + 1 ≡ length bytes → slice_index bytes k ≢ carriage_return) → bytes ≡ without_return bytes
keeps_return [] other = refl
keeps_return (b ∷ []) other =
    let last : b ≢ carriage_return = other zero refl in
    let test : (b == carriage_return) ≡ false = grind (arith, nat_tests) in
    sym (ap (λ (t : Bool). cond t [] (b ∷ [])) test)
keeps_return (b ∷ (c ∷ bs)) other = ap (λ (l : List ℕ). b ∷ l) (keeps_return (c ∷ bs) (λ k e. other (suc k) (omega (arith, e))))

pub drops_return : (bytes : List ℕ) (n : ℕ) → n + 1 ≡ length bytes → slice_index bytes n ≡ carriage_return → take n bytes ≡ without_return bytes
drops_return [] n e is = absurd (omega (arith, e))
drops_return (b ∷ []) zero e is =
    let test : (b == carriage_return) ≡ true = grind (arith, nat_tests) in
    sym (ap (λ (t : Bool). cond t [] (b ∷ [])) test)
drops_return (b ∷ []) (suc n) e is = absurd (omega (arith, e))
drops_return (b ∷ (c ∷ bs)) zero e is = absurd (omega (arith, e))
drops_return (b ∷ (c ∷ bs)) (suc n) e is = ap (λ (l : List ℕ). b ∷ l) (drops_return (c ∷ bs) n (omega (arith, e)) is)
