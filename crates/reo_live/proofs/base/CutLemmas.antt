-- Bytes that are cut behind one another are cut as their sum.
use Rattle.std.proofs.Common.{◌≡◌, ◌∙◌, ℕ, ◌+◌, ◌<◌, ◌==◌, Bool, true, false, cond, List, [], ◌∷◌, ◌++◌, length, ap, sym, refl, append_assoc, arith}
use Rattle.std.specs.Prelude.{nat_le}
use Rattle.std.proofs.lemmas.Bool.Decides.{nat_tests}
use Rattle.std.proofs.lemmas.List.{length-append}
use Rattle.reo_values.specs.Bytes.{line_feed}
use Rattle.reo_live.specs.base.Lines.{begun_by, are_none, ended_lines, open_line}
use Rattle.reo_live.specs.base.Held.{Held, short, long, held, joined, most_bytes}

begun-none : (ls : List (List ℕ)) → begun_by [] ls ≡ ls
begun-none [] = refl
begun-none (l ∷ ls) = refl

begun-twice : (x y : List ℕ) (ls : List (List ℕ)) → begun_by x (begun_by y ls) ≡ begun_by (x ++ y) ls
begun-twice x y [] = refl
begun-twice x y (l ∷ ls) = ap (λ m. m ∷ ls) (sym (append_assoc x y l))

-- One byte more in front, by whether it is a line feed: the lines.
lines-step : (t : Bool) (x : ℕ) (front : List (List ℕ)) (o : List ℕ) (bs : List (List ℕ))
    → cond t ([] ∷ (front ++ begun_by o bs)) (begun_by (x ∷ []) (front ++ begun_by o bs))
    ≡ cond t ([] ∷ front) (begun_by (x ∷ []) front) ++ begun_by (cond t o (cond (are_none front) (x ∷ o) o)) bs
lines-step true x front o bs = refl
lines-step false x [] o bs = begun-twice (x ∷ []) o bs
lines-step false x (l ∷ ls) o bs = refl

pub lines-append : (a b : List ℕ) → ended_lines (a ++ b) ≡ ended_lines a ++ begun_by (open_line a) (ended_lines b)
lines-append [] b = sym (begun-none (ended_lines b))
lines-append (x ∷ xs) b =
    ap (λ ls. cond (x == line_feed) ([] ∷ ls) (begun_by (x ∷ []) ls)) (lines-append xs b)
    ∙ lines-step (x == line_feed) x (ended_lines xs) (open_line xs) (ended_lines b)

-- And the bytes behind the last line feed.
open-step : (t : Bool) (x : ℕ) (front : List (List ℕ)) (o : List ℕ) (bs : List (List ℕ)) (p : List ℕ)
    → cond t (cond (are_none bs) (o ++ p) p) (cond (are_none (front ++ begun_by o bs)) (x ∷ cond (are_none bs) (o ++ p) p) (cond (are_none bs) (o ++ p) p))
    ≡ cond (are_none bs) (cond t o (cond (are_none front) (x ∷ o) o) ++ p) p
open-step true x front o bs p = refl
open-step false x [] o [] p = refl
open-step false x [] o (y ∷ ys) p = refl
open-step false x (l ∷ ls) o [] p = refl
open-step false x (l ∷ ls) o (y ∷ ys) p = refl

same-both : (t : Bool) (p : List ℕ) → p ≡ cond t p p
same-both true p = refl
same-both false p = refl

pub open-append : (a b : List ℕ) → open_line (a ++ b) ≡ cond (are_none (ended_lines b)) (open_line a ++ open_line b) (open_line b)
open-append [] b = same-both (are_none (ended_lines b)) (open_line b)
open-append (x ∷ xs) b =
    (λ i. cond (x == line_feed) (open-append xs b i) (cond (are_none (lines-append xs b i)) (x ∷ open-append xs b i) (open-append xs b i)))
    ∙ open-step (x == line_feed) x (ended_lines xs) (open_line xs) (ended_lines b) (open_line b)

-- A line that is joined twice is joined with both.
joined-short : (b x y : List ℕ) (t : Bool) → nat_le (length (b ++ x)) most_bytes ≡ t → joined (cond t (short (b ++ x)) long) y ≡ held (b ++ (x ++ y))
joined-short b x y true e = ap held (append_assoc b x y)
joined-short b x y false e =
    let more : most_bytes < length (b ++ x) = grind (arith, nat_tests) in
    let longer : length (b ++ (x ++ y)) ≡ length (b ++ x) + length y = ap length (sym (append_assoc b x y)) ∙ length-append (b ++ x) y in
    let no : nat_le (length (b ++ (x ++ y))) most_bytes ≡ false = grind (arith, nat_tests) in
    ap (λ v. cond v (short (b ++ (x ++ y))) long) (sym no)

pub joined-twice : (h : Held) (x y : List ℕ) → joined (joined h x) y ≡ joined h (x ++ y)
joined-twice (short b) x y = joined-short b x y (nat_le (length (b ++ x)) most_bytes) refl
joined-twice long x y = refl
