-- What a repeat comes to.
use Rattle.std.proofs.Common.{◌≡◌, ◌∙◌, ℕ, zero, suc, ◌+◌, ◌*◌, ◌<◌, List, [], ◌∷◌, ◌++◌, length, slice_get, flat_map, refl, sym, ap, arith}
use Rattle.std.proofs.lemmas.List.{length-append}
use Rattle.reo_players.specs.Written.{Task, times_over, written}
use Rattle.reo_players.proofs.Bodies.{written_repeat}
use Rattle.reo_players.specs.player_laws.Repeats.{RepeatsAreWrittenOut}

-- Places in lists joined end to end.
get_first : (xs ys : List Task) (i : ℕ) → i < length xs → slice_get (xs ++ ys) i ≡ slice_get xs i
get_first [] ys i h = absurd (omega (arith, h))
get_first (x ∷ xs) ys zero h = refl
get_first (x ∷ xs) ys (suc i) h = get_first xs ys i (omega (arith, h))

get_second : (xs ys : List Task) (i : ℕ) → slice_get (xs ++ ys) (length xs + i) ≡ slice_get ys i
get_second [] ys i = ap (slice_get ys) (omega arith)
get_second (x ∷ xs) ys i =
    let shift : length (x ∷ xs) + i ≡ suc (length xs + i) = omega arith in
    ap (slice_get (x ∷ (xs ++ ys))) shift ∙ get_second xs ys i

-- A list so many times over.
counted : (times : ℕ) (ts : List Task) → length (times_over times ts) ≡ times * length ts
counted zero ts = omega arith
counted (suc times) ts =
    let rest = counted times ts in
    let more : suc times * length ts ≡ length ts + times * length ts = omega arith in
    length-append ts (times_over times ts) ∙ ap (λ (n : ℕ). length ts + n) rest ∙ sym more

placed : (times : ℕ) (ts : List Task) (time place : ℕ) → time < times → place < length ts
    → slice_get (times_over times ts) (time * length ts + place) ≡ slice_get ts place
placed zero ts time place h k = absurd (omega (arith, h))
placed (suc times) ts zero place h k =
    let first : zero * length ts + place ≡ place = omega arith in
    ap (slice_get (ts ++ times_over times ts)) first ∙ get_first ts (times_over times ts) place k
placed (suc times) ts (suc time) place h k =
    let next : suc time * length ts + place ≡ length ts + (time * length ts + place) = omega arith in
    ap (slice_get (ts ++ times_over times ts)) next ∙ get_second ts (times_over times ts) (time * length ts + place) ∙ placed times ts time place (omega (arith, h)) k

pub repeated : RepeatsAreWrittenOut
repeated times body =
    let ts : List Task = flat_map written body in
    let is = written_repeat times body in
    record {
      count = ap length is ∙ counted times ts;
      places = λ time place h k. ap (λ (l : List Task). slice_get l (time * length ts + place)) is ∙ placed times ts time place h k;
    }
