-- The node of an end, joint by joint.
use Rattle.std.proofs.Common.{arith, ◌≡◌, ◌∙◌, ℕ, ◌+◌, ◌<◌, zero, suc, List, [], ◌∷◌, length, get_or, drop, Bool, true, false, not, cond, refl, sym, ap}
use Rattle.std.specs.List.{position_or_len}
use Rattle.reo_net_base.specs.declared.joint.End.{End}
use Rattle.reo_net_base.specs.declared.joint.Joint.{Joint}
use Rattle.reo_net_base.specs.Net.{is_at}
use Rattle.reo_top.specs.inventory.Ends.{home_of}

next : (h : ℕ) (hs : List ℕ) (n : ℕ) → get_or hs n 0 ≡ get_or (h ∷ hs) (1 + n) 0
next h hs n =
    let more : suc n ≡ 1 + n = omega arith in
    ap (λ k. get_or (h ∷ hs) k 0) more

here : (j : Joint) (js : List Joint) (h : ℕ) (hs : List ℕ) (e : End) → home_of (j ∷ js) (h ∷ hs) e ≡ cond (is_at e j) h (home_of js hs e)
here j js h hs e = step (is_at e j) where
  step : (b : Bool) → get_or (h ∷ hs) (cond (not b) (1 + position_or_len (is_at e) js) 0) 0 ≡ cond b h (home_of js hs e)
  step true = refl
  step false = sym (next h hs (position_or_len (is_at e) js))

-- One more joint in front.
pub home_before : (js : List Joint) (hs : List ℕ) (k : ℕ) (d : Joint) (e : End) → length hs ≡ length js → k < length js
    → home_of (drop k js) (drop k hs) e ≡ cond (is_at e (get_or js k d)) (get_or hs k 0) (home_of (drop (suc k) js) (drop (suc k) hs) e)
home_before [] hs k d e same below = absurd (omega arith)
home_before (j ∷ js) [] k d e same below = absurd (omega arith)
home_before (j ∷ js) (h ∷ hs) zero d e same below = here j js h hs e
home_before (j ∷ js) (h ∷ hs) (suc k) d e same below = home_before js hs k d e (omega arith) (omega arith)

-- Behind the last joint there is none.
none_left : (js : List Joint) (hs : List ℕ) (e : End) → length hs ≡ length js → home_of (drop (length js) js) (drop (length js) hs) e ≡ 0
none_left [] [] e same = refl
none_left [] (h ∷ hs) e same = absurd (omega arith)
none_left (j ∷ js) [] e same = absurd (omega arith)
none_left (j ∷ js) (h ∷ hs) e same = none_left js hs e (omega arith)

pub home_behind : (js : List Joint) (hs : List ℕ) (k : ℕ) (e : End) → length hs ≡ length js → k ≡ length js → home_of (drop k js) (drop k hs) e ≡ 0
home_behind js hs k e same is = ap (λ n. home_of (drop n js) (drop n hs) e) is ∙ none_left js hs e same
