-- Joints made one after another.
use Rattle.std.proofs.Common.{arith, ◌≡◌, ◌∙◌, ℕ, ◌+◌, ◌<◌, List, [], ◌∷◌, ◌++◌, length, take, get_or, refl, sym, ap}
use Rattle.std.proofs.lemmas.List.{take_more, length-take-le}
use Rattle.std.proofs.lemmas.List.FromFn.{length-map-range_with_len, map-range_with_len_more}
use Rattle.reo_net_base.specs.declared.joint.End.{End}
use Rattle.reo_net_base.specs.Net.{end_of}
use Rattle.reo_flat.specs.Joints.{end_range, pairs}

pairs-more : (gs ts : List End) (g t : End) → length gs ≡ length ts → pairs (gs ++ g ∷ []) (ts ++ t ∷ []) ≡ pairs gs ts ++ record { giver = g; taker = t } ∷ []
pairs-more [] [] g t even = refl
pairs-more [] (x ∷ ts) g t even = absurd (omega arith)
pairs-more (x ∷ gs) [] g t even = absurd (omega arith)
pairs-more (x ∷ gs) (y ∷ ts) g t even = ap (λ js. record { giver = x; taker = y } ∷ js) (pairs-more gs ts g t (omega arith))

-- One joint more from a list of ends to numbered ends, and from numbered ends to a list of ends.
pub pairs-to : (gs : List End) (m from i j : ℕ) (g : End) → from + i ≡ j → i < length gs → g ≡ get_or gs i g → pairs (take (i + 1) gs) (end_range m from (i + 1)) ≡ pairs (take i gs) (end_range m from i) ++ record { giver = g; taker = end_of m j } ∷ []
pairs-to gs m from i j g place within at =
    let long : length (take i gs) ≡ i = length-take-le i gs (omega arith) in
    let many = length-map-range_with_len (λ e. end_of m e) from i in
    (λ k. pairs ((take_more gs i g within ∙ ap (λ x. take i gs ++ x ∷ []) (sym at)) k) (map-range_with_len_more (λ e. end_of m e) from i j place k))
    ∙ pairs-more (take i gs) (end_range m from i) g (end_of m j) (long ∙ sym many)

pub pairs-from : (ts : List End) (m from i j : ℕ) (t : End) → from + i ≡ j → i < length ts → t ≡ get_or ts i t → pairs (end_range m from (i + 1)) (take (i + 1) ts) ≡ pairs (end_range m from i) (take i ts) ++ record { giver = end_of m j; taker = t } ∷ []
pairs-from ts m from i j t place within at =
    let long : length (take i ts) ≡ i = length-take-le i ts (omega arith) in
    let many = length-map-range_with_len (λ e. end_of m e) from i in
    (λ k. pairs (map-range_with_len_more (λ e. end_of m e) from i j place k) ((take_more ts i t within ∙ ap (λ x. take i ts ++ x ∷ []) (sym at)) k))
    ∙ pairs-more (end_range m from i) (take i ts) (end_of m j) t (many ∙ sym long)
