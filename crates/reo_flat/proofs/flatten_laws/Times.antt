-- How often an end stands among ends, and at the joints of a node.
use Rattle.std.proofs.Common.{arith, zero-add, ◌≡◌, ◌∙◌, ℕ, ◌+◌, ◌<◌, zero, suc, List, [], ◌∷◌, ◌++◌, length, Bool, true, false, cond, ◌||◌, refl, sym, ap}
use Rattle.std.specs.List.{range_with_len}
use Rattle.std.proofs.lemmas.Bool.{leb-false}
use Rattle.std.proofs.lemmas.List.{length-map}
use Rattle.std.proofs.lemmas.List.Sums.{sum_by-cons}
use Rattle.reo_net_base.specs.declared.joint.End.{End}
use Rattle.reo_net_base.specs.declared.joint.Joint.{Joint}
use Rattle.reo_net_base.specs.Net.{end_of, end_eq, is_at}
use Rattle.reo_net_circuit.specs.Counts.{joints_at}
use Rattle.reo_flat.specs.Joints.{is_many, end_range, pairs, joints_between}
use Rattle.std.proofs.lemmas.List.FromFn.{length-range_with_len as length-range}

abbrev pub one_if : Bool → ℕ
one_if b = cond b 1 0

-- The weights of ends together.
abbrev pub weigh : (End → ℕ) → List End → ℕ
weigh w [] = 0
weigh w (x ∷ xs) = w x + weigh w xs

-- How often an end stands in a list.
abbrev pub times : End → List End → ℕ
times e xs = weigh (λ x. one_if (end_eq x e)) xs

-- The ends of joints.
abbrev pub ends_in_joints : List Joint → List End
ends_in_joints [] = []
ends_in_joints (j ∷ js) = j.giver ∷ j.taker ∷ ends_in_joints js

pub weigh-append : (w : End → ℕ) (xs ys : List End) → weigh w (xs ++ ys) ≡ weigh w xs + weigh w ys
weigh-append w [] ys = omega arith
weigh-append w (x ∷ xs) ys = let rest = weigh-append w xs ys in omega arith

pub times-append : (e : End) (xs ys : List End) → times e (xs ++ ys) ≡ times e xs + times e ys
times-append e xs ys = weigh-append (λ x. one_if (end_eq x e)) xs ys

pub ends_in_joints-append : (xs ys : List Joint) → ends_in_joints (xs ++ ys) ≡ ends_in_joints xs ++ ends_in_joints ys
ends_in_joints-append [] ys = refl
ends_in_joints-append (x ∷ xs) ys = ap (λ es. x.giver ∷ x.taker ∷ es) (ends_in_joints-append xs ys)

no_joint : (e : End) (js : List Joint) → times e (ends_in_joints js) ≡ 0 → joints_at js e ≡ 0
no_joint e [] none = refl
no_joint e (j ∷ js) none = sum_by-cons (λ k. cond (is_at e k) 1 0) j js ∙ step (end_eq j.giver e) (end_eq j.taker e) (times e (ends_in_joints js)) (joints_at js e) none (no_joint e js) where
  step : (g t : Bool) (n k : ℕ) → one_if g + (one_if t + n) ≡ 0 → (n ≡ 0 → k ≡ 0) → cond (g || t) 1 0 + k ≡ 0
  step true t n k all rest = absurd (omega arith)
  step false true n k all rest = absurd (omega arith)
  step false false n k all rest = let none' : n ≡ 0 = omega arith in let none'' = rest none' in omega arith

-- An end that stands once among the ends of joints is at one joint.
pub one_joint : (e : End) (js : List Joint) → times e (ends_in_joints js) ≡ 1 → joints_at js e ≡ 1
one_joint e [] one = absurd (omega arith)
one_joint e (j ∷ js) one = sum_by-cons (λ k. cond (is_at e k) 1 0) j js ∙ step (end_eq j.giver e) (end_eq j.taker e) (times e (ends_in_joints js)) (joints_at js e) one (no_joint e js) (one_joint e js) where
  step : (g t : Bool) (n k : ℕ) → one_if g + (one_if t + n) ≡ 1 → (n ≡ 0 → k ≡ 0) → (n ≡ 1 → k ≡ 1) → cond (g || t) 1 0 + k ≡ 1
  step true true n k all none once = absurd (omega arith)
  step true false n k all none once = let n0 : n ≡ 0 = omega arith in let k0 = none n0 in omega arith
  step false true n k all none once = let n0 : n ≡ 0 = omega arith in let k0 = none n0 in omega arith
  step false false n k all none once = let n1 : n ≡ 1 = omega arith in let k1 = once n1 in omega arith

-- Pairs have the ends of both lists.
pub times-pairs : (e : End) (gs ts : List End) → length gs ≡ length ts → times e (ends_in_joints (pairs gs ts)) ≡ times e gs + times e ts
times-pairs e [] [] same = refl
times-pairs e [] (t ∷ ts) same = absurd (omega arith)
times-pairs e (g ∷ gs) [] same = absurd (omega arith)
times-pairs e (g ∷ gs) (t ∷ ts) same = let rest = times-pairs e gs ts (omega arith) in omega arith

pub length-end_range : (i from count : ℕ) → length (end_range i from count) ≡ count
length-end_range i from count = length-map (range_with_len from count) (λ k. end_of i k) ∙ length-range from count

-- One end more at the back.
times-end_range : (e : End) (i from count : ℕ) → times e (end_range i from (suc count)) ≡ times e (end_range i from count) + one_if (end_eq (end_of i (from + count)) e)
times-end_range e i from zero = let same : from ≡ from + 0 = omega arith in let at = ap (λ k. one_if (end_eq (end_of i k) e)) same in omega arith
times-end_range e i from (suc n) =
    let rest = times-end_range e i (from + 1) n in
    let same : (from + 1) + n ≡ from + suc n = omega arith in
    let at = ap (λ k. one_if (end_eq (end_of i k) e)) same in
    omega arith

-- What a node has of its own, with its ends.
abbrev pub own_in : List End → ℕ → List End
own_in ins merger = cond (is_many ins) (end_range merger 0 (suc (length ins))) []

abbrev pub own_out : List End → ℕ → List End
own_out outs replicator = cond (is_many outs) (end_range replicator 0 (suc (length outs))) []

one_end : (xs : List End) → 0 < length xs → is_many xs ≡ false → length xs ≡ 1
one_end xs some few = let less = leb-false 2 (length xs) few in omega arith

times_three : (e : End) (xs ys zs : List Joint) → times e (ends_in_joints (xs ++ (ys ++ zs))) ≡ times e (ends_in_joints xs) + (times e (ends_in_joints ys) + times e (ends_in_joints zs))
times_three e xs ys zs =
    let first = ap (times e) (ends_in_joints-append xs (ys ++ zs)) ∙ times-append e (ends_in_joints xs) (ends_in_joints (ys ++ zs)) in
    let second = ap (times e) (ends_in_joints-append ys zs) ∙ times-append e (ends_in_joints ys) (ends_in_joints zs) in
    first ∙ ap (λ k. times e (ends_in_joints xs) + k) second

-- The joints of a node have each of its ends, and each end of its merger and replicator, once.
pub node_ends : (e : End) (ins outs : List End) (merger replicator : ℕ) → 0 < length ins → 0 < length outs
    → times e (ends_in_joints (joints_between ins outs merger replicator)) ≡ (times e ins + times e outs) + (times e (own_in ins merger) + times e (own_out outs replicator))
node_ends e ins outs merger replicator some_in some_out = step (is_many ins) (is_many outs) (one_end ins some_in) (one_end outs some_out) where
  step : (a b : Bool) → (a ≡ false → length ins ≡ 1) → (b ≡ false → length outs ≡ 1)
      → times e (ends_in_joints (cond a (pairs ins (end_range merger 0 (length ins))) [] ++ (pairs (cond a (end_of merger (length ins) ∷ []) ins) (cond b (end_of replicator 0 ∷ []) outs) ++ cond b (pairs (end_range replicator 1 (length outs)) outs) [])))
      ≡ (times e ins + times e outs) + (times e (cond a (end_range merger 0 (suc (length ins))) []) + times e (cond b (end_range replicator 0 (suc (length outs))) []))
  step true true one_in one_out =
      let all = times_three e (pairs ins (end_range merger 0 (length ins))) (pairs (end_of merger (length ins) ∷ []) (end_of replicator 0 ∷ [])) (pairs (end_range replicator 1 (length outs)) outs) in
      let x = times-pairs e ins (end_range merger 0 (length ins)) (sym (length-end_range merger 0 (length ins))) in
      let z = times-pairs e (end_range replicator 1 (length outs)) outs (length-end_range replicator 1 (length outs)) in
      let more = times-end_range e merger 0 (length ins) in
      let at = ap (λ k. one_if (end_eq (end_of merger k) e)) (zero-add (length ins)) in
      omega arith
  step true false one_in one_out =
      let all = times_three e (pairs ins (end_range merger 0 (length ins))) (pairs (end_of merger (length ins) ∷ []) outs) [] in
      let x = times-pairs e ins (end_range merger 0 (length ins)) (sym (length-end_range merger 0 (length ins))) in
      let y = times-pairs e (end_of merger (length ins) ∷ []) outs (sym (one_out refl)) in
      let more = times-end_range e merger 0 (length ins) in
      let at = ap (λ k. one_if (end_eq (end_of merger k) e)) (zero-add (length ins)) in
      omega arith
  step false true one_in one_out =
      let all = times_three e [] (pairs ins (end_of replicator 0 ∷ [])) (pairs (end_range replicator 1 (length outs)) outs) in
      let y = times-pairs e ins (end_of replicator 0 ∷ []) (one_in refl) in
      let z = times-pairs e (end_range replicator 1 (length outs)) outs (length-end_range replicator 1 (length outs)) in
      omega arith
  step false false one_in one_out =
      let all = times_three e [] (pairs ins outs) [] in
      let y = times-pairs e ins outs (one_in refl ∙ sym (one_out refl)) in
      omega arith
