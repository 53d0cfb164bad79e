-- All ends of primitives, each once.
use Rattle.std.proofs.Common.{arith, ◌≡◌, ◌∙◌, ℕ, ◌+◌, ◌<◌, ◌≤◌, zero, suc, List, [], ◌∷◌, ◌++◌, length, map, Bool, true, false, cond, ◌&&◌, ◌==◌, nat_le, refl, sym, ap, subst}
use Rattle.std.specs.List.{AllByRecursion, flat_map}
use Rattle.std.proofs.lemmas.Bool.{eqb-true, eq-eqb, ne_eqb, le-leb, leb-true, lt-ltb, le-ltb}
use Rattle.std.proofs.lemmas.List.{length-append, length-map, map-append}
use Rattle.reo_net_base.specs.declared.joint.End.{End}
use Rattle.reo_net_base.specs.Behaviour.{Behaviour}
use Rattle.reo_net_base.specs.Net.{end_of, end_eq, behaviour_at}
use Rattle.reo_kinds.specs.declared.kind.Kind.TheVariants as primitives
use Rattle.reo_kinds.specs.Kinds.{behaviour_of}
use Rattle.reo_rules.specs.Lists.{where_true}
use Rattle.reo_kinds.specs.declared.kind.Kind.{Kind}
use Rattle.reo_flat.specs.Unfolding.{Placed}
use Rattle.reo_flat.specs.Ends.{incoming, outgoing}
use Rattle.reo_flat.specs.Joints.{is_many, end_range, many}
use Rattle.reo_flat.specs.Flat.{branched, branched_with, own_kinds}
use Rattle.reo_flat.proofs.flatten_laws.Times.{one_if, times, own_in}
use Rattle.reo_flat.proofs.flatten_laws.NodeSums.{listed, all_listed, own_sum}

-- How often an end stands among all ends of primitives, from a number on.
abbrev pub total : End → ℕ → List Behaviour → ℕ
total e at [] = 0
total e at (b ∷ bs) = times e (end_range at 0 b.ends) + total e (suc at) bs

pub total-append : (e : End) (at : ℕ) (xs ys : List Behaviour) → total e at (xs ++ ys) ≡ total e at xs + total e (at + length xs) ys
total-append e at [] ys = let same : at ≡ at + 0 = omega arith in let is = ap (λ k. total e k ys) same in omega arith
total-append e at (x ∷ xs) ys =
    let rest = total-append e (suc at) xs ys in
    let same : suc at + length xs ≡ at + suc (length xs) = omega arith in
    let is = ap (λ k. total e k ys) same in
    omega arith

-- Ends of another primitive, and those of the same.
other_number : (i j k from : ℕ) (n : ℕ) → (i ≡ j → ⊥) → times (end_of j k) (end_range i from n) ≡ 0
other_number i j k from zero apart = refl
other_number i j k from (suc n) apart =
    let rest = other_number i j k (from + 1) n apart in
    let no' = ap (λ b. one_if (b && (from == k))) (ne_eqb i j apart) in
    omega arith

before_end : (i k from n : ℕ) → k < from → times (end_of i k) (end_range i from n) ≡ 0
before_end i k from zero below = refl
before_end i k from (suc n) below =
    let rest = before_end i k (from + 1) n (omega arith) in
    let no' = ap (λ b. one_if ((i == i) && b)) (ne_eqb from k (λ same. omega arith)) in
    let none : one_if ((i == i) && false) ≡ 0 = never (i == i) in
    omega arith where
      never : (b : Bool) → one_if (b && false) ≡ 0
      never true = refl
      never false = refl

same_number : (i k from n : ℕ) → from ≤ k → k < from + n → times (end_of i k) (end_range i from n) ≡ 1
same_number i k from zero low high = absurd (omega arith)
same_number i k from (suc n) low high = step (from == k) refl (same_number i k (from + 1) n) where
  step : (b : Bool) → (from == k) ≡ b → (from + 1 ≤ k → k < (from + 1) + n → times (end_of i k) (end_range i (from + 1) n) ≡ 1) → one_if ((i == i) && (from == k)) + times (end_of i k) (end_range i (from + 1) n) ≡ 1
  step true is onward =
      let at : from ≡ k = eqb-true from k is in
      let rest = before_end i k (from + 1) n (omega arith) in
      let here : one_if ((i == i) && (from == k)) ≡ 1 = (λ q. one_if (eq-eqb i i refl q && is q)) in
      omega arith
  step false is onward =
      let apart : from ≡ k → ⊥ = λ same. differ (eq-eqb from k same) is in
      let rest = onward (beyond from k low apart) (omega arith) in
      let here : one_if ((i == i) && (from == k)) ≡ 0 = (λ q. one_if (eq-eqb i i refl q && is q)) in
      omega arith where
        differ : {c : Bool} → c ≡ true → c ≡ false → ⊥
        differ holds fails = cc

        beyond : (a b : ℕ) → a ≤ b → (a ≡ b → ⊥) → a + 1 ≤ b
        beyond a b less apart = omega (arith, apart)

none_before : (i k at : ℕ) (bs : List Behaviour) → i < at → total (end_of i k) at bs ≡ 0
none_before i k at [] below = refl
none_before i k at (b ∷ bs) below =
    let here = other_number at i k 0 b.ends (λ same. omega arith) in
    let rest = none_before i k (suc at) bs (omega arith) in
    omega arith

-- An end that there is stands once.
pub once_in_total : (i k at : ℕ) (bs : List Behaviour) → i < length bs → k < (behaviour_at bs i).ends → total (end_of (at + i) k) at bs ≡ 1
once_in_total i k at [] below is_end = absurd (omega arith)
once_in_total zero k at (b ∷ bs) below is_end =
    let same : at + 0 ≡ at = omega arith in
    let here = same_number at k 0 b.ends (omega arith) (omega arith) in
    let rest = none_before at k (suc at) bs (omega arith) in
    subst (λ j. total (end_of j k) at (b ∷ bs) ≡ 1) (sym same) (omega arith)
once_in_total (suc i) k at (b ∷ bs) below is_end =
    let same : suc at + i ≡ at + suc i = omega arith in
    let here = other_number at (at + suc i) k 0 b.ends (λ e. omega arith) in
    let rest = subst (λ j. total (end_of j k) (suc at) bs ≡ 1) same (once_in_total i k (suc at) bs (omega arith) is_end) in
    omega arith

-- The ends by nodes are those by numbers.
listed-ends : (e : End) (i end : ℕ) (ns : List (List ℕ)) → listed (λ x. one_if (end_eq x e)) i end ns ≡ times e (end_range i end (length ns))
listed-ends e i end [] = refl
listed-ends e i end (n ∷ ns) =
    let rest = listed-ends e i (suc end) ns in
    let same : suc end ≡ end + 1 = omega arith in
    let is = ap (λ k. times e (end_range i k (length ns))) same in
    omega arith

-- What is placed has as many nodes as ends.
abbrev pub Fits : Placed → Type 0
Fits p = length p.nodes ≡ (behaviour_of p.kind).ends

pub listed-total : (e : End) (i : ℕ) (ps : List Placed) → AllByRecursion Fits ps → all_listed (λ x. one_if (end_eq x e)) i ps ≡ total e i (map behaviour_of (map (λ (p : Placed). p.kind) ps))
listed-total e i [] fits = refl
listed-total e i (p ∷ ps) fits =
    let here = listed-ends e i 0 p.nodes in
    let is = ap (λ k. times e (end_range i 0 k)) fits.0 in
    let rest = listed-total e (suc i) ps fits.1 in
    omega arith

-- So many ends that take in, and then one that gives, as a merger has them.
pub record HasInputs (b : Behaviour) (n : ℕ) : Type 0 where
  pub ends : b.ends ≡ suc n
  pub inputs : (x : ℕ) → x < n → b.takes_in x ≡ true
  pub output : b.takes_in n ≡ false

-- One end that takes in, and then so many that give, as a replicator has them.
pub record HasOutputs (b : Behaviour) (n : ℕ) : Type 0 where
  pub ends : b.ends ≡ suc n
  pub input : b.takes_in 0 ≡ true
  pub outputs : (x : ℕ) → 0 < x → b.takes_in x ≡ false

pub merger_inputs : (n : ℕ) → 2 ≤ n → n ≤ 8192 → HasInputs (behaviour_of (branched primitives.Merger n)) n
merger_inputs n some few = step (nat_le 2 n) (nat_le n 8192) refl refl (le-leb 2 n some) (le-leb n 8192 few) where
  step : (a b : Bool) (p : nat_le 2 n ≡ a) (q : nat_le n 8192 ≡ b) → a ≡ true → b ≡ true → HasInputs (behaviour_of (branched_with primitives.Merger n a b p q)) n
  step true true p q x y = record { ends = omega arith; inputs = λ e below. lt-ltb e n below; output = le-ltb n n (omega arith) }
  step true false p q x y = absurd (cc)
  step false b p q x y = absurd (cc)

pub replicator_outputs : (n : ℕ) → 2 ≤ n → n ≤ 8192 → HasOutputs (behaviour_of (branched primitives.Replicator n)) n
replicator_outputs n some few = step (nat_le 2 n) (nat_le n 8192) refl refl (le-leb 2 n some) (le-leb n 8192 few) where
  step : (a b : Bool) (p : nat_le 2 n ≡ a) (q : nat_le n 8192 ≡ b) → a ≡ true → b ≡ true → HasOutputs (behaviour_of (branched_with primitives.Replicator n a b p q)) n
  step true true p q x y = record { ends = omega arith; input = refl; outputs = λ e above. ne_eqb e 0 (λ none. omega arith) }
  step true false p q x y = absurd (cc)
  step false b p q x y = absurd (cc)

-- One primitive, where there are many ends.
one_own : (e : End) (at : ℕ) (ends : List End) (g : Kind) → (is_many ends ≡ true → (behaviour_of g).ends ≡ suc (length ends))
    → total e at (map behaviour_of (where_true (is_many ends) g)) ≡ times e (own_in ends at)
one_own e at ends g is = step (is_many ends) is where
  step : (b : Bool) → (b ≡ true → (behaviour_of g).ends ≡ suc (length ends)) → total e at (map behaviour_of (where_true b g)) ≡ times e (cond b (end_range at 0 (suc (length ends))) [])
  step true is' = let same = ap (λ k. times e (end_range at 0 k)) (is' refl) in omega arith
  step false is' = refl

pub length_own : (ends : List End) (g : Kind) → length (where_true (is_many ends) g) ≡ many ends
length_own ends g = step (is_many ends) where
  step : (b : Bool) → length (where_true b g) ≡ cond b 1 0
  step true = refl
  step false = refl

abbrev pub IsFew : List Placed → List ℕ → Type 0
IsFew placed n = (length (incoming placed n) ≤ 8192) × (length (outgoing placed n) ≤ 8192)

pub own-total : (e : End) (placed : List Placed) (at : ℕ) (ns : List (List ℕ)) → AllByRecursion (IsFew placed) ns → own_sum e placed at ns ≡ total e at (map behaviour_of (flat_map (own_kinds placed) ns))
own-total e placed at [] few = refl
own-total e placed at (n ∷ ns) few =
    let ins = incoming placed n in
    let outs = outgoing placed n in
    let m = where_true (is_many ins) (branched primitives.Merger (length ins)) in
    let r = where_true (is_many outs) (branched primitives.Replicator (length outs)) in
    let beh = behaviour_of in
    let rest = own-total e placed (at + (many ins + many outs)) ns few.1 in
    let here = one_own e at ins (branched primitives.Merger (length ins)) (λ is. (merger_inputs (length ins) (leb-true 2 (length ins) is) few.0.0).ends) in
    let next = one_own e (at + many ins) outs (branched primitives.Replicator (length outs)) (λ is. (replicator_outputs (length outs) (leb-true 2 (length outs) is) few.0.1).ends) in
    let lm = length-map m beh ∙ length_own ins (branched primitives.Merger (length ins)) in
    let lr = length-map r beh ∙ length_own outs (branched primitives.Replicator (length outs)) in
    let mapped = ap (total e at) (map-append beh (m ++ r) (flat_map (own_kinds placed) ns)) ∙ total-append e at (map beh (m ++ r)) (map beh (flat_map (own_kinds placed) ns)) in
    let inner = ap (total e at) (map-append beh m r) ∙ total-append e at (map beh m) (map beh r) in
    let long = ap length (map-append beh m r) ∙ length-append (map beh m) (map beh r) in
    let at_r = ap (λ k. total e (at + k) (map beh r)) lm in
    let at_rest = ap (λ k. total e (at + k) (map beh (flat_map (own_kinds placed) ns))) (long ∙ (λ i. lm i + lr i)) in
    omega arith
