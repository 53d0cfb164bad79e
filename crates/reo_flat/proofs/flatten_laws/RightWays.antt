-- Joints go from ends that give to ends that take in.
use Rattle.std.proofs.Common.{arith, ◌≡◌, ◌∙◌, ℕ, ◌+◌, ◌<◌, ◌≤◌, zero, suc, List, [], ◌∷◌, ◌++◌, length, map, Bool, true, false, cond, ◌&&◌, refl, sym, ap, subst, bytes_eq}
use Rattle.std.specs.List.{AllByRecursion, flat_map}
use Rattle.std.proofs.lemmas.Bool.{leb-true}
use Rattle.std.proofs.lemmas.List.{append_assoc, length-append, length-map, map-append}
use Rattle.reo_net_base.specs.declared.joint.End.{End}
use Rattle.reo_net_base.specs.declared.joint.Joint.{Joint}
use Rattle.reo_net_base.specs.Behaviour.{Behaviour}
use Rattle.reo_net_base.specs.Net.{end_of, behaviour_at}
use Rattle.reo_kinds.specs.declared.kind.Kind.TheVariants as primitives
use Rattle.reo_kinds.specs.Kinds.{behaviour_of}
use Rattle.reo_rules.specs.Lists.{where_true}
use Rattle.reo_kinds.specs.declared.kind.Kind.{Kind}
use Rattle.reo_flat.specs.Unfolding.{Placed}
use Rattle.reo_rules.specs.Touches.{bool_eq}
use Rattle.reo_flat.specs.Ends.{ends_in, ends_from, incoming, outgoing}
use Rattle.reo_flat.specs.Joints.{is_many, end_range, pairs, joints_between, joints_of, many}
use Rattle.reo_flat.specs.Flat.{branched, own_kinds, joints_at}
use Rattle.reo_flat.proofs.flatten_laws.AllEnds.{Fits, IsFew, length_own, HasInputs, HasOutputs, merger_inputs, replicator_outputs}
use Rattle.reo_flat.proofs.flatten_laws.Each.{both}

-- The primitive with a number.
abbrev pub At : List Behaviour → ℕ → Behaviour → Type 0
At bs i b = (i < length bs) × (behaviour_at bs i ≡ b)

-- The primitives from a number on.
abbrev pub Holds : List Behaviour → ℕ → List Behaviour → Type 0
Holds bs i [] = Unit {0}
Holds bs i (x ∷ xs) = At bs i x × Holds bs (suc i) xs

at_front : (front : List Behaviour) (b : Behaviour) (rest : List Behaviour) → At (front ++ b ∷ rest) (length front) b
at_front [] b rest = (omega arith, refl)
at_front (x ∷ front) b rest = let more = at_front front b rest in let below = more.0 in (omega arith, more.1)

pub all_hold : (front bs : List Behaviour) → Holds (front ++ bs) (length front) bs
all_hold front [] = tt
all_hold front (b ∷ bs) =
    let long : length (front ++ b ∷ []) ≡ suc (length front) = length-append front (b ∷ []) ∙ omega arith in
    (at_front front b bs, (subst (λ w. Holds w (suc (length front)) bs) (append_assoc front (b ∷ []) bs) (subst (λ n. Holds ((front ++ b ∷ []) ++ bs) n bs) long (all_hold (front ++ b ∷ []) bs))))

pub holds_split : (bs : List Behaviour) (i : ℕ) (xs ys : List Behaviour) → Holds bs i (xs ++ ys) → Holds bs i xs × Holds bs (i + length xs) ys
holds_split bs i [] ys h = let same : i ≡ i + 0 = omega arith in (tt, subst (λ n. Holds bs n ys) same h)
holds_split bs i (x ∷ xs) ys h =
    let more = holds_split bs (suc i) xs ys h.1 in
    let same : suc i + length xs ≡ i + suc (length xs) = omega arith in
    ((h.0, more.0), subst (λ n. Holds bs n ys) same more.1)

-- An end that there is, which takes in, or gives.
abbrev pub Goes : List Behaviour → Bool → End → Type 0
Goes bs takes e = (e.primitive < length bs) × (e.end < (behaviour_at bs e.primitive).ends) × ((behaviour_at bs e.primitive).takes_in e.end ≡ takes)

goes_at : (bs : List Behaviour) (i : ℕ) (b : Behaviour) (takes : Bool) (x : ℕ) → At bs i b → x < b.ends → b.takes_in x ≡ takes → Goes bs takes (end_of i x)
goes_at bs i b takes x at below is = (at.0, subst (λ (c : Behaviour). x < c.ends) (sym at.1) below, ap (λ (c : Behaviour). c.takes_in x) at.1 ∙ is)

where_goes : (P : End → Type 0) (e : End) (t v takes : Bool) → (v ≡ takes → P e) → AllByRecursion P (where_true (t && bool_eq v takes) e)
where_goes P e false v takes goes = tt
where_goes P e true true true goes = (goes refl, tt)
where_goes P e true true false goes = tt
where_goes P e true false true goes = tt
where_goes P e true false false goes = (goes refl, tt)

module _ (bs : List Behaviour) where
  in_one : (i : ℕ) (b : Behaviour) (takes : Bool) (node : List ℕ) → At bs i b → (x : ℕ) (ns : List (List ℕ)) → x + length ns ≤ b.ends → AllByRecursion (Goes bs takes) (ends_in b takes node i x ns)
  in_one i b takes node at x [] fits = tt
  in_one i b takes node at x (n ∷ ns) fits =
      both (Goes bs takes) (where_true (bytes_eq node n && bool_eq (b.takes_in x) takes) (end_of i x)) (ends_in b takes node i (suc x) ns)
      (where_goes (Goes bs takes) (end_of i x) (bytes_eq node n) (b.takes_in x) takes (λ is. goes_at bs i b takes x at (omega arith) is))
      (in_one i b takes node at (suc x) ns (omega arith))

  -- Ends at a node go the way that they are asked for.
  pub all_go : (takes : Bool) (node : List ℕ) (i : ℕ) (ps : List Placed) → AllByRecursion Fits ps → Holds bs i (map behaviour_of (map (λ (p : Placed). p.kind) ps)) → AllByRecursion (Goes bs takes) (ends_from takes node i ps)
  all_go takes node i [] fits holds = tt
  all_go takes node i (p ∷ ps) fits holds =
      let same = fits.0 in
      both (Goes bs takes) (ends_in (behaviour_of p.kind) takes node i 0 p.nodes) (ends_from takes node (suc i) ps)
      (in_one i (behaviour_of p.kind) takes node holds.0 0 p.nodes (omega arith)) (all_go takes node (suc i) ps fits.1 holds.1)

  -- A joint goes from an end that gives to one that takes in.
  abbrev pub GoesOn : Joint → Type 0
  GoesOn j = Goes bs false j.giver × Goes bs true j.taker

  pairs_go : (gs ts : List End) → AllByRecursion (Goes bs false) gs → AllByRecursion (Goes bs true) ts → AllByRecursion GoesOn (pairs gs ts)
  pairs_go [] ts a b = tt
  pairs_go (g ∷ gs) [] a b = tt
  pairs_go (g ∷ gs) (t ∷ ts) a b = ((a.0, b.0), pairs_go gs ts a.1 b.1)

  -- A primitive with so many inputs, or outputs, is there.
  abbrev HasMerger : ℕ → ℕ → Type 0
  HasMerger i n = (i < length bs) × HasInputs (behaviour_at bs i) n

  abbrev HasReplicator : ℕ → ℕ → Type 0
  HasReplicator i n = (i < length bs) × HasOutputs (behaviour_at bs i) n

  inputs_go : (i n : ℕ) → HasMerger i n → (from count : ℕ) → from + count ≤ n → AllByRecursion (Goes bs true) (end_range i from count)
  inputs_go i n there from zero within = tt
  inputs_go i n there from (suc count) within =
      let long = there.1.ends in
      ((there.0, omega arith, there.1.inputs from (omega arith)), inputs_go i n there (from + 1) count (omega arith))

  outputs_go : (i n : ℕ) → HasReplicator i n → (from count : ℕ) → 1 ≤ from → from + count ≤ n + 1 → AllByRecursion (Goes bs false) (end_range i from count)
  outputs_go i n there from zero some within = tt
  outputs_go i n there from (suc count) some within =
      let long = there.1.ends in
      ((there.0, omega arith, there.1.outputs from (omega arith)), outputs_go i n there (from + 1) count (omega arith) (omega arith))

  node_goes : (ins outs : List End) (m r : ℕ) → AllByRecursion (Goes bs false) ins → AllByRecursion (Goes bs true) outs → (is_many ins ≡ true → HasMerger m (length ins)) → (is_many outs ≡ true → HasReplicator r (length outs))
      → AllByRecursion GoesOn (joints_between ins outs m r)
  node_goes ins outs m r gives takes at_m at_r = step (is_many ins) (is_many outs) at_m at_r where
    step : (a b : Bool) → (a ≡ true → HasMerger m (length ins)) → (b ≡ true → HasReplicator r (length outs))
        → AllByRecursion GoesOn (cond a (pairs ins (end_range m 0 (length ins))) [] ++ (pairs (cond a (end_of m (length ins) ∷ []) ins) (cond b (end_of r 0 ∷ []) outs) ++ cond b (pairs (end_range r 1 (length outs)) outs) []))
    step a b am ar = both GoesOn _ _ (first a am) (both GoesOn _ _ (pairs_go _ _ (middle a am) (after b ar)) (last b ar)) where
      first : (c : Bool) → (c ≡ true → HasMerger m (length ins)) → AllByRecursion GoesOn (cond c (pairs ins (end_range m 0 (length ins))) [])
      first true at = pairs_go ins (end_range m 0 (length ins)) gives (inputs_go m (length ins) (at refl) 0 (length ins) (omega arith))
      first false at = tt

      middle : (c : Bool) → (c ≡ true → HasMerger m (length ins)) → AllByRecursion (Goes bs false) (cond c (end_of m (length ins) ∷ []) ins)
      middle true at = let there = at refl in let long = there.1.ends in ((there.0, omega arith, there.1.output), tt)
      middle false at = gives

      after : (c : Bool) → (c ≡ true → HasReplicator r (length outs)) → AllByRecursion (Goes bs true) (cond c (end_of r 0 ∷ []) outs)
      after true at = let there = at refl in let long = there.1.ends in ((there.0, omega arith, there.1.input), tt)
      after false at = takes

      last : (c : Bool) → (c ≡ true → HasReplicator r (length outs)) → AllByRecursion GoesOn (cond c (pairs (end_range r 1 (length outs)) outs) [])
      last true at = pairs_go (end_range r 1 (length outs)) outs (outputs_go r (length outs) (at refl) 1 (length outs) (omega arith) (omega arith)) takes
      last false at = tt

  hold_one : (at : ℕ) (b : Bool) (g : Kind) → Holds bs at (map behaviour_of (where_true b g)) → b ≡ true → At bs at (behaviour_of g)
  hold_one at true g holds is = holds.0
  hold_one at false g holds is = absurd (cc)

  pub joints_go : (placed : List Placed) → ((n : List ℕ) → AllByRecursion (Goes bs false) (incoming placed n)) → ((n : List ℕ) → AllByRecursion (Goes bs true) (outgoing placed n))
      → (at : ℕ) (ns : List (List ℕ)) → AllByRecursion (IsFew placed) ns → Holds bs at (map behaviour_of (flat_map (own_kinds placed) ns)) → AllByRecursion GoesOn (joints_at placed at ns)
  joints_go placed gives takes at [] few holds = tt
  joints_go placed gives takes at (n ∷ ns) few holds =
      let ins = incoming placed n in
      let outs = outgoing placed n in
      let beh = behaviour_of in
      let m = where_true (is_many ins) (branched primitives.Merger (length ins)) in
      let r = where_true (is_many outs) (branched primitives.Replicator (length outs)) in
      let rest = map beh (flat_map (own_kinds placed) ns) in
      let lm = length-map m beh ∙ length_own ins (branched primitives.Merger (length ins)) in
      let lr = length-map r beh ∙ length_own outs (branched primitives.Replicator (length outs)) in
      let parts = holds_split bs at (map beh (m ++ r)) rest (subst (Holds bs at) (map-append beh (m ++ r) (flat_map (own_kinds placed) ns)) holds) in
      let two = holds_split bs at (map beh m) (map beh r) (subst (Holds bs at) (map-append beh m r) parts.0) in
      let long = ap length (map-append beh m r) ∙ length-append (map beh m) (map beh r) ∙ (λ i. lm i + lr i) in
      both GoesOn (joints_of ins outs at) (joints_at placed (at + (many ins + many outs)) ns)
      (node_goes ins outs at (at + many ins) (gives n) (takes n)
      (λ is. let one = hold_one at (is_many ins) (branched primitives.Merger (length ins)) two.0 is in (one.0, subst (λ (b : Behaviour). HasInputs b (length ins)) (sym one.1) (merger_inputs (length ins) (leb-true 2 (length ins) is) few.0.0)))
      (λ is. let one = hold_one (at + many ins) (is_many outs) (branched primitives.Replicator (length outs)) (subst (λ k. Holds bs (at + k) (map beh r)) lm two.1) is in (one.0, subst (λ (b : Behaviour). HasOutputs b (length outs)) (sym one.1) (replicator_outputs (length outs) (leb-true 2 (length outs) is) few.0.1))))
      (joints_go placed gives takes (at + (many ins + many outs)) ns few.1 (subst (λ k. Holds bs (at + k) rest) long parts.1))
