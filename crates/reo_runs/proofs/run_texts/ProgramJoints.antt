-- Both ends of each joint of a program have the type of its node.
use Rattle.std.proofs.Common.{◌≡◌, ◌∙◌, ℕ, zero, suc, ◌+◌, ◌<◌, ◌≤◌, List, [], ◌∷◌, ◌++◌, Bool, true, false, ◌&&◌, cond, refl, sym, ap, map, length, get_or, bytes_eq, arith}
use Rattle.std.specs.List.{AllByRecursion, flat_map}
use Rattle.std.proofs.lemmas.List.{append_assoc, length-append, length-map, get_or_append_left, get_or-append-add, get_or-map}
use Rattle.reo_values.specs.declared.kindred.Kindred.{Kindred}
use Rattle.reo_net_base.specs.declared.joint.End.{End}
use Rattle.reo_net_base.specs.declared.joint.Joint.{Joint}
use Rattle.reo_net_base.specs.Behaviour.{Behaviour}
use Rattle.reo_net_base.specs.Net.{end_of}
use Rattle.reo_kinds.specs.Kinds.{behaviour_of}
use Rattle.reo_kinds.specs.declared.kind.Kind.TheVariants.{Sync}
use Rattle.reo_rules.specs.Lists.{where_true}
use Rattle.reo_rules.specs.Touches.{bool_eq}
use Rattle.reo_flat.specs.Unfolding.{Placed}
use Rattle.reo_flat.specs.Ends.{ends_in, ends_from, incoming, outgoing}
use Rattle.reo_flat.specs.Joints.{is_many, many, end_range, pairs, joints_between, joints_of}
use Rattle.reo_flat.specs.Flat.{joints_at}
use Rattle.reo_flat.specs.flatten_laws.Homes.{IsAtNode}
use Rattle.reo_flat.proofs.flatten_laws.AtNodes.{incoming_at, outgoing_at}
use Rattle.reo_runs.proofs.Each.{both, each_of, all_to}
use Rattle.reo_flat.proofs.flatten_laws.ServedItems.{both_of}
use Rattle.reo_runs.proofs.run_texts.Keeping.{EndTypes}
use Rattle.reo_runs.proofs.run_texts.TypedItems.{no_types, type_at, JointsAgree}
use Rattle.reo_runs.proofs.run_texts.ProgramKinds.{placed_types, own_types, all_types}

-- An end of one of the first so many primitives.
abbrev IsBefore : ℕ → End → Type 0
IsBefore limit e = e.primitive < limit

one_before : (limit i x : ℕ) (t : Bool) → i < limit → AllByRecursion (IsBefore limit) (where_true t (end_of i x))
one_before limit i x true lt = (lt, tt)
one_before limit i x false lt = tt

in_before : (limit : ℕ) (b : Behaviour) (takes : Bool) (node : List ℕ) (i x : ℕ) (ns : List (List ℕ)) → i < limit → AllByRecursion (IsBefore limit) (ends_in b takes node i x ns)
in_before limit b takes node i x [] lt = tt
in_before limit b takes node i x (n ∷ ns) lt =
    both (IsBefore limit) (where_true (bytes_eq node n && bool_eq (b.takes_in x) takes) (end_of i x)) (ends_in b takes node i (suc x) ns)
    (one_before limit i x (bytes_eq node n && bool_eq (b.takes_in x) takes) lt) (in_before limit b takes node i (suc x) ns lt)

from_before : (limit : ℕ) (takes : Bool) (node : List ℕ) (i : ℕ) (ps : List Placed) → i + length ps ≤ limit → AllByRecursion (IsBefore limit) (ends_from takes node i ps)
from_before limit takes node i [] within = tt
from_before limit takes node i (p ∷ ps) within =
    both (IsBefore limit) (ends_in (behaviour_of p.kind) takes node i 0 p.nodes) (ends_from takes node (suc i) ps)
    (in_before limit (behaviour_of p.kind) takes node i 0 p.nodes (omega (arith, within))) (from_before limit takes node (suc i) ps (omega (arith, within)))

-- Both ends of a joint.
abbrev HasBoth : (End → Type 0) → Joint → Type 0
HasBoth At j = At j.giver × At j.taker

module _ (At : End → Type 0) where
  all_ends : (i from count : ℕ) → ((x : ℕ) → At (end_of i x)) → AllByRecursion At (end_range i from count)
  all_ends i from zero here = tt
  all_ends i from (suc count) here = (here from, all_ends i (from + 1) count here)

  all_pairs : (gs ts : List End) → AllByRecursion At gs → AllByRecursion At ts → AllByRecursion (HasBoth At) (pairs gs ts)
  all_pairs [] ts a b = tt
  all_pairs (g ∷ gs) [] a b = tt
  all_pairs (g ∷ gs) (t ∷ ts) a b = ((a.0, b.0), all_pairs gs ts a.1 b.1)

  -- The joints of a node, where its ends and those of its own primitives are so.
  all_between : (ins outs : List End) (m r : ℕ) → AllByRecursion At ins → AllByRecursion At outs → (is_many ins ≡ true → (x : ℕ) → At (end_of m x)) → (is_many outs ≡ true → (x : ℕ) → At (end_of r x))
      → AllByRecursion (HasBoth At) (joints_between ins outs m r)
  all_between ins outs m r all_in all_out merger replicator = step (is_many ins) (is_many outs) merger replicator where
    step : (a b : Bool) → (a ≡ true → (x : ℕ) → At (end_of m x)) → (b ≡ true → (x : ℕ) → At (end_of r x))
        → AllByRecursion (HasBoth At) (cond a (pairs ins (end_range m 0 (length ins))) [] ++ (pairs (cond a (end_of m (length ins) ∷ []) ins) (cond b (end_of r 0 ∷ []) outs) ++ cond b (pairs (end_range r 1 (length outs)) outs) []))
    step a b own_m own_r = both (HasBoth At) _ _ (first a own_m) (both (HasBoth At) _ _ (all_pairs _ _ (middle a own_m) (after b own_r)) (last b own_r)) where
      first : (c : Bool) → (c ≡ true → (x : ℕ) → At (end_of m x)) → AllByRecursion (HasBoth At) (cond c (pairs ins (end_range m 0 (length ins))) [])
      first true own = all_pairs ins (end_range m 0 (length ins)) all_in (all_ends m 0 (length ins) (own refl))
      first false own = tt

      middle : (c : Bool) → (c ≡ true → (x : ℕ) → At (end_of m x)) → AllByRecursion At (cond c (end_of m (length ins) ∷ []) ins)
      middle true own = (own refl (length ins), tt)
      middle false own = all_in

      after : (c : Bool) → (c ≡ true → (x : ℕ) → At (end_of r x)) → AllByRecursion At (cond c (end_of r 0 ∷ []) outs)
      after true own = (own refl 0, tt)
      after false own = all_out

      last : (c : Bool) → (c ≡ true → (x : ℕ) → At (end_of r x)) → AllByRecursion (HasBoth At) (cond c (pairs (end_range r 1 (length outs)) outs) [])
      last true own = all_pairs (end_range r 1 (length outs)) outs (all_ends r 1 (length outs) (own refl)) all_out
      last false own = tt

-- What stands behind a front.
behind_front : (front back types : List EndTypes) (i at : ℕ) → types ≡ front ++ back → at ≡ length front + i → get_or types at no_types ≡ get_or back i no_types
behind_front front back types i at split place =
    ap (λ (n : ℕ). get_or types n no_types) place ∙ ap (λ (ts : List EndTypes). get_or ts (length front + i) no_types) split ∙ get_or-append-add front back i no_types

own_merger : (t : EndTypes) (a b : Bool) (more : List EndTypes) → a ≡ true → get_or ((where_true a t ++ where_true b t) ++ more) 0 no_types ≡ t
own_merger t true b more is = refl
own_merger t false b more is = absurd (cc)

own_replicator : (t : EndTypes) (a b : Bool) (more : List EndTypes) → b ≡ true → get_or ((where_true a t ++ where_true b t) ++ more) (cond a 1 0) no_types ≡ t
own_replicator t true true more is = refl
own_replicator t false true more is = refl
own_replicator t a false more is = absurd (cc)

own_count : (t : EndTypes) (a b : Bool) → length (where_true a t ++ where_true b t) ≡ cond a 1 0 + cond b 1 0
own_count t true true = refl
own_count t true false = refl
own_count t false true = refl
own_count t false false = refl

no_placed : Placed
no_placed = record { kind = Sync; nodes = [] }

module _ (T : List ℕ → Kindred) (placed : List Placed) (types : List EndTypes) where
  -- The end has the type of the node.
  abbrev IsOfNode : List ℕ → End → Type 0
  IsOfNode node e = type_at types e ≡ T node

  -- What is placed is at its nodes.
  placed_end : (back : List EndTypes) → types ≡ map (placed_types T) placed ++ back → (node : List ℕ) (e : End) → IsBefore (length placed) e → IsAtNode placed node e → IsOfNode node e
  placed_end back split node e before at =
      let i : ℕ = e.primitive in
      let none : Placed = no_placed in
      let within : i < length (map (placed_types T) placed) = omega (arith, before, length-map placed (placed_types T)) in
      ap (λ (ts : List EndTypes). type_at ts e) split
      ∙ ap (λ (t : EndTypes). t e.end) (get_or_append_left (map (placed_types T) placed) back no_types i within ∙ get_or-map (placed_types T) placed i none no_types before)
      ∙ ap T (at none before)

  module _ (ends : (node : List ℕ) (e : End) → IsBefore (length placed) e → IsAtNode placed node e → type_at types e ≡ T node) where
    incoming_of : (node : List ℕ) → AllByRecursion (IsOfNode node) (incoming placed node)
    incoming_of node = both_of (IsBefore (length placed)) (IsAtNode placed node) (IsOfNode node) (ends node) (incoming placed node) (from_before (length placed) false node 0 placed (omega arith)) (incoming_at placed node)

    outgoing_of : (node : List ℕ) → AllByRecursion (IsOfNode node) (outgoing placed node)
    outgoing_of node = both_of (IsBefore (length placed)) (IsAtNode placed node) (IsOfNode node) (ends node) (outgoing placed node) (from_before (length placed) true node 0 placed (omega arith)) (outgoing_at placed node)

    -- Both ends of a joint have one type.
    abbrev Agrees : Joint → Type 0
    Agrees j = type_at types j.giver ≡ type_at types j.taker

    one_type : (node : List ℕ) (j : Joint) → HasBoth (IsOfNode node) j → Agrees j
    one_type node j has = has.0 ∙ sym has.1

    joints_from : (front : List EndTypes) (ns : List (List ℕ)) (at : ℕ) → types ≡ front ++ flat_map (own_types T placed) ns → at ≡ length front → AllByRecursion Agrees (joints_at placed at ns)
    joints_from front [] at split place = tt
    joints_from front (n ∷ ns) at split place =
        let ins = incoming placed n in
        let outs = outgoing placed n in
        let t : EndTypes = λ end. T n in
        let own = own_types T placed n in
        let more = flat_map (own_types T placed) ns in
        let merger : is_many ins ≡ true → (x : ℕ) → IsOfNode n (end_of at x) = λ is x.
        ap (λ (u : EndTypes). u x) (behind_front front (own ++ more) types 0 at split (omega (arith, place)) ∙ own_merger t (is_many ins) (is_many outs) more is) in
        let replicator : is_many outs ≡ true → (x : ℕ) → IsOfNode n (end_of (at + many ins) x) = λ is x.
        ap (λ (u : EndTypes). u x) (behind_front front (own ++ more) types (many ins) (at + many ins) split (omega (arith, place)) ∙ own_replicator t (is_many ins) (is_many outs) more is) in
        let here = all_to (HasBoth (IsOfNode n)) Agrees (one_type n) (joints_of ins outs at) (all_between (IsOfNode n) ins outs at (at + many ins) (incoming_of n) (outgoing_of n) merger replicator) in
        let next : at + (many ins + many outs) ≡ length (front ++ own) = omega (arith, place, length-append front own, own_count t (is_many ins) (is_many outs)) in
        both Agrees (joints_of ins outs at) (joints_at placed (at + (many ins + many outs)) ns) here
        (joints_from (front ++ own) ns (at + (many ins + many outs)) (split ∙ sym (append_assoc front own more)) next)

-- All joints agree.
pub joints_agree : (T : List ℕ → Kindred) (placed : List Placed) (nodes : List (List ℕ)) → JointsAgree (joints_at placed (length placed) nodes) (all_types T placed nodes)
joints_agree T placed nodes =
    let types = all_types T placed nodes in
    let ends = placed_end T placed types (flat_map (own_types T placed) nodes) refl in
    each_of (λ (j : Joint). type_at types j.giver ≡ type_at types j.taker) (joints_at placed (length placed) nodes)
    (joints_from T placed types ends (map (placed_types T) placed) nodes (length placed) refl (sym (length-map placed (placed_types T))))
