-- Ends at a node are at that node.
use Rattle.std.proofs.Common.{arith, ◌≡◌, ◌∙◌, ℕ, ◌+◌, ◌≤◌, zero, suc, List, [], ◌∷◌, ◌++◌, length, get_or, Bool, true, false, ◌&&◌, cond, refl, sym, ap, subst, bytes_eq}
use Rattle.std.proofs.lemmas.Bool.{and_parts}
use Rattle.std.specs.List.{AllByRecursion}
use Rattle.std.proofs.lemmas.List.{append_assoc, length-append}
use Rattle.std.proofs.lemmas.Slice.Eq.{bytes_eq-Decides}
use Rattle.reo_net_base.specs.declared.joint.End.{End}
use Rattle.reo_net_base.specs.declared.joint.Joint.{Joint}
use Rattle.reo_net_base.specs.Behaviour.{Behaviour}
use Rattle.reo_net_base.specs.Net.{end_of}
use Rattle.reo_kinds.specs.Kinds.{behaviour_of}
use Rattle.reo_rules.specs.Lists.{where_true}
use Rattle.reo_rules.specs.Touches.{bool_eq}
use Rattle.reo_flat.specs.Unfolding.{Placed}
use Rattle.reo_flat.specs.Ends.{ends_in, ends_from, incoming, outgoing}
use Rattle.reo_flat.specs.Joints.{is_many, end_range, pairs, joints_between}
use Rattle.reo_flat.specs.flatten_laws.Homes.{IsAtNode}
use Rattle.reo_flat.proofs.flatten_laws.Each.{both}

-- What stands behind a front.
at_front : {X : Type 0} (front : List X) (x : X) (rest : List X) (d : X) → get_or (front ++ x ∷ rest) (length front) d ≡ x
at_front [] x rest d = refl
at_front (y ∷ front) x rest d = at_front front x rest d

one_end : (P : End → Type 0) (e : End) (t : Bool) → (t ≡ true → P e) → AllByRecursion P (where_true t e)
one_end P e true here = (here refl, tt)
one_end P e false here = tt

module _ (node : List ℕ) (takes : Bool) (front : List Placed) (p : Placed) (rest : List Placed) where
  abbrev whole : List Placed
  whole = front ++ p ∷ rest

  in_one : (b : Behaviour) (i : ℕ) → i ≡ length front → (before ns : List (List ℕ)) → p.nodes ≡ before ++ ns → (x : ℕ) → x ≡ length before → AllByRecursion (IsAtNode whole node) (ends_in b takes node i x ns)
  in_one b i at before [] split x place = tt
  in_one b i at before (n ∷ ns) split x place =
      both (IsAtNode whole node) (where_true (bytes_eq node n && bool_eq (b.takes_in x) takes) (end_of i x)) (ends_in b takes node i (suc x) ns)
      (one_end (IsAtNode whole node) (end_of i x) (bytes_eq node n && bool_eq (b.takes_in x) takes) (λ is d below.
      ap (λ k. get_or (get_or whole k d).nodes x []) at ∙ ap (λ (q : Placed). get_or q.nodes x []) (at_front front p rest d) ∙ ap (λ ms. get_or ms x []) split ∙ ap (λ k. get_or (before ++ n ∷ ns) k []) place
      ∙ at_front before n ns [] ∙ sym ((bytes_eq-Decides node n).0 ((and_parts (bytes_eq node n) _ is).0))))
      (in_one b i at (before ++ n ∷ []) ns (split ∙ sym (append_assoc before (n ∷ []) ns)) (suc x) (let l = length-append before (n ∷ []) in omega arith))

all_at : (node : List ℕ) (takes : Bool) (front ps : List Placed) (i : ℕ) → i ≡ length front → AllByRecursion (IsAtNode (front ++ ps) node) (ends_from takes node i ps)
all_at node takes front [] i at = tt
all_at node takes front (p ∷ ps) i at =
    both (IsAtNode (front ++ p ∷ ps) node) (ends_in (behaviour_of p.kind) takes node i 0 p.nodes) (ends_from takes node (suc i) ps)
    (in_one node takes front p ps (behaviour_of p.kind) i at [] p.nodes refl 0 refl)
    (subst (λ w. AllByRecursion (IsAtNode w node) (ends_from takes node (suc i) ps)) (append_assoc front (p ∷ []) ps) (all_at node takes (front ++ p ∷ []) ps (suc i) (let l = length-append front (p ∷ []) in omega arith)))

pub incoming_at : (placed : List Placed) (node : List ℕ) → AllByRecursion (IsAtNode placed node) (incoming placed node)
incoming_at placed node = all_at node false [] placed 0 refl

pub outgoing_at : (placed : List Placed) (node : List ℕ) → AllByRecursion (IsAtNode placed node) (outgoing placed node)
outgoing_at placed node = all_at node true [] placed 0 refl

-- Both ends of a joint are at a node.
abbrev pub IsAtBoth : List Placed → List ℕ → Joint → Type 0
IsAtBoth placed node j = IsAtNode placed node j.giver × IsAtNode placed node j.taker

module _ (placed : List Placed) (node : List ℕ) where
  abbrev At : End → Type 0
  At e = IsAtNode placed node e

  own_end : (i x : ℕ) → length placed ≤ i → At (end_of i x)
  own_end i x behind d below = absurd (omega arith)

  own_ends : (i from count : ℕ) → length placed ≤ i → AllByRecursion (IsAtNode placed node) (end_range i from count)
  own_ends i from zero behind = tt
  own_ends i from (suc count) behind = (own_end i from behind, own_ends i (from + 1) count behind)

  pairs_at : (gs ts : List End) → AllByRecursion (IsAtNode placed node) gs → AllByRecursion (IsAtNode placed node) ts → AllByRecursion (IsAtBoth placed node) (pairs gs ts)
  pairs_at [] ts a b = tt
  pairs_at (g ∷ gs) [] a b = tt
  pairs_at (g ∷ gs) (t ∷ ts) a b = ((a.0, b.0), pairs_at gs ts a.1 b.1)

  -- The joints of a node are at it.
  pub joints_at_node : (ins outs : List End) (m r : ℕ) → length placed ≤ m → length placed ≤ r → AllByRecursion (IsAtNode placed node) ins → AllByRecursion (IsAtNode placed node) outs
      → AllByRecursion (IsAtBoth placed node) (joints_between ins outs m r)
  joints_at_node ins outs m r behind_m behind_r at_ins at_outs = step (is_many ins) (is_many outs) where
    step : (a b : Bool) → AllByRecursion (IsAtBoth placed node) (cond a (pairs ins (end_range m 0 (length ins))) [] ++ (pairs (cond a (end_of m (length ins) ∷ []) ins) (cond b (end_of r 0 ∷ []) outs) ++ cond b (pairs (end_range r 1 (length outs)) outs) []))
    step a b = both (IsAtBoth placed node) _ _ (first a) (both (IsAtBoth placed node) _ _ (pairs_at _ _ (middle a) (after b)) (last b)) where
      first : (c : Bool) → AllByRecursion (IsAtBoth placed node) (cond c (pairs ins (end_range m 0 (length ins))) [])
      first true = pairs_at ins (end_range m 0 (length ins)) at_ins (own_ends m 0 (length ins) behind_m)
      first false = tt

      middle : (c : Bool) → AllByRecursion (IsAtNode placed node) (cond c (end_of m (length ins) ∷ []) ins)
      middle true = (own_end m (length ins) behind_m, tt)
      middle false = at_ins

      after : (c : Bool) → AllByRecursion (IsAtNode placed node) (cond c (end_of r 0 ∷ []) outs)
      after true = (own_end r 0 behind_r, tt)
      after false = at_outs

      last : (c : Bool) → AllByRecursion (IsAtBoth placed node) (cond c (pairs (end_range r 1 (length outs)) outs) [])
      last true = pairs_at (end_range r 1 (length outs)) outs (own_ends r 1 (length outs) behind_r) at_outs
      last false = tt
