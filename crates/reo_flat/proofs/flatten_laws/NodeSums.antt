-- Each end of what is placed is at one node.
use Rattle.std.proofs.Common.{arith, ◌≡◌, ◌∙◌, ℕ, ◌+◌, ◌<◌, suc, List, [], ◌∷◌, length, Bool, true, false, cond, ◌&&◌, inl, inr, refl, sym, ap, subst, bytes_eq}
use Rattle.std.specs.List.{AllByRecursion}
use Rattle.std.proofs.lemmas.Slice.Eq.{bytes_eq-Decides}
use Rattle.reo_net_base.specs.declared.joint.End.{End}
use Rattle.reo_net_base.specs.Behaviour.{Behaviour}
use Rattle.reo_net_base.specs.Net.{end_of}
use Rattle.reo_rules.specs.Lists.{where_true}
use Rattle.reo_kinds.specs.Kinds.{behaviour_of}
use Rattle.reo_flat.specs.Unfolding.{Placed}
use Rattle.reo_rules.specs.Touches.{bool_eq}
use Rattle.reo_flat.specs.Ends.{ends_in, ends_from, incoming, outgoing}
use Rattle.reo_flat.specs.Joints.{joints_of, many}
use Rattle.reo_flat.specs.Flat.{joints_at}
use Rattle.reo_flat.proofs.flatten_laws.Within.{In}
use Rattle.reo_flat.proofs.flatten_laws.Once.{Once}
use Rattle.reo_flat.proofs.flatten_laws.Times.{times, weigh, weigh-append, times-append, ends_in_joints, ends_in_joints-append, own_in, own_out, node_ends}

-- A sum over nodes.
abbrev pub over : (List ℕ → ℕ) → List (List ℕ) → ℕ
over f [] = 0
over f (n ∷ ns) = f n + over f ns

over-add : (f g : List ℕ → ℕ) (ns : List (List ℕ)) → over (λ n. f n + g n) ns ≡ over f ns + over g ns
over-add f g [] = refl
over-add f g (n ∷ ns) = let rest = over-add f g ns in omega arith

over-same : (f g : List ℕ → ℕ) (ns : List (List ℕ)) → ((n : List ℕ) → f n ≡ g n) → over f ns ≡ over g ns
over-same f g [] same = refl
over-same f g (n ∷ ns) same = λ i. same n i + over-same f g ns same i

over-zero : (ns : List (List ℕ)) → over (λ n. 0) ns ≡ 0
over-zero [] = refl
over-zero (n ∷ ns) = let rest = over-zero ns in omega arith

miss : (name : List ℕ) (w : ℕ) (ns : List (List ℕ)) → (In ns name → ⊥) → over (λ n. cond (bytes_eq n name) w 0) ns ≡ 0
miss name w [] none = refl
miss name w (n ∷ ns) none = step (bytes_eq n name) refl (miss name w ns (λ there. none (inr there))) where
  step : (b : Bool) → bytes_eq n name ≡ b → over (λ m. cond (bytes_eq m name) w 0) ns ≡ 0 → cond b w 0 + over (λ m. cond (bytes_eq m name) w 0) ns ≡ 0
  step true is rest = absurd (none (inl (sym ((bytes_eq-Decides n name).0 is))))
  step false is rest = omega arith

-- A name that stands once among nodes counts once.
hit : (name : List ℕ) (w : ℕ) (ns : List (List ℕ)) → Once ns → In ns name → over (λ n. cond (bytes_eq n name) w 0) ns ≡ w
hit name w [] once none = absurd none
hit name w (n ∷ ns) once there = step (bytes_eq n name) refl there (λ more. hit name w ns once.1 more) where
  step : (b : Bool) → bytes_eq n name ≡ b → In (n ∷ ns) name → (In ns name → over (λ m. cond (bytes_eq m name) w 0) ns ≡ w) → cond b w 0 + over (λ m. cond (bytes_eq m name) w 0) ns ≡ w
  step true is at rest =
      let same = (bytes_eq-Decides n name).0 is in
      let none = miss name w ns (λ later. once.0 (subst (In ns) (sym same) later)) in
      omega arith
  step false is (inl same) rest = absurd (differ ((bytes_eq-Decides n name).1 (sym same)) is) where
    differ : {b : Bool} → b ≡ true → b ≡ false → ⊥
    differ holds fails = cc
  step false is (inr later) rest = let one = rest later in omega arith

-- How often an end is among those of one primitive at a node, whichever way it goes, and among all of it.
abbrev at_node : (End → ℕ) → List ℕ → ℕ → ℕ → List (List ℕ) → ℕ
at_node w node i end [] = 0
at_node w node i end (n ∷ ns) = cond (bytes_eq node n) (w (end_of i end)) 0 + at_node w node i (suc end) ns

abbrev pub listed : (End → ℕ) → ℕ → ℕ → List (List ℕ) → ℕ
listed w i end [] = 0
listed w i end (n ∷ ns) = w (end_of i end) + listed w i (suc end) ns

one_way : (w : End → ℕ) (x : End) (t v : Bool) → weigh w (where_true (t && bool_eq v false) x) + weigh w (where_true (t && bool_eq v true) x) ≡ cond t (w x) 0
one_way w x true true = omega arith
one_way w x true false = omega arith
one_way w x false v = refl

both_ways : (w : End → ℕ) (b : Behaviour) (node : List ℕ) (i end : ℕ) (ns : List (List ℕ)) → weigh w (ends_in b false node i end ns) + weigh w (ends_in b true node i end ns) ≡ at_node w node i end ns
both_ways w b node i end [] = refl
both_ways w b node i end (n ∷ ns) =
    let here = one_way w (end_of i end) (bytes_eq node n) (b.takes_in end) in
    let rest = both_ways w b node i (suc end) ns in
    let first = weigh-append w (where_true (bytes_eq node n && bool_eq (b.takes_in end) false) (end_of i end)) (ends_in b false node i (suc end) ns) in
    let second = weigh-append w (where_true (bytes_eq node n && bool_eq (b.takes_in end) true) (end_of i end)) (ends_in b true node i (suc end) ns) in
    omega arith

-- All ends of what is placed, from a number on.
abbrev pub all_listed : (End → ℕ) → ℕ → List Placed → ℕ
all_listed w i [] = 0
all_listed w i (p ∷ ps) = listed w i 0 p.nodes + all_listed w (suc i) ps

module _ (nodes : List (List ℕ)) (once : Once nodes) where
  each_end : (w : End → ℕ) (i end : ℕ) (ns : List (List ℕ)) → AllByRecursion (In nodes) ns → over (λ n. at_node w n i end ns) nodes ≡ listed w i end ns
  each_end w i end [] there = over-zero nodes
  each_end w i end (n ∷ ns) there =
      over-add (λ m. cond (bytes_eq m n) (w (end_of i end)) 0) (λ m. at_node w m i (suc end) ns) nodes
      ∙ (λ k. hit n (w (end_of i end)) nodes once there.0 k + each_end w i (suc end) ns there.1 k)

  pub all_ends_at_nodes : (w : End → ℕ) (i : ℕ) (ps : List Placed) → AllByRecursion (λ (p : Placed). AllByRecursion (In nodes) p.nodes) ps
      → over (λ n. weigh w (ends_from false n i ps) + weigh w (ends_from true n i ps)) nodes ≡ all_listed w i ps
  all_ends_at_nodes w i [] there = over-zero nodes
  all_ends_at_nodes w i (p ∷ ps) there =
      over-same (λ n. weigh w (ends_from false n i (p ∷ ps)) + weigh w (ends_from true n i (p ∷ ps))) (λ n. at_node w n i 0 p.nodes + (weigh w (ends_from false n (suc i) ps) + weigh w (ends_from true n (suc i) ps))) nodes (λ n. one n)
      ∙ over-add (λ n. at_node w n i 0 p.nodes) (λ n. weigh w (ends_from false n (suc i) ps) + weigh w (ends_from true n (suc i) ps)) nodes
      ∙ (λ k. each_end w i 0 p.nodes there.0 k + all_ends_at_nodes w (suc i) ps there.1 k) where
        one : (n : List ℕ) → weigh w (ends_from false n i (p ∷ ps)) + weigh w (ends_from true n i (p ∷ ps)) ≡ at_node w n i 0 p.nodes + (weigh w (ends_from false n (suc i) ps) + weigh w (ends_from true n (suc i) ps))
        one n =
            let first = weigh-append w (ends_in (behaviour_of p.kind) false n i 0 p.nodes) (ends_from false n (suc i) ps) in
            let second = weigh-append w (ends_in (behaviour_of p.kind) true n i 0 p.nodes) (ends_from true n (suc i) ps) in
            let here = both_ways w (behaviour_of p.kind) n i 0 p.nodes in
            omega arith

-- The ends of nodes' mergers and replicators.
abbrev pub own_sum : End → List Placed → ℕ → List (List ℕ) → ℕ
own_sum e placed at [] = 0
own_sum e placed at (n ∷ ns) =
    (times e (own_in (incoming placed n) at) + times e (own_out (outgoing placed n) (at + many (incoming placed n)))) + own_sum e placed (at + (many (incoming placed n) + many (outgoing placed n))) ns

-- The node has an incoming and an outgoing end.
abbrev pub IsServed : List Placed → List ℕ → Type 0
IsServed placed n = (0 < length (incoming placed n)) × (0 < length (outgoing placed n))

-- All joints have each end at a node, and each of a merger or a replicator, once.
pub all_joint_ends : (e : End) (placed : List Placed) (at : ℕ) (ns : List (List ℕ)) → AllByRecursion (IsServed placed) ns
    → times e (ends_in_joints (joints_at placed at ns)) ≡ over (λ n. times e (incoming placed n) + times e (outgoing placed n)) ns + own_sum e placed at ns
all_joint_ends e placed at [] served = refl
all_joint_ends e placed at (n ∷ ns) served =
    let here = joints_of (incoming placed n) (outgoing placed n) at in
    let next = at + (many (incoming placed n) + many (outgoing placed n)) in
    let split = ap (times e) (ends_in_joints-append here (joints_at placed next ns)) ∙ times-append e (ends_in_joints here) (ends_in_joints (joints_at placed next ns)) in
    let node = node_ends e (incoming placed n) (outgoing placed n) at (at + many (incoming placed n)) served.0.0 served.0.1 in
    let rest = all_joint_ends e placed next ns served.1 in
    omega arith
