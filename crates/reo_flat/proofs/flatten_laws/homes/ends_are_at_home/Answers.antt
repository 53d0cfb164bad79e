-- Node by node.
use Rattle.std.proofs.Common.{arith, ◌≡◌, ◌∙◌, ℕ, ◌+◌, ◌<◌, ◌≤◌, zero, suc, List, [], ◌∷◌, ◌++◌, length, get_or, replicate, refl, sym, ap, subst}
use Rattle.std.specs.List.{AllByRecursion}
use Rattle.std.proofs.lemmas.List.{append_assoc, length-append}
use Rattle.reo_net_base.specs.declared.joint.Joint.{Joint}
use Rattle.reo_flat.specs.Unfolding.{Placed}
use Rattle.reo_flat.specs.Ends.{incoming, outgoing}
use Rattle.reo_flat.specs.Joints.{joints_of, many}
use Rattle.reo_flat.specs.Flat.{homes_at, joints_at, placed_of, nodes_of, joints_in, homes_in}
use Rattle.reo_flat.proofs.flatten_laws.AtNodes.{incoming_at, outgoing_at, IsAtBoth, joints_at_node}
use Rattle.reo_flat.proofs.flatten_laws.homes.ends_are_at_home.Goals as goal

-- A joint with its home.
abbrev AllHome : List Placed → List (List ℕ) → List Joint → List ℕ → Type 0
AllHome placed nodes [] [] = Unit {0}
AllHome placed nodes (j ∷ js) (h ∷ hs) = IsAtBoth placed (get_or nodes h []) j × AllHome placed nodes js hs
AllHome placed nodes _ _ = ⊥

-- The joints of one node, and those behind them.
with_copies : (placed : List Placed) (nodes : List (List ℕ)) (node : List ℕ) (i : ℕ) → get_or nodes i [] ≡ node → (js more : List Joint) (hs : List ℕ) → AllByRecursion (IsAtBoth placed node) js → AllHome placed nodes more hs
    → AllHome placed nodes (js ++ more) (replicate (length js) i ++ hs)
with_copies placed nodes node i is [] more hs here rest = rest
with_copies placed nodes node i is (j ∷ js) more hs here rest = (subst (λ n. IsAtBoth placed n j) (sym is) here.0, with_copies placed nodes node i is js more hs here.1 rest)

at_front : (front : List (List ℕ)) (n : List ℕ) (rest : List (List ℕ)) → get_or (front ++ n ∷ rest) (length front) [] ≡ n
at_front [] n rest = refl
at_front (y ∷ front) n rest = at_front front n rest

all_home : (placed : List Placed) (front ns : List (List ℕ)) (i at : ℕ) → i ≡ length front → length placed ≤ at → AllHome placed (front ++ ns) (joints_at placed at ns) (homes_at placed i at ns)
all_home placed front [] i at place behind = tt
all_home placed front (n ∷ ns) i at place behind =
    let next = at + (many (incoming placed n) + many (outgoing placed n)) in
    let l = length-append front (n ∷ []) in
    let rest = subst (λ w. AllHome placed w (joints_at placed next ns) (homes_at placed (suc i) next ns)) (append_assoc front (n ∷ []) ns) (all_home placed (front ++ n ∷ []) ns (suc i) next (omega arith) (omega arith)) in
    with_copies placed (front ++ n ∷ ns) n i (ap (λ k. get_or (front ++ n ∷ ns) k []) place ∙ at_front front n ns) (joints_of (incoming placed n) (outgoing placed n) at) (joints_at placed next ns) (homes_at placed (suc i) next ns)
    (joints_at_node placed n (incoming placed n) (outgoing placed n) at (at + many (incoming placed n)) behind (omega arith) (incoming_at placed n) (outgoing_at placed n)) rest

one_home : (placed : List Placed) (nodes : List (List ℕ)) (js : List Joint) (hs : List ℕ) → AllHome placed nodes js hs → (j : ℕ) (d : Joint) → j < length js → IsAtBoth placed (get_or nodes (get_or hs j 0) []) (get_or js j d)
one_home placed nodes [] [] all j d below = absurd (omega arith)
one_home placed nodes [] (h ∷ hs) all j d below = absurd all
one_home placed nodes (k ∷ js) [] all j d below = absurd all
one_home placed nodes (k ∷ js) (h ∷ hs) all zero d below = all.0
one_home placed nodes (k ∷ js) (h ∷ hs) all (suc j) d below = one_home placed nodes js hs all.1 j d (omega arith)

pub returns : goal.returns
returns c ds j d below = one_home (placed_of ds) (nodes_of ds) (joints_in ds) (homes_in ds) (all_home (placed_of ds) [] (nodes_of ds) 0 (length (placed_of ds)) refl (omega arith)) j d below
