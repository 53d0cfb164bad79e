-- Circuits in which items only rise.
use Rattle.std.proofs.Common.{arith, ◌≡◌, ◌∙◌, ℕ, ◌+◌, ◌*◌, ◌<◌, ◌≤◌, zero, suc, List, [], ◌∷◌, ◌++◌, length, get_or, map, take, Bool, true, false, cond, ◌&&◌, refl, sym, ap, subst, append_assoc, zero-add, nat_le}
use Rattle.std.specs.Prelude.{bytes_eq}
use Rattle.std.specs.List.{AllByRecursion, flat_map}
use Rattle.std.proofs.lemmas.List.{length-append, length-map, map-append, get_or-append-add}
use Rattle.std.proofs.Math.ListN.{get_or-append}
use Rattle.std.proofs.lemmas.Slice.Eq.{bytes_eq-Decides}
use Rattle.reo_net_base.specs.Wired.{Walk, NoCycle}
use Rattle.reo_net_base.specs.declared.joint.End.{End}
use Rattle.reo_net_base.specs.declared.joint.Joint.{Joint}
use Rattle.reo_net_base.specs.Behaviour.{Behaviour}
use Rattle.reo_net_base.specs.Net.{Net, end_of, behaviour_at, sides_of, first_side, side_at, from_sides, to_sides}
use Rattle.reo_net_laws.proofs.Sides.{side_count}
use Rattle.reo_kinds.specs.declared.kind.Kind.{Kind}
use Rattle.reo_kinds.specs.declared.kind.Kind.TheVariants as primitives
use Rattle.reo_kinds.specs.Kinds.{behaviour_of}
use Rattle.reo_rules.specs.Lists.{where_true}
use Rattle.reo_rules.specs.Touches.{bool_eq}
use Rattle.reo_flat.specs.Unfolding.{Placed}
use Rattle.reo_flat.specs.Ends.{ends_in, ends_from, incoming, outgoing}
use Rattle.reo_flat.specs.Joints.{is_many, end_range, pairs, joints_between, joints_of, many}
use Rattle.reo_flat.specs.Flat.{branched, branched_with, own_kinds, joints_at}
use Rattle.reo_flat.proofs.flatten_laws.Each.{both}

-- Arrows that rise lead nowhere back.
module _ (from to : List ℕ) (rank : ℕ → ℕ) (rises : (j : ℕ) → j < length from → rank (get_or from j 0) < rank (get_or to j 0)) where
  walk-rises : (side : ℕ) (by : List ℕ) (last : ℕ) → Walk from to side by last → rank side ≤ rank last
  walk-rises side [] last w = let same : rank side ≡ rank last = ap rank w in omega arith
  walk-rises side (j ∷ js) last w =
      let up = rises j w.0 in
      let same : rank (get_or from j 0) ≡ rank side = ap rank w.1 in
      let more = walk-rises (get_or to j 0) js last w.2 in
      omega arith

  pub no-cycle : NoCycle from to
  no-cycle j on = let up = rises j on.0 in let back = walk-rises (get_or to j 0) on.1.by (get_or from j 0) on.1.walk in absurd (omega arith)

-- A primitive with a rank for each of its sides.
pub record Piece : Type 0 where
  pub kind : Kind
  pub ranks : List ℕ

abbrev pub behaviour_in : Piece → Behaviour
behaviour_in u = behaviour_of u.kind

abbrev HasEach : Piece → Type 0
HasEach u = length u.ranks ≡ (behaviour_in u).sides

-- The piece of a number.
abbrev At : List Piece → ℕ → Piece → Type 0
At us i u = (i < length us) × (get_or us i u ≡ u)

abbrev all_ranks : List Piece → List ℕ
all_ranks us = flat_map (λ (u : Piece). u.ranks) us

-- The rank of a side by its number among all sides.
rank-at : (us : List Piece) (i s : ℕ) (u : Piece) → AllByRecursion HasEach us → At us i u → s < length u.ranks → get_or (all_ranks us) (first_side (map behaviour_in us) i + s) 0 ≡ get_or u.ranks s 0
rank-at [] i s u each at below = let h = at.0 in absurd (omega arith)
rank-at (v ∷ us) zero s u each at below =
    let near : s < length v.ranks = subst (λ (w : Piece). s < length w.ranks) (sym at.1) below in
    ap (λ k. get_or (v.ranks ++ all_ranks us) k 0) (zero-add s) ∙ get_or-append v.ranks (all_ranks us) 0 s near ∙ ap (λ (w : Piece). get_or w.ranks s 0) at.1
rank-at (v ∷ us) (suc i) s u each at below =
    let f = first_side (map behaviour_in us) i in
    let long : length (sides_of (behaviour_in v)) ≡ length v.ranks = side_count (behaviour_in v) ∙ sym each.0 in
    let place : first_side (behaviour_in v ∷ map behaviour_in us) (suc i) + s ≡ length v.ranks + (f + s) = omega (arith, length-append (sides_of (behaviour_in v)) (flat_map sides_of (take i (map behaviour_in us))), long) in
    ap (λ k. get_or (v.ranks ++ all_ranks us) k 0) place ∙ get_or-append-add v.ranks (all_ranks us) (f + s) 0 ∙ rank-at us i s u each.1 (let h = at.0 in omega arith, at.1) below

behaviour-of : (us : List Piece) (i : ℕ) (u : Piece) → At us i u → behaviour_at (map behaviour_in us) i ≡ behaviour_in u
behaviour-of [] i u at = let h = at.0 in absurd (omega arith)
behaviour-of (v ∷ us) zero u at = ap behaviour_in at.1
behaviour-of (v ∷ us) (suc i) u at = behaviour-of us i u (let h = at.0 in omega arith, at.1)

-- The pieces from a number on.
abbrev HoldsFrom : List Piece → ℕ → List Piece → Type 0
HoldsFrom us i [] = Unit {0}
HoldsFrom us i (x ∷ xs) = At us i x × HoldsFrom us (suc i) xs

at-front : (front : List Piece) (u : Piece) (rest : List Piece) → At (front ++ u ∷ rest) (length front) u
at-front [] u rest = (omega arith, refl)
at-front (x ∷ front) u rest = let more = at-front front u rest in let below = more.0 in (omega arith, more.1)

all-hold : (front us : List Piece) → HoldsFrom (front ++ us) (length front) us
all-hold front [] = tt
all-hold front (u ∷ us) =
    let long : length (front ++ u ∷ []) ≡ suc (length front) = length-append front (u ∷ []) ∙ omega arith in
    (at-front front u us, subst (λ w. HoldsFrom w (suc (length front)) us) (append_assoc front (u ∷ []) us) (subst (λ n. HoldsFrom ((front ++ u ∷ []) ++ us) n us) long (all-hold (front ++ u ∷ []) us)))

holds-split : (us : List Piece) (i : ℕ) (xs ys : List Piece) → HoldsFrom us i (xs ++ ys) → HoldsFrom us i xs × HoldsFrom us (i + length xs) ys
holds-split us i [] ys h = let same : i ≡ i + 0 = omega arith in (tt, subst (λ n. HoldsFrom us n ys) same h)
holds-split us i (x ∷ xs) ys h =
    let more = holds-split us (suc i) xs ys h.1 in
    let same : suc i + length xs ≡ i + suc (length xs) = omega arith in
    ((h.0, more.0), subst (λ n. HoldsFrom us n ys) same more.1)

-- The side of an end has this rank.
abbrev Has : List Piece → End → ℕ → Type 0
Has us e h = (u : Piece) × At us e.primitive u × ((behaviour_in u).side_of e.end < length u.ranks) × (get_or u.ranks ((behaviour_in u).side_of e.end) 0 ≡ h)

abbrev AtMost : List Piece → ℕ → End → Type 0
AtMost us m e = (h : ℕ) × Has us e h × (h ≤ m)

abbrev AtLeast : List Piece → ℕ → End → Type 0
AtLeast us m e = (h : ℕ) × Has us e h × (m ≤ h)

-- A joint goes up.
abbrev Rises : List Piece → Joint → Type 0
Rises us j = (h : ℕ) × (k : ℕ) × Has us j.giver h × Has us j.taker k × (h < k)

pairs-rise : (us : List Piece) (m : ℕ) (gs ts : List End) → AllByRecursion (AtMost us m) gs → AllByRecursion (AtLeast us (m + 1)) ts → AllByRecursion (Rises us) (pairs gs ts)
pairs-rise us m [] ts a b = tt
pairs-rise us m (g ∷ gs) [] a b = tt
pairs-rise us m (g ∷ gs) (t ∷ ts) a b =
    let (h, has, low) = a.0 in
    let (k, there, high) = b.0 in
    ((h, k, has, there, omega arith), pairs-rise us m gs ts a.1 b.1)

-- A piece of one side, with this rank.
abbrev IsOne : List Piece → ℕ → ℕ → Type 0
IsOne us i r = (u : Piece) × At us i u × (u.ranks ≡ r ∷ []) × ((x : ℕ) → (behaviour_in u).side_of x ≡ 0)

one-has : (us : List Piece) (i r x : ℕ) → IsOne us i r → Has us (end_of i x) r
one-has us i r x (u, at, is, side) =
    (u, at, subst (λ (l : List ℕ). (behaviour_in u).side_of x < length l) (sym is) (subst (λ (k : ℕ). k < 1) (sym (side x)) (omega arith)), (λ j. get_or (is j) (side x j) 0))

one-most : (us : List Piece) (i r from count : ℕ) → IsOne us i r → AllByRecursion (AtMost us r) (end_range i from count)
one-most us i r from zero one = tt
one-most us i r from (suc count) one = ((r, one-has us i r from one, omega arith), one-most us i r (from + 1) count one)

one-least : (us : List Piece) (i r from count : ℕ) → IsOne us i r → AllByRecursion (AtLeast us r) (end_range i from count)
one-least us i r from zero one = tt
one-least us i r from (suc count) one = ((r, one-has us i r from one, omega arith), one-least us i r (from + 1) count one)

most-more : (us : List Piece) (m n : ℕ) (es : List End) → m ≤ n → AllByRecursion (AtMost us m) es → AllByRecursion (AtMost us n) es
most-more us m n [] h a = tt
most-more us m n (e ∷ es) h a = let (k, has, low) = a.0 in ((k, has, omega arith), most-more us m n es h a.1)

least-less : (us : List Piece) (m n : ℕ) (es : List End) → n ≤ m → AllByRecursion (AtLeast us m) es → AllByRecursion (AtLeast us n) es
least-less us m n [] h a = tt
least-less us m n (e ∷ es) h a = let (k, has, high) = a.0 in ((k, has, omega arith), least-less us m n es h a.1)

-- A merger or a replicator has one side, and so has what stands for one.
merger-side : (n : ℕ) (a b : Bool) (some : nat_le 2 n ≡ a) (few : nat_le n 8192 ≡ b)
    → ((behaviour_of (branched_with primitives.Merger n a b some few)).sides ≡ 1) × ((x : ℕ) → (behaviour_of (branched_with primitives.Merger n a b some few)).side_of x ≡ 0)
merger-side n true true some few = (refl, λ x. refl)
merger-side n true false some few = (refl, λ x. refl)
merger-side n false b some few = (refl, λ x. refl)

replicator-side : (n : ℕ) (a b : Bool) (some : nat_le 2 n ≡ a) (few : nat_le n 8192 ≡ b)
    → ((behaviour_of (branched_with primitives.Replicator n a b some few)).sides ≡ 1) × ((x : ℕ) → (behaviour_of (branched_with primitives.Replicator n a b some few)).side_of x ≡ 0)
replicator-side n true true some few = (refl, λ x. refl)
replicator-side n true false some few = (refl, λ x. refl)
replicator-side n false b some few = (refl, λ x. refl)

one-piece : (us : List Piece) (i r : ℕ) (b : Bool) (kind : Kind) → ((x : ℕ) → (behaviour_of kind).side_of x ≡ 0) → HoldsFrom us i (where_true b (record { kind = kind; ranks = r ∷ [] })) → b ≡ true → IsOne us i r
one-piece us i r true kind side h e = (record { kind = kind; ranks = r ∷ [] }, h.0, refl, side)
one-piece us i r false kind side h e = absurd (cc)

length-where : {X : Type 0} (b : Bool) (x : X) → length (where_true b x) ≡ cond b 1 0
length-where true x = refl
length-where false x = refl

each-where : (b : Bool) (kind : Kind) (r : ℕ) → (behaviour_of kind).sides ≡ 1 → AllByRecursion HasEach (where_true b (record { kind = kind; ranks = r ∷ [] }))
each-where true kind r e = (sym e, tt)
each-where false kind r e = tt

kinds-where : (b : Bool) (kind : Kind) (ranks : List ℕ) → map (λ (u : Piece). u.kind) (where_true b (record { kind = kind; ranks = ranks })) ≡ where_true b kind
kinds-where true kind ranks = refl
kinds-where false kind ranks = refl

-- The joints of a node rise, from its ends that give through its own pieces to those that take in.
node-rises : (us : List Piece) (r : ℕ) (ins outs : List End) (m p : ℕ) → AllByRecursion (AtMost us (3 * r)) ins → AllByRecursion (AtLeast us (3 * r + 3)) outs
    → (is_many ins ≡ true → IsOne us m (3 * r + 1)) → (is_many outs ≡ true → IsOne us p (3 * r + 2)) → AllByRecursion (Rises us) (joints_between ins outs m p)
node-rises us r ins outs m p low high am ap = step (is_many ins) (is_many outs) am ap
  where
    step : (a b : Bool) → (a ≡ true → IsOne us m (3 * r + 1)) → (b ≡ true → IsOne us p (3 * r + 2))
        → AllByRecursion (Rises us) (cond a (pairs ins (end_range m 0 (length ins))) [] ++ (pairs (cond a (end_of m (length ins) ∷ []) ins) (cond b (end_of p 0 ∷ []) outs) ++ cond b (pairs (end_range p 1 (length outs)) outs) []))
    step a b am ap = both (Rises us) _ _ (first a am) (both (Rises us) _ _ (pairs-rise us (3 * r + 1) _ _ (middle a am) (after b ap)) (last b ap))
      where
        first : (c : Bool) → (c ≡ true → IsOne us m (3 * r + 1)) → AllByRecursion (Rises us) (cond c (pairs ins (end_range m 0 (length ins))) [])
        first true at = pairs-rise us (3 * r) ins (end_range m 0 (length ins)) low (one-least us m (3 * r + 1) 0 (length ins) (at refl))
        first false at = tt

        middle : (c : Bool) → (c ≡ true → IsOne us m (3 * r + 1)) → AllByRecursion (AtMost us (3 * r + 1)) (cond c (end_of m (length ins) ∷ []) ins)
        middle true at = ((3 * r + 1, one-has us m (3 * r + 1) (length ins) (at refl), omega arith), tt)
        middle false at = most-more us (3 * r) (3 * r + 1) ins (omega arith) low

        after : (c : Bool) → (c ≡ true → IsOne us p (3 * r + 2)) → AllByRecursion (AtLeast us (3 * r + 1 + 1)) (cond c (end_of p 0 ∷ []) outs)
        after true at = ((3 * r + 2, one-has us p (3 * r + 2) 0 (at refl), omega arith), tt)
        after false at = least-less us (3 * r + 3) (3 * r + 1 + 1) outs (omega arith) high

        last : (c : Bool) → (c ≡ true → IsOne us p (3 * r + 2)) → AllByRecursion (Rises us) (cond c (pairs (end_range p 1 (length outs)) outs) [])
        last true at = pairs-rise us (3 * r + 2) (end_range p 1 (length outs)) outs (one-most us p (3 * r + 2) 1 (length outs) (at refl)) (least-less us (3 * r + 3) (3 * r + 2 + 1) outs (omega arith) high)
        last false at = tt

-- The rank of a side by an end of it, and a joint that rises as an arrow that does.
side-has : (us : List Piece) (bs : List Behaviour) (e : End) (h : ℕ) → AllByRecursion HasEach us → bs ≡ map behaviour_in us → Has us e h
    → get_or (all_ranks us) (first_side bs e.primitive + (behaviour_at bs e.primitive).side_of e.end) 0 ≡ h
side-has us bs e h each same (u, at, within, is) =
    ap (λ (l : List Behaviour). get_or (all_ranks us) (first_side l e.primitive + (behaviour_at l e.primitive).side_of e.end) 0) same
    ∙ ap (λ (b : Behaviour). get_or (all_ranks us) (first_side (map behaviour_in us) e.primitive + b.side_of e.end) 0) (behaviour-of us e.primitive u at)
    ∙ rank-at us e.primitive ((behaviour_in u).side_of e.end) u each at within ∙ is

arrows-rise : (us : List Piece) (net : Net) (js : List Joint) → AllByRecursion HasEach us → net.primitives ≡ map behaviour_in us → AllByRecursion (Rises us) js
    → (j : ℕ) → j < length (map (λ (k : Joint). side_at net k.giver) js) → get_or (all_ranks us) (get_or (map (λ (k : Joint). side_at net k.giver) js) j 0) 0 < get_or (all_ranks us) (get_or (map (λ (k : Joint). side_at net k.taker) js) j 0) 0
unfolding side_at
arrows-rise us net [] each same all j within = absurd (omega arith)
arrows-rise us net (k ∷ js) each same all zero within =
    let (a, b, gives, takes, less) = all.0 in
    let low = side-has us net.primitives k.giver a each same gives in
    let high = side-has us net.primitives k.taker b each same takes in
    omega (arith, low, high, less)
arrows-rise us net (k ∷ js) each same all (suc j) within = arrows-rise us net js each same all.1 j (omega arith)

module _ (rank : List ℕ → ℕ) where
  -- At an end that takes in, the side is above the node; at one that gives, below it.
  pub record IsRight (b : Behaviour) (ranks : List ℕ) (x : ℕ) (node : List ℕ) : Type 0 where
    pub within : b.side_of x < length ranks
    pub above : b.takes_in x ≡ true → 3 * rank node + 3 ≤ get_or ranks (b.side_of x) 0
    pub below : b.takes_in x ≡ false → get_or ranks (b.side_of x) 0 ≤ 3 * rank node

  abbrev pub AreRight : Behaviour → List ℕ → ℕ → List (List ℕ) → Type 0
  AreRight b ranks x [] = Unit {0}
  AreRight b ranks x (n ∷ ns) = IsRight b ranks x n × AreRight b ranks (suc x) ns

  -- What is placed has ranks between those of its nodes.
  pub record IsRanked (p : Placed) (ranks : List ℕ) : Type 0 where
    pub each : length ranks ≡ (behaviour_of p.kind).sides
    pub right : AreRight (behaviour_of p.kind) ranks 0 p.nodes

  where-all : (P : End → Type 0) (e : End) (t v takes : Bool) → (t ≡ true → v ≡ takes → P e) → AllByRecursion P (where_true (t && bool_eq v takes) e)
  where-all P e false v takes h = tt
  where-all P e true true true h = (h refl refl, tt)
  where-all P e true true false h = tt
  where-all P e true false true h = tt
  where-all P e true false false h = (h refl refl, tt)

  abbrev Bounds : List Piece → Bool → List ℕ → End → Type 0
  Bounds us true node e = AtLeast us (3 * rank node + 3) e
  Bounds us false node e = AtMost us (3 * rank node) e

  one-bound : (us : List Piece) (u : Piece) (i x : ℕ) (node n : List ℕ) (takes : Bool) → At us i u → IsRight (behaviour_in u) u.ranks x n → node ≡ n → (behaviour_in u).takes_in x ≡ takes → Bounds us takes node (end_of i x)
  one-bound us u i x node n true at r e t = (get_or u.ranks ((behaviour_in u).side_of x) 0, (u, at, r.within, refl), subst (λ z. 3 * rank z + 3 ≤ get_or u.ranks ((behaviour_in u).side_of x) 0) (sym e) (r.above t))
  one-bound us u i x node n false at r e t = (get_or u.ranks ((behaviour_in u).side_of x) 0, (u, at, r.within, refl), subst (λ z. get_or u.ranks ((behaviour_in u).side_of x) 0 ≤ 3 * rank z) (sym e) (r.below t))

  piece-bounds : (us : List Piece) (u : Piece) (i x : ℕ) (node : List ℕ) (takes : Bool) (ns : List (List ℕ)) → At us i u → AreRight (behaviour_in u) u.ranks x ns → AllByRecursion (Bounds us takes node) (ends_in (behaviour_in u) takes node i x ns)
  piece-bounds us u i x node takes [] at r = tt
  piece-bounds us u i x node takes (n ∷ ns) at r =
      both (Bounds us takes node) (where_true (bytes_eq node n && bool_eq ((behaviour_in u).takes_in x) takes) (end_of i x)) (ends_in (behaviour_in u) takes node i (suc x) ns)
      (where-all (Bounds us takes node) (end_of i x) (bytes_eq node n) ((behaviour_in u).takes_in x) takes (λ e t. one-bound us u i x node n takes at r.0 ((bytes_eq-Decides node n).0 e) t))
      (piece-bounds us u i (suc x) node takes ns at r.1)

  module _ (ranks : Placed → List ℕ) where
    abbrev piece_of : Placed → Piece
    piece_of p = record { kind = p.kind; ranks = ranks p }

    abbrev pub AreRanked : List Placed → Type 0
    AreRanked ps = AllByRecursion (λ (p : Placed). IsRanked p (ranks p)) ps

    -- The ends at a node are bounded by it.
    all-bounds : (us : List Piece) (takes : Bool) (node : List ℕ) (i : ℕ) (ps : List Placed) → AreRanked ps → HoldsFrom us i (map piece_of ps) → AllByRecursion (Bounds us takes node) (ends_from takes node i ps)
    all-bounds us takes node i [] r h = tt
    all-bounds us takes node i (p ∷ ps) r h =
        both (Bounds us takes node) (ends_in (behaviour_of p.kind) takes node i 0 p.nodes) (ends_from takes node (suc i) ps)
        (piece-bounds us (piece_of p) i 0 node takes p.nodes h.0 r.0.right) (all-bounds us takes node (suc i) ps r.1 h.1)

    -- The pieces of a node's own, between its ends in rank.
    abbrev own_pieces : List Placed → List ℕ → List Piece
    own_pieces placed node =
        where_true (is_many (incoming placed node)) (record { kind = branched primitives.Merger (length (incoming placed node)); ranks = (3 * rank node + 1) ∷ [] })
        ++ where_true (is_many (outgoing placed node)) (record { kind = branched primitives.Replicator (length (outgoing placed node)); ranks = (3 * rank node + 2) ∷ [] })

    abbrev all_pieces : List Placed → List (List ℕ) → List Piece
    all_pieces placed nodes = map piece_of placed ++ flat_map (own_pieces placed) nodes

    own-each : (placed : List Placed) (node : List ℕ) → AllByRecursion HasEach (own_pieces placed node)
    own-each placed node =
        both HasEach _ _ (each-where (is_many (incoming placed node)) (branched primitives.Merger (length (incoming placed node))) (3 * rank node + 1) (merger-side (length (incoming placed node)) _ _ refl refl).0)
        (each-where (is_many (outgoing placed node)) (branched primitives.Replicator (length (outgoing placed node))) (3 * rank node + 2) (replicator-side (length (outgoing placed node)) _ _ refl refl).0)

    own-kinds : (placed : List Placed) (node : List ℕ) → map (λ (u : Piece). u.kind) (own_pieces placed node) ≡ own_kinds placed node
    own-kinds placed node =
        map-append (λ (u : Piece). u.kind) (where_true (is_many (incoming placed node)) (record { kind = branched primitives.Merger (length (incoming placed node)); ranks = (3 * rank node + 1) ∷ [] })) _
        ∙ (λ i. kinds-where (is_many (incoming placed node)) (branched primitives.Merger (length (incoming placed node))) ((3 * rank node + 1) ∷ []) i
        ++ kinds-where (is_many (outgoing placed node)) (branched primitives.Replicator (length (outgoing placed node))) ((3 * rank node + 2) ∷ []) i)

    pieces-each : (all : List Placed) (placed : List Placed) (nodes : List (List ℕ)) → AreRanked placed → AllByRecursion HasEach (map piece_of placed ++ flat_map (own_pieces all) nodes)
    pieces-each all [] [] r = tt
    pieces-each all [] (n ∷ ns) r = both HasEach (own_pieces all n) (flat_map (own_pieces all) ns) (own-each all n) (pieces-each all [] ns r)
    pieces-each all (p ∷ ps) nodes r = (r.0.each, pieces-each all ps nodes r.1)

    pieces-kinds : (all placed : List Placed) (nodes : List (List ℕ)) → map behaviour_in (map piece_of placed ++ flat_map (own_pieces all) nodes) ≡ map behaviour_of (map (λ (p : Placed). p.kind) placed ++ flat_map (own_kinds all) nodes)
    pieces-kinds all [] [] = refl
    pieces-kinds all [] (n ∷ ns) =
        map-append behaviour_in (own_pieces all n) (flat_map (own_pieces all) ns)
        ∙ (λ i. (of-kinds (own_pieces all n) ∙ ap (map behaviour_of) (own-kinds all n)) i ++ pieces-kinds all [] ns i)
        ∙ sym (map-append behaviour_of (own_kinds all n) (flat_map (own_kinds all) ns))
      where
        of-kinds : (us : List Piece) → map behaviour_in us ≡ map behaviour_of (map (λ (u : Piece). u.kind) us)
        of-kinds [] = refl
        of-kinds (u ∷ us) = ap (λ bs. behaviour_in u ∷ bs) (of-kinds us)
    pieces-kinds all (p ∷ ps) nodes = ap (λ bs. behaviour_of p.kind ∷ bs) (pieces-kinds all ps nodes)

    -- All joints rise.
    joints-rise : (us : List Piece) (placed : List Placed) (at : ℕ) (nodes : List (List ℕ)) → AreRanked placed → HoldsFrom us 0 (map piece_of placed) → HoldsFrom us at (flat_map (own_pieces placed) nodes) → AllByRecursion (Rises us) (joints_at placed at nodes)
    joints-rise us placed at [] r front own = tt
    joints-rise us placed at (n ∷ ns) r front own =
        let ins = incoming placed n in
        let outs = outgoing placed n in
        let merger = where_true (is_many ins) (record { kind = branched primitives.Merger (length ins); ranks = (3 * rank n + 1) ∷ [] }) in
        let replicator = where_true (is_many outs) (record { kind = branched primitives.Replicator (length outs); ranks = (3 * rank n + 2) ∷ [] }) in
        let lm : length merger ≡ many ins = length-where (is_many ins) _ in
        let lr : length replicator ≡ many outs = length-where (is_many outs) _ in
        let (here, rest) = holds-split us at (merger ++ replicator) (flat_map (own_pieces placed) ns) own in
        let (h1, h2) = holds-split us at merger replicator here in
        let long : length (merger ++ replicator) ≡ many ins + many outs = length-append merger replicator ∙ (λ i. lm i + lr i) in
        both (Rises us) (joints_of ins outs at) (joints_at placed (at + (many ins + many outs)) ns)
        (node-rises us (rank n) ins outs at (at + many ins) (all-bounds us false n 0 placed r front) (all-bounds us true n 0 placed r front)
        (one-piece us at (3 * rank n + 1) (is_many ins) (branched primitives.Merger (length ins)) (merger-side (length ins) _ _ refl refl).1 h1)
        (one-piece us (at + many ins) (3 * rank n + 2) (is_many outs) (branched primitives.Replicator (length outs)) (replicator-side (length outs) _ _ refl refl).1 (subst (λ k. HoldsFrom us (at + k) replicator) lm h2)))
        (joints-rise us placed (at + (many ins + many outs)) ns r front (subst (λ k. HoldsFrom us (at + k) (flat_map (own_pieces placed) ns)) long rest))

    -- So no directed cycle of sides is there.
    pub ranked-no-cycle : (placed : List Placed) (nodes : List (List ℕ)) (net : Net) → AreRanked placed
        → net.primitives ≡ map behaviour_of (map (λ (p : Placed). p.kind) placed ++ flat_map (own_kinds placed) nodes) → net.joints ≡ joints_at placed (length placed) nodes → NoCycle (from_sides net) (to_sides net)
    ranked-no-cycle placed nodes net r ps js =
        let us = all_pieces placed nodes in
        let each = pieces-each placed placed nodes r in
        let same : net.primitives ≡ map behaviour_in us = ps ∙ sym (pieces-kinds placed placed nodes) in
        let (front, own) = holds-split us 0 (map piece_of placed) (flat_map (own_pieces placed) nodes) (all-hold [] us) in
        let long : 0 + length (map piece_of placed) ≡ length placed = zero-add (length (map piece_of placed)) ∙ length-map placed piece_of in
        let rise = joints-rise us placed (length placed) nodes r front (subst (λ k. HoldsFrom us k (flat_map (own_pieces placed) nodes)) long own) in
        no-cycle (from_sides net) (to_sides net) (λ s. get_or (all_ranks us) s 0) (arrows-rise us net net.joints each same (subst (λ (l : List Joint). AllByRecursion (Rises us) l) (sym js) rise))
