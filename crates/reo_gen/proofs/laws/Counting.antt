-- How many primitives a made circuit has.
use Rattle.std.proofs.Common.{arith, ◌≡◌, ◌∙◌, ℕ, ◌+◌, ◌-◌, ◌*◌, ◌<◌, ◌≤◌, ◌==◌, zero, suc, List, [], ◌∷◌, ◌++◌, length, map, drop, Bool, true, false, cond, ◌&&◌, refl, sym, ap, inl, inr, append_assoc, nat_le, codes}
use Rattle.std.specs.Prelude.{bytes_eq}
use Rattle.std.specs.List.{flat_map, range_with_len, list_all}
use Rattle.std.specs.Fmt.{decimal}
use Rattle.std.proofs.Math.Nat.{eq-or-lt_of_le}
use Rattle.std.proofs.lemmas.Bool.{eqb-false, and_parts}
use Rattle.std.proofs.lemmas.Bool.Decides.{nat_tests, Decides-eqb}
use Rattle.std.proofs.lemmas.List.{length-append, length-map}
use Rattle.std.proofs.lemmas.List.FromFn.{length-map-range_with_len}
use Rattle.std.proofs.lemmas.Grind.{flat_map-append}
use Rattle.reo_values.specs.Names.{is_digit}
use Rattle.reo_values.proofs.Sequences.{bytes_same}
use Rattle.reo_grammar.specs.Spelling.{is_digits}
use Rattle.reo_lexer.proofs.Spelled.{digit-parts}
use Rattle.reo_syntax.proofs.Decimals.{decimal-value}
use Rattle.reo_net_base.specs.Behaviour.{Behaviour}
use Rattle.reo_net_base.specs.Net.{end_of}
use Rattle.reo_kinds.specs.Kinds.{behaviour_of}
use Rattle.reo_rules.specs.Lists.{where_true}
use Rattle.reo_rules.specs.Touches.{bool_eq}
use Rattle.reo_flat.specs.Unfolding.{Placed}
use Rattle.reo_flat.specs.Ends.{ends_in, ends_from, incoming, outgoing}
use Rattle.reo_flat.specs.Joints.{is_many}
use Rattle.reo_flat.specs.Flat.{own_kinds, port_placed, primitives_of, branched}
use Rattle.reo_flat.proofs.flatten_laws.Cuts.{number_once, behind}
use Rattle.reo_gen.specs.Names.{link, output}
use Rattle.reo_gen.specs.Circuits.{source_of, sink_of}
use Rattle.reo_gen.proofs.laws.Trees.{Places, declarations_of}
use Rattle.reo_gen.proofs.laws.NameTests.{Small, other-name, other-outputs, other-links}
use Rattle.reo_gen.proofs.laws.Rules.{source-one, sink-one, outputs_to, links_to, last-sink, link-sink, link-source}
use Rattle.reo_gen.proofs.laws.ScriptChecks.{made_ports, in_port, out_port}
use Rattle.reo_gen.proofs.laws.Placing.{stage_placed, stage_nodes, stage_at, path_of, made_placed, made_nodes, placed-are, nodes-are}
use Rattle.reo_kinds.specs.declared.kind.Kind.TheVariants.{Merger, Replicator}

abbrev one_if : Bool → ℕ
one_if b = cond b 1 0

-- How many ends of what is placed are at a node, and take in, or give.
abbrev hits_in : Behaviour → Bool → List ℕ → ℕ → List (List ℕ) → ℕ
hits_in b takes v x [] = 0
hits_in b takes v x (n ∷ ns) = one_if (bytes_eq v n && bool_eq (b.takes_in x) takes) + hits_in b takes v (suc x) ns

abbrev hits : Bool → List ℕ → List Placed → ℕ
hits takes v [] = 0
hits takes v (p ∷ ps) = hits_in (behaviour_of p.kind) takes v 0 p.nodes + hits takes v ps

length-where : {X : Type 0} (b : Bool) (x : X) → length (where_true b x) ≡ one_if b
length-where true x = refl
length-where false x = refl

length-in : (b : Behaviour) (takes : Bool) (v : List ℕ) (i x : ℕ) (ns : List (List ℕ)) → length (ends_in b takes v i x ns) ≡ hits_in b takes v x ns
length-in b takes v i x [] = refl
length-in b takes v i x (n ∷ ns) =
    length-append (where_true (bytes_eq v n && bool_eq (b.takes_in x) takes) (end_of i x)) (ends_in b takes v i (suc x) ns)
    ∙ (λ j. length-where (bytes_eq v n && bool_eq (b.takes_in x) takes) (end_of i x) j + length-in b takes v i (suc x) ns j)

length-ends : (takes : Bool) (v : List ℕ) (i : ℕ) (ps : List Placed) → length (ends_from takes v i ps) ≡ hits takes v ps
length-ends takes v i [] = refl
length-ends takes v i (p ∷ ps) =
    length-append (ends_in (behaviour_of p.kind) takes v i 0 p.nodes) (ends_from takes v (suc i) ps) ∙ (λ j. length-in (behaviour_of p.kind) takes v i 0 p.nodes j + length-ends takes v (suc i) ps j)

hits-append : (takes : Bool) (v : List ℕ) (ps qs : List Placed) → hits takes v (ps ++ qs) ≡ hits takes v ps + hits takes v qs
hits-append takes v [] qs = omega arith
hits-append takes v (p ∷ ps) qs = let more = hits-append takes v ps qs in omega arith

-- Stages of a range of which one alone has ends at a node, or none.
hits-none : (n : ℕ) (takes : Bool) (v : List ℕ) (a k : ℕ) → ((j : ℕ) → a ≤ j → j < a + k → hits takes v (stage_at n j) ≡ 0) → hits takes v (flat_map (stage_at n) (range_with_len a k)) ≡ 0
hits-none n takes v a zero h = refl
hits-none n takes v a (suc k) h =
    hits-append takes v (stage_at n a) (flat_map (stage_at n) (range_with_len (a + 1) k)) ∙ (λ i. h a (omega arith) (omega arith) i + hits-none n takes v (a + 1) k (λ j l u. h j (omega arith) (omega arith)) i)

hits-one : (n : ℕ) (takes : Bool) (v : List ℕ) (c m a k : ℕ) → a ≤ m → m < a + k → hits takes v (stage_at n m) ≡ c → ((j : ℕ) → a ≤ j → j < a + k → (j ≡ m → ⊥) → hits takes v (stage_at n j) ≡ 0)
    → hits takes v (flat_map (stage_at n) (range_with_len a k)) ≡ c
hits-one n takes v c m a zero l u e h = absurd (omega arith)
hits-one n takes v c m a (suc k) l u e h =
    hits-append takes v (stage_at n a) (flat_map (stage_at n) (range_with_len (a + 1) k))
    ∙ elim (eq-or-lt_of_le l) [
      | inl same ↦ (λ i. (ap (λ j. hits takes v (stage_at n j)) same ∙ e) i + hits-none n takes v (a + 1) k (λ j l' u'. h j (omega arith) (omega arith) (λ z. omega arith)) i) ∙ omega arith
      | inr more ↦ (λ i. h a (omega arith) (omega arith) (λ z. omega arith) i + hits-one n takes v c m (a + 1) k (omega arith) (omega arith) e (λ j l' u' z. h j (omega arith) (omega arith) z) i) ∙ omega arith
    ]

-- The ends at a node of one stage, by which of its nodes it is.
miss : (b : Bool) → one_if (b && false) ≡ 0
miss true = refl
miss false = refl

hit : (b : Bool) → one_if (b && true) ≡ one_if b
hit true = refl
hit false = refl

abbrev gives_of : Bool → Bool → Bool → Bool → Bool → Bool → Bool → ℕ
gives_of x y k p q b c = one_if x + (one_if y + (one_if p + (one_if k + (one_if q + (one_if k + (one_if b + one_if c))))))

abbrev takes_of : Bool → Bool → Bool → Bool → Bool → Bool → ℕ
takes_of a x y k p q = one_if a + (one_if a + (one_if x + (one_if x + (one_if y + (one_if y + (one_if a + (one_if k + (one_if p + one_if q))))))))

stage-gives : (v path a b c : List ℕ)
    → hits false v (stage_placed path a b c) ≡ gives_of (bytes_eq v (path ++ codes "x")) (bytes_eq v (path ++ codes "y")) (bytes_eq v (path ++ codes "k")) (bytes_eq v (path ++ codes "p")) (bytes_eq v (path ++ codes "q")) (bytes_eq v b) (bytes_eq v c)
stage-gives v path a b c =
    let x = bytes_eq v (path ++ codes "x") in
    let y = bytes_eq v (path ++ codes "y") in
    let k = bytes_eq v (path ++ codes "k") in
    let p = bytes_eq v (path ++ codes "p") in
    let q = bytes_eq v (path ++ codes "q") in
    let d = bytes_eq v a in
    (λ i. (miss d i + (hit x i + 0)) + ((miss d i + (hit y i + 0)) + ((miss x i + (hit p i + 0)) + ((miss x i + (hit k i + 0)) + ((miss y i + (hit q i + 0)) + ((miss y i + (hit k i + 0))
    + ((miss d i + (miss k i + 0)) + ((miss p i + (hit (bytes_eq v b) i + 0)) + ((miss q i + (hit (bytes_eq v c) i + 0)) + 0)))))))))
    ∙ omega arith

stage-takes : (v path a b c : List ℕ)
    → hits true v (stage_placed path a b c) ≡ takes_of (bytes_eq v a) (bytes_eq v (path ++ codes "x")) (bytes_eq v (path ++ codes "y")) (bytes_eq v (path ++ codes "k")) (bytes_eq v (path ++ codes "p")) (bytes_eq v (path ++ codes "q"))
stage-takes v path a b c =
    let x = bytes_eq v (path ++ codes "x") in
    let y = bytes_eq v (path ++ codes "y") in
    let k = bytes_eq v (path ++ codes "k") in
    let p = bytes_eq v (path ++ codes "p") in
    let q = bytes_eq v (path ++ codes "q") in
    let d = bytes_eq v a in
    (λ i. (hit d i + (miss x i + 0)) + ((hit d i + (miss y i + 0)) + ((hit x i + (miss p i + 0)) + ((hit x i + (miss k i + 0)) + ((hit y i + (miss q i + 0)) + ((hit y i + (miss k i + 0))
    + ((hit d i + (hit k i + 0)) + ((hit p i + (miss (bytes_eq v b) i + 0)) + ((hit q i + (miss (bytes_eq v c) i + 0)) + 0)))))))))
    ∙ omega arith

-- Which names within stages are the same.
no-digit : (d : ℕ) → is_digit d ≡ true → (d == 116) ≡ false
no-digit d h = let (l, u) = digit-parts d h in grind (arith, nat_tests)

no-digit_back : (d : ℕ) → is_digit d ≡ true → (116 == d) ≡ false
no-digit_back d h = let (l, u) = digit-parts d h in grind (arith, nat_tests)

digits-other : (ds rest : List ℕ) → is_digits ds ≡ true → bytes_eq (115 ∷ ds) (115 ∷ 116 ∷ rest) ≡ false
digits-other [] rest h = absurd (cc)
digits-other (d ∷ ds) rest h = λ i. no-digit d ((and_parts (is_digit d) (list_all is_digit ds) h).0) i && bytes_eq ds rest

other-digits : (ds rest : List ℕ) → is_digits ds ≡ true → bytes_eq (115 ∷ 116 ∷ rest) (115 ∷ ds) ≡ false
other-digits [] rest h = absurd (cc)
other-digits (d ∷ ds) rest h = λ i. no-digit_back d ((and_parts (is_digit d) (list_all is_digit ds) h).0) i && bytes_eq rest ds

abbrev inner : ℕ → ℕ → List ℕ
inner m l = path_of m ++ l ∷ []

link-inner : (m j l : ℕ) → Small m → bytes_eq (link m) (inner j l) ≡ false
link-inner m j l h = digits-other (decimal m) (codes "age@" ++ ((decimal j ++ codes ".") ++ l ∷ [])) (decimal-value m h).0

inner-link : (m j l : ℕ) → Small j → bytes_eq (inner m l) (link j) ≡ false
inner-link m j l h = other-digits (decimal j) (codes "age@" ++ ((decimal m ++ codes ".") ++ l ∷ [])) (decimal-value j h).0

inner-letter : (m l r : ℕ) → (l ≡ r → ⊥) → bytes_eq (inner m l) (inner m r) ≡ false
inner-letter m l r h = other-name (inner m l) (inner m r) (λ e. h (first (behind (path_of m) (l ∷ []) (r ∷ []) e)))
  where
    first : l ∷ [] ≡ r ∷ [] → l ≡ r
    first e = cc

inner-other : (m j l r : ℕ) → Small m → Small j → (m ≡ j → ⊥) → bytes_eq (inner m l) (inner j r) ≡ false
inner-other m j l r hm hj h =
    other-name (inner m l) (inner j r)
    (λ e. h (number_once m j (l ∷ []) (r ∷ []) hm hj (sym (append_assoc (decimal m) (codes ".") (l ∷ [])) ∙ ap (λ z. drop 6 z) e ∙ append_assoc (decimal j) (codes ".") (r ∷ []))))

-- A node that is none of those within a stage.
record IsApart (v : List ℕ) (j : ℕ) : Type 0 where
  pub x : bytes_eq v (inner j 120) ≡ false
  pub y : bytes_eq v (inner j 121) ≡ false
  pub k : bytes_eq v (inner j 107) ≡ false
  pub p : bytes_eq v (inner j 112) ≡ false
  pub q : bytes_eq v (inner j 113) ≡ false

apart-gives : (n j : ℕ) (v : List ℕ) (b c : Bool) → IsApart v j → bytes_eq v (sink_of n j) ≡ b → bytes_eq v (output j) ≡ c → hits false v (stage_at n j) ≡ gives_of false false false false false b c
apart-gives n j v b c a eb ec = stage-gives v (path_of j) (source_of j) (sink_of n j) (output j) ∙ (λ i. gives_of (a.x i) (a.y i) (a.k i) (a.p i) (a.q i) (eb i) (ec i))

apart-takes : (n j : ℕ) (v : List ℕ) (d : Bool) → IsApart v j → bytes_eq v (source_of j) ≡ d → hits true v (stage_at n j) ≡ takes_of d false false false false false
apart-takes n j v d a e = stage-takes v (path_of j) (source_of j) (sink_of n j) (output j) ∙ (λ i. takes_of (e i) (a.x i) (a.y i) (a.k i) (a.p i) (a.q i))

input-apart : (j : ℕ) → IsApart (codes "i") j
input-apart j = record { x = refl; y = refl; k = refl; p = refl; q = refl }

output-apart : (m j : ℕ) → IsApart (output m) j
output-apart m j = record { x = refl; y = refl; k = refl; p = refl; q = refl }

link-apart : (m j : ℕ) → Small m → IsApart (link m) j
link-apart m j h = record { x = link-inner m j 120 h; y = link-inner m j 121 h; k = link-inner m j 107 h; p = link-inner m j 112 h; q = link-inner m j 113 h }

inner-apart : (m l j : ℕ) → Small m → Small j → (m ≡ j → ⊥) → IsApart (inner m l) j
inner-apart m l j hm hj h = record { x = inner-other m j l 120 hm hj h; y = inner-other m j l 121 hm hj h; k = inner-other m j l 107 hm hj h; p = inner-other m j l 112 hm hj h; q = inner-other m j l 113 hm hj h }

-- The stages at each node.
abbrev stages_hit : ℕ → Bool → List ℕ → ℕ
stages_hit n takes v = hits takes v (flat_map (stage_at n) (range_with_len 1 n))

input-given : (n : ℕ) → stages_hit n false (codes "i") ≡ 0
input-given n = hits-none n false (codes "i") 1 n (λ j l u. apart-gives n j (codes "i") false false (input-apart j) (sink-one (λ z. bytes_eq (codes "i") z ≡ false) n j refl (λ e. refl)) refl)

input-taken : (n : ℕ) → 1 ≤ n → stages_hit n true (codes "i") ≡ 3
input-taken n some =
    hits-one n true (codes "i") 3 1 1 n (omega arith) (omega arith) (apart-takes n 1 (codes "i") true (input-apart 1) refl)
    (λ j l u z. apart-takes n j (codes "i") false (input-apart j) (ap (bytes_eq (codes "i")) (sym (link-source j z))))

output-given : (n m : ℕ) → 1 ≤ n → n ≤ 256 → m < n + 1 → stages_hit n false (output m) ≡ 1
output-given n zero some few u =
    hits-one n false (output 0) 1 n 1 n some (omega arith)
    (apart-gives n n (output 0) true false (output-apart 0 n) (ap (bytes_eq (output 0)) (sym (last-sink n)) ∙ bytes_same (output 0)) (other-outputs 0 n (omega arith) (omega arith) (λ e. omega arith)))
    (λ j l v z. apart-gives n j (output 0) false false (output-apart 0 j) (ap (bytes_eq (output 0)) (sym (link-sink n j z))) (other-outputs 0 j (omega arith) (omega arith) (λ e. omega arith)))
output-given n (suc m) some few u =
    let sinks = λ (j : ℕ). sink-one (λ z. bytes_eq (output (suc m)) z ≡ false) n j (other-outputs (suc m) 0 (omega arith) (omega arith) (λ e. omega arith)) (λ e. refl) in
    hits-one n false (output (suc m)) 1 (suc m) 1 n (omega arith) (omega arith) (apart-gives n (suc m) (output (suc m)) false true (output-apart (suc m) (suc m)) (sinks (suc m)) (bytes_same (output (suc m))))
    (λ j l v z. apart-gives n j (output (suc m)) false false (output-apart (suc m) j) (sinks j) (other-outputs (suc m) j (omega arith) (omega arith) (λ e. z (sym e))))

output-taken : (n m : ℕ) → stages_hit n true (output m) ≡ 0
output-taken n m = hits-none n true (output m) 1 n (λ j l u. apart-takes n j (output m) false (output-apart m j) (source-one (λ z. bytes_eq (output m) z ≡ false) j refl (λ e. refl)))

link-given : (n m : ℕ) → n ≤ 256 → 1 ≤ m → m < n → stages_hit n false (link m) ≡ 1
link-given n m few l u =
    hits-one n false (link m) 1 m 1 n l (omega arith) (apart-gives n m (link m) true false (link-apart m m (omega arith)) (ap (bytes_eq (link m)) (sym (link-sink n m (λ e. omega arith))) ∙ bytes_same (link m)) refl)
    (λ j k v z. apart-gives n j (link m) false false (link-apart m j (omega arith)) (sink-one (λ w. bytes_eq (link m) w ≡ false) n j refl (λ e. other-links m j (omega arith) (omega arith) (λ w. z (sym w)))) refl)

link-taken : (n m : ℕ) → n ≤ 256 → 1 ≤ m → m < n → stages_hit n true (link m) ≡ 3
link-taken n m few l u =
    hits-one n true (link m) 3 (m + 1) 1 n (omega arith) (omega arith)
    (apart-takes n (m + 1) (link m) true (link-apart m (m + 1) (omega arith)) (ap (bytes_eq (link m)) (sym (link-source (m + 1) (λ e. omega arith)) ∙ ap link (omega arith)) ∙ bytes_same (link m)))
    (λ j k v z. apart-takes n j (link m) false (link-apart m j (omega arith)) (source-one (λ w. bytes_eq (link m) w ≡ false) j refl (λ e. other-links m (j - 1) (omega arith) (omega arith) (λ w. z (omega arith)))))

inner-same : (m l r : ℕ) → bytes_eq (inner m l) (inner m r) ≡ (l == r)
inner-same m l r = by (l == r) refl
  where
    by : (b : Bool) → (l == r) ≡ b → bytes_eq (inner m l) (inner m r) ≡ b
    by true e = ap (λ z. bytes_eq (inner m l) (inner m z)) (sym ((Decides-eqb l r).0 e)) ∙ bytes_same (inner m l)
    by false e = inner-letter m l r (eqb-false l r e)

inner-sink : (n m l j : ℕ) → Small j → bytes_eq (inner m l) (sink_of n j) ≡ false
inner-sink n m l j h = sink-one (λ z. bytes_eq (inner m l) z ≡ false) n j refl (λ e. inner-link m j l h)

inner-source : (m l j : ℕ) → Small j → bytes_eq (inner m l) (source_of j) ≡ false
inner-source m l j h = source-one (λ z. bytes_eq (inner m l) z ≡ false) j refl (λ e. inner-link m (j - 1) l (omega arith))

inner-given : (n m l : ℕ) → n ≤ 256 → 1 ≤ m → m < 1 + n → stages_hit n false (inner m l) ≡ gives_of (l == 120) (l == 121) (l == 107) (l == 112) (l == 113) false false
inner-given n m l few h u =
    hits-one n false (inner m l) (gives_of (l == 120) (l == 121) (l == 107) (l == 112) (l == 113) false false) m 1 n h (omega arith)
    (stage-gives (inner m l) (path_of m) (source_of m) (sink_of n m) (output m)
    ∙ (λ i. gives_of (inner-same m l 120 i) (inner-same m l 121 i) (inner-same m l 107 i) (inner-same m l 112 i) (inner-same m l 113 i) (inner-sink n m l m (omega arith) i) false))
    (λ j k v z. apart-gives n j (inner m l) false false (inner-apart m l j (omega arith) (omega arith) (λ e. z (sym e))) (inner-sink n m l j (omega arith)) refl)

inner-taken : (n m l : ℕ) → n ≤ 256 → 1 ≤ m → m < 1 + n → stages_hit n true (inner m l) ≡ takes_of false (l == 120) (l == 121) (l == 107) (l == 112) (l == 113)
inner-taken n m l few h u =
    hits-one n true (inner m l) (takes_of false (l == 120) (l == 121) (l == 107) (l == 112) (l == 113)) m 1 n h (omega arith)
    (stage-takes (inner m l) (path_of m) (source_of m) (sink_of n m) (output m)
    ∙ (λ i. takes_of (inner-source m l m (omega arith) i) (inner-same m l 120 i) (inner-same m l 121 i) (inner-same m l 107 i) (inner-same m l 112 i) (inner-same m l 113 i)))
    (λ j k v z. apart-takes n j (inner m l) false (inner-apart m l j (omega arith) (omega arith) (λ e. z (sym e))) (inner-source m l j (omega arith)))

-- The ports at each node.
outs-given : (v : List ℕ) (a k : ℕ) → hits false v (map port_placed (map out_port (range_with_len a k))) ≡ 0
outs-given v a zero = refl
outs-given v a (suc k) = (λ i. (miss (bytes_eq v (output a)) i + 0) + outs-given v (a + 1) k i)

outs-none : (v : List ℕ) (a k : ℕ) → ((j : ℕ) → a ≤ j → j < a + k → bytes_eq v (output j) ≡ false) → hits true v (map port_placed (map out_port (range_with_len a k))) ≡ 0
outs-none v a zero h = refl
outs-none v a (suc k) h = (λ i. ((one_if (h a (omega arith) (omega arith) i && true)) + 0) + outs-none v (a + 1) k (λ j l u. h j (omega arith) (omega arith)) i)

outs-one : (m a k : ℕ) → a + k ≤ 300 → a ≤ m → m < a + k → hits true (output m) (map port_placed (map out_port (range_with_len a k))) ≡ 1
outs-one m a zero few l u = absurd (omega arith)
outs-one m a (suc k) few l u =
    elim (eq-or-lt_of_le l) [
      | inl e ↦ (λ i. ((one_if ((ap (λ z. bytes_eq (output m) (output z)) e ∙ bytes_same (output m)) i && true)) + 0)
          + outs-none (output m) (a + 1) k (λ j l' u'. other-outputs m j (omega arith) (omega arith) (λ w. omega arith)) i)
      | inr more ↦ (λ i. ((one_if (other-outputs m a (omega arith) (omega arith) (λ w. omega arith) i && true)) + 0) + outs-one m (a + 1) k (omega arith) (omega arith) (omega arith) i)
    ]

-- All ends at each node, and how many primitives of its own it has.
total : (n : ℕ) (takes : Bool) (v : List ℕ) (a b c : ℕ) → hits_in (behaviour_of (port_placed in_port).kind) takes v 0 (codes "i" ∷ []) ≡ a → hits takes v (map port_placed (map out_port (range_with_len 0 (n + 1)))) ≡ b → stages_hit n takes v ≡ c
    → length (ends_from takes v 0 (made_placed n)) ≡ a + b + c
total n takes v a b c e f g = length-ends takes v 0 (made_placed n) ∙ hits-append takes v (map port_placed (made_ports n)) (flat_map (stage_at n) (range_with_len 1 n)) ∙ (λ i. (e i + f i) + g i)

own : (n : ℕ) (v : List ℕ) (a b : ℕ) → length (incoming (made_placed n) v) ≡ a → length (outgoing (made_placed n) v) ≡ b → length (own_kinds (made_placed n) v) ≡ one_if (nat_le 2 a) + one_if (nat_le 2 b)
own n v a b e f =
    length-append (where_true (is_many (incoming (made_placed n) v)) _) _
    ∙ (λ i. length-where (is_many (incoming (made_placed n) v)) (branched Merger (length (incoming (made_placed n) v))) i
    + length-where (is_many (outgoing (made_placed n) v)) (branched Replicator (length (outgoing (made_placed n) v))) i)
    ∙ (λ i. one_if (nat_le 2 (e i)) + one_if (nat_le 2 (f i)))

own-input : (n : ℕ) → 1 ≤ n → length (own_kinds (made_placed n) (codes "i")) ≡ 1
own-input n some =
    own n (codes "i") 1 3 (total n false (codes "i") 1 0 0 refl (outs-given (codes "i") 0 (n + 1)) (input-given n))
    (total n true (codes "i") 0 0 3 refl (outs-none (codes "i") 0 (n + 1) (λ j l u. refl)) (input-taken n some))

own-output : (n m : ℕ) → 1 ≤ n → n ≤ 256 → m < n + 1 → length (own_kinds (made_placed n) (output m)) ≡ 0
own-output n m some few u =
    own n (output m) 1 1 (total n false (output m) 0 0 1 refl (outs-given (output m) 0 (n + 1)) (output-given n m some few u))
    (total n true (output m) 0 1 0 refl (outs-one m 0 (n + 1) (omega arith) (omega arith) (omega arith)) (output-taken n m))

own-link : (n m : ℕ) → n ≤ 256 → 1 ≤ m → m < n → length (own_kinds (made_placed n) (link m)) ≡ 1
own-link n m few l u =
    own n (link m) 1 3 (total n false (link m) 0 0 1 refl (outs-given (link m) 0 (n + 1)) (link-given n m few l u))
    (total n true (link m) 0 0 3 refl (outs-none (link m) 0 (n + 1) (λ j k v. refl)) (link-taken n m few l u))

own-inner : (n m l a b : ℕ) → n ≤ 256 → 1 ≤ m → m < 1 + n → gives_of (l == 120) (l == 121) (l == 107) (l == 112) (l == 113) false false ≡ a → takes_of false (l == 120) (l == 121) (l == 107) (l == 112) (l == 113) ≡ b
    → length (own_kinds (made_placed n) (inner m l)) ≡ one_if (nat_le 2 a) + one_if (nat_le 2 b)
own-inner n m l a b few h u e f =
    own n (inner m l) a b (total n false (inner m l) 0 0 a refl (outs-given (inner m l) 0 (n + 1)) (inner-given n m l few h u ∙ e) ∙ omega arith)
    (total n true (inner m l) 0 0 b refl (outs-none (inner m l) 0 (n + 1) (λ j k v. refl)) (inner-taken n m l few h u ∙ f) ∙ omega arith)

own-stage : (n m : ℕ) → n ≤ 256 → 1 ≤ m → m < 1 + n → length (flat_map (own_kinds (made_placed n)) (stage_nodes (path_of m))) ≡ 3
own-stage n m few h u =
    let f = own_kinds (made_placed n) in
    let one = λ (l : ℕ) (rest : List (List ℕ)). length-append (f (inner m l)) (flat_map f rest) in
    let x = own-inner n m 120 1 2 few h u refl refl in
    let y = own-inner n m 121 1 2 few h u refl refl in
    let k = own-inner n m 107 2 1 few h u refl refl in
    let p = own-inner n m 112 1 1 few h u refl refl in
    let q = own-inner n m 113 1 1 few h u refl refl in
    length-append (f (inner m 120)) _
    ∙ (λ i. x i + (length-append (f (inner m 121)) (flat_map f (inner m 107 ∷ inner m 112 ∷ inner m 113 ∷ []))
    ∙ (λ j. y j + (length-append (f (inner m 107)) (flat_map f (inner m 112 ∷ inner m 113 ∷ [])) ∙ (λ t. k t + (length-append (f (inner m 112)) (flat_map f (inner m 113 ∷ [])) ∙ (λ s. p s + (length-append (f (inner m 113)) [] ∙ (λ r. q r + 0)) s)) t)) j)) i)

-- Lists of the same length for each number of a range.
same-lengths : {X : Type 0} (g : ℕ → List X) (w a k : ℕ) → ((j : ℕ) → a ≤ j → j < a + k → length (g j) ≡ w) → length (flat_map g (range_with_len a k)) ≡ w * k
same-lengths g w a zero h = omega arith
same-lengths g w a (suc k) h =
    let here = h a (omega arith) (omega arith) in
    let rest = same-lengths g w (a + 1) k (λ j l u. h j (omega arith) (omega arith)) in
    let both = length-append (g a) (flat_map g (range_with_len (a + 1) k)) in
    omega (arith, here, rest, both)

flat-of_map : {X Y : Type 0} (f : X → List Y) (g : ℕ → X) (xs : List ℕ) → flat_map f (map g xs) ≡ flat_map (λ j. f (g j)) xs
flat-of_map f g [] = refl
flat-of_map f g (x ∷ xs) = ap (λ l. f (g x) ++ l) (flat-of_map f g xs)

flat-of_flat : {X Y : Type 0} (f : X → List Y) (g : ℕ → List X) (xs : List ℕ) → flat_map f (flat_map g xs) ≡ flat_map (λ j. flat_map f (g j)) xs
flat-of_flat f g [] = refl
flat-of_flat f g (x ∷ xs) = flat_map-append f (g x) (flat_map g xs) ∙ ap (λ l. flat_map f (g x) ++ l) (flat-of_flat f g xs)

own-count : (n : ℕ) → 1 ≤ n → n ≤ 256 → length (flat_map (own_kinds (made_placed n)) (made_nodes n)) ≡ 4 * n
own-count n some few =
    let f = own_kinds (made_placed n) in
    let stages = flat_map (λ j. stage_nodes (path_of j)) (range_with_len 1 n) in
    let outs = ap length (flat-of_map f output (range_with_len 0 (n + 1))) ∙ same-lengths (λ j. f (output j)) 0 0 (n + 1) (λ j l u. own-output n j some few (omega arith)) in
    let links = ap length (flat-of_map f link (range_with_len 1 (n - 1))) ∙ same-lengths (λ j. f (link j)) 1 1 (n - 1) (λ j l u. own-link n j few l (omega arith)) in
    let inners = ap length (flat-of_flat f (λ j. stage_nodes (path_of j)) (range_with_len 1 n)) ∙ same-lengths (λ j. flat_map f (stage_nodes (path_of j))) 3 1 n (λ j l u. own-stage n j few l u) in
    let input = own-input n some in
    let whole = ap length (flat_map-append f (codes "i" ∷ outputs_to (n + 1)) (links_to (n - 1) ++ stages)) ∙ length-append (flat_map f (codes "i" ∷ outputs_to (n + 1))) (flat_map f (links_to (n - 1) ++ stages)) in
    let front = length-append (f (codes "i")) (flat_map f (outputs_to (n + 1))) in
    let back = ap length (flat_map-append f (links_to (n - 1)) stages) ∙ length-append (flat_map f (links_to (n - 1))) (flat_map f stages) in
    omega (arith, whole, front, back, outs, links, inners, input)

placed-count : (n : ℕ) → length (made_placed n) ≡ 10 * n + 2
placed-count n =
    let stages = same-lengths (stage_at n) 9 1 n (λ j l u. refl) in
    let outs : length (map port_placed (map out_port (range_with_len 0 (n + 1)))) ≡ n + 1 = length-map (map out_port (range_with_len 0 (n + 1))) port_placed ∙ length-map-range_with_len out_port 0 (n + 1) in
    let both = length-append (map port_placed (made_ports n)) (flat_map (stage_at n) (range_with_len 1 n)) in
    omega (arith, both, outs, stages)

-- Fourteen for each stage, and two more.
pub primitives-count : (n : ℕ) (at : Places) → 1 ≤ n → n ≤ 256 → length (primitives_of (declarations_of n at)) ≡ 14 * n + 2
primitives-count n at some few =
    let all : length (primitives_of (declarations_of n at)) ≡ length (map (λ (p : Placed). p.kind) (made_placed n) ++ flat_map (own_kinds (made_placed n)) (made_nodes n)) =
    (λ i. length (map (λ (p : Placed). p.kind) (placed-are n at i) ++ flat_map (own_kinds (placed-are n at i)) (nodes-are n at i))) in
    let parts = length-append (map (λ (p : Placed). p.kind) (made_placed n)) (flat_map (own_kinds (made_placed n)) (made_nodes n)) in
    let first = length-map (made_placed n) (λ (p : Placed). p.kind) in
    omega (arith, all, parts, first, placed-count n, own-count n some few)
