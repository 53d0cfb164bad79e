-- Made work is of small size.
use Rattle.std.proofs.Common.{arith, lit≤, ◌≡◌, ◌∙◌, ℕ, ◌+◌, ◌-◌, ◌*◌, ◌<◌, ◌≤◌, ◌^◌, ◌==◌, max, zero, suc, List, [], ◌∷◌, ◌++◌, length, map, Bool, true, false, ◌||◌, refl, sym, subst, nat_lt, codes}
use Rattle.std.proofs.lemmas.Bool.{le-ltb}
use Rattle.std.specs.Prelude.{if◌then◌else◌}
use Rattle.std.specs.List.{flat_map, range_with_len, sum_by, fold}
use Rattle.std.specs.Fmt.{decimal}
use Rattle.std.proofs.lemmas.Fmt.{length-decimal-le}
use Rattle.std.proofs.lemmas.List.{length-append}
use Rattle.std.proofs.lemmas.List.Sums.{fold-append, sum_by-append, sum_by-cons}
use Rattle.reo_trees.specs.declared.items.Item.{Item}
use Rattle.reo_rules.specs.declared.fault.FlatFault.TheVariants as faults
use Rattle.reo_rules.specs.Lists.{where_true}
use Rattle.reo_flat.specs.Unfolding.{uses_in, depth_in}
use Rattle.reo_flat.specs.Flat.{primitives_of}
use Rattle.reo_flat.specs.Sizes.{too_many}
use Rattle.reo_flat.specs.Refusals.{IsAccepted}
use Rattle.reo_gen.specs.Names.{numbered, link, output}
use Rattle.reo_gen.specs.Circuits.{stage_text, output_text, link_line, source_of, sink_of, use_line, circuit_text}
use Rattle.reo_gen.specs.Scripts.{write_text, writer_line, taker_line, script_text}
use Rattle.reo_gen.proofs.laws.Written.{Lines, made_by}
use Rattle.reo_gen.proofs.laws.Trees.{Places, declarations_of, program_of, link_by, stage_by}
use Rattle.reo_gen.proofs.laws.Passes.{both-none}
use Rattle.reo_gen.proofs.laws.Rules.{links_in, stages_in, rules-hold}
use Rattle.reo_gen.proofs.laws.Placing.{stage_meaning}
use Rattle.reo_gen.proofs.laws.Rising.{no-cycle-made}
use Rattle.reo_gen.proofs.laws.Counting.{primitives-count}

-- The uses of a made circuit, and how deep they are.
abbrev uses_by : Places → Item → ℕ
uses_by at i = uses_in (stage_meaning at ∷ []) i.form

abbrev depth_by : Places → ℕ → Item → ℕ
depth_by at most i = max most (depth_in (stage_meaning at ∷ []) i.form)

sum-range : (f : Item → ℕ) (make : ℕ → Lines → Item) (w a k : ℕ) (at : ℕ → Lines) → ((j : ℕ) (l : Lines) → f (make j l) ≡ w) → sum_by f (made_by (map make (range_with_len a k)) at) ≡ w * k
sum-range f make w a zero at h = omega arith
sum-range f make w a (suc k) at h =
    let here = h a (at zero) in
    let rest = sum-range f make w (a + 1) k (λ j. at (suc j)) h in
    sum_by-cons f (make a (at zero)) (made_by (map make (range_with_len (a + 1) k)) (λ j. at (suc j))) ∙ omega (arith, here, rest)

few-uses : (n : ℕ) (at : Places) → sum_by (uses_by at) (links_in n at ++ stages_in n at) ≡ n
few-uses n at =
    let links = sum-range (uses_by at) link_by 0 1 (n - 1) at.main_links (λ j l. refl) in
    let stages = sum-range (uses_by at) (stage_by n) 1 1 n at.main_stages (λ j l. refl) in
    sum_by-append (uses_by at) (links_in n at) (stages_in n at) ∙ omega (arith, links, stages)

deep-range : (at : Places) (make : ℕ → Lines → Item) (a k m : ℕ) (lines : ℕ → Lines) → m ≤ 1 → ((j : ℕ) (l : Lines) → depth_in (stage_meaning at ∷ []) (make j l).form ≤ 1) → fold (depth_by at) m (made_by (map make (range_with_len a k)) lines) ≤ 1
deep-range at make a zero m lines low h = low
deep-range at make a (suc k) m lines low h =
    let here = h a (lines zero) in
    deep-range at make (a + 1) k (max m (depth_in (stage_meaning at ∷ []) (make a (lines zero)).form)) (λ j. lines (suc j)) (omega arith) h

not-deep : (n : ℕ) (at : Places) → fold (depth_by at) 0 (links_in n at ++ stages_in n at) ≤ 1
not-deep n at =
    subst (λ k. k ≤ 1) (sym (fold-append (depth_by at) 0 (links_in n at) (stages_in n at)))
    (deep-range at (stage_by n) 1 n (fold (depth_by at) 0 (links_in n at)) at.main_stages (deep-range at link_by 1 (n - 1) 0 at.main_links (lit≤ tt) (λ j l. lit≤ tt)) (λ j l. lit≤ tt))

few-enough : (n : ℕ) (at : Places) → 1 ≤ n → n ≤ 256 → too_many (declarations_of n at) ≡ []
few-enough n at some few =
    let count = primitives-count n at some few in
    let uses = few-uses n at in
    let p : nat_lt 4096 (length (primitives_of (declarations_of n at))) ≡ false = le-ltb 4096 _ (omega arith) in
    let u : nat_lt 65536 (sum_by (uses_by at) (links_in n at ++ stages_in n at)) ≡ false = le-ltb 65536 _ (omega arith) in
    let deep = not-deep n at in
    let d : nat_lt 64 (fold (depth_by at) 0 (links_in n at ++ stages_in n at)) ≡ false = le-ltb 64 _ (omega arith) in
    λ i. where_true ((p i || u i) || d i) faults.TooMany

-- The program is accepted.
pub accepted : (n : ℕ) (at : Places) → 1 ≤ n → n ≤ 256 → IsAccepted (program_of n at)
accepted n at some few = record {
  no_break = both-none _ _ (rules-hold n at some few) (few-enough n at some few);
  no_cycle = no-cycle-made n at few;
}

-- The lengths of the texts.
short-number : (j : ℕ) → j < 1000 → length (decimal j) ≤ 3
short-number j h = length-decimal-le 3 j (omega arith) (omega arith) (omega arith)

most-each : (f : ℕ → List ℕ) (w a k : ℕ) → ((j : ℕ) → a ≤ j → j < a + k → length (f j) ≤ w) → length (flat_map f (range_with_len a k)) ≤ w * k
most-each f w a zero h = omega arith
most-each f w a (suc k) h =
    let here = h a (omega arith) (omega arith) in
    let rest = most-each f w (a + 1) k (λ j l u. h j (omega arith) (omega arith)) in
    let both = length-append (f a) (flat_map f (range_with_len (a + 1) k)) in
    omega (arith, here, rest, both)

short-output : (j : ℕ) → j < 1000 → length (output_text j) ≤ 20
short-output j h = let d = short-number j h in omega (arith, d, length-append (codes ", out " ++ output j) (codes ": t"))

short-link : (j : ℕ) → j < 1000 → length (link_line j) ≤ 20
short-link j h = let d = short-number j h in omega (arith, d, length-append (codes "  node " ++ link j) (codes ": t;\n"))

short-one : (b : Bool) (x y : List ℕ) → length x ≤ 4 → length y ≤ 4 → length (if b then x else y) ≤ 4
short-one true x y h k = h
short-one false x y h k = k

short-use : (n j : ℕ) → j < 1000 → length (use_line n j) ≤ 40
short-use n j h =
    let d = short-number j h in
    let p = short-number (j - 1) (omega arith) in
    let z = short-number 0 (lit≤ tt) in
    let x = short-one (j == 1) (codes "i") (link (j - 1)) (lit≤ tt) (omega (arith, p)) in
    let y = short-one (j == n) (output 0) (link j) (omega (arith, z)) (omega (arith, d)) in
    let a = codes "  use stage(" ++ source_of j in
    let b = a ++ codes ", " in
    let c = b ++ sink_of n j in
    let e = c ++ codes ", " in
    let f = e ++ output j in
    omega (arith, d, x, y, length-append a (codes ", "), length-append b (sink_of n j), length-append c (codes ", "), length-append e (output j), length-append f (codes ");\n"))

stage-short : length stage_text ≤ 300
unfolding stage_text
stage-short = lit≤ tt

pub circuit-short : (n : ℕ) → n ≤ 256 → length (circuit_text n) < 2 ^ 32
unfolding circuit_text
circuit-short n few =
    let outs = most-each output_text 20 0 (n + 1) (λ j l u. short-output j (omega arith)) in
    let links = most-each link_line 20 1 (n - 1) (λ j l u. short-link j (omega arith)) in
    let uses = most-each (use_line n) 40 1 n (λ j l u. short-use n j (omega arith)) in
    let o = flat_map output_text (range_with_len 0 (n + 1)) in
    let l = flat_map link_line (range_with_len 1 (n - 1)) in
    let u = flat_map (use_line n) (range_with_len 1 n) in
    let head = (codes "connector main(in i: t" ++ o) ++ codes ") {\n" in
    let h = length-append (codes "connector main(in i: t" ++ o) (codes ") {\n") in
    let a = length-append stage_text head in
    let b = length-append (stage_text ++ head) l in
    let c = length-append ((stage_text ++ head) ++ l) u in
    let d = length-append (((stage_text ++ head) ++ l) ++ u) (codes "}\n") in
    omega (arith, stage-short, outs, links, uses, h, a, b, c, d)

short-write : (j : ℕ) → j < 1000 → length (write_text j) ≤ 20
short-write j h = let d = short-number j h in omega (arith, d, length-append (codes "write i " ++ decimal j) (codes "; "))

short-taker : (j : ℕ) → j < 1000 → length (taker_line j) ≤ 70
short-taker j h =
    let d = short-number j h in
    let a = codes "component " ++ numbered (codes "t") j in
    let b = a ++ codes " { repeat 1000 { take " in
    let c = b ++ output j in
    omega (arith, d, length-append a (codes " { repeat 1000 { take "), length-append b (output j), length-append c (codes "; } }\n"))

writer-short : length writer_line ≤ 500
unfolding writer_line
writer-short =
    let writes = most-each write_text 20 0 20 (λ j l u. short-write j (omega arith)) in
    let w = flat_map write_text (range_with_len 0 20) in
    omega (arith, writes, length-append (codes "component w { " ++ w) (codes "}\n"), length-append (codes "component w { ") w)

pub script-short : (n : ℕ) → n ≤ 256 → length (script_text n) < 2 ^ 32
unfolding script_text
script-short n few =
    let takers = most-each taker_line 70 0 (n + 1) (λ j l u. short-taker j (omega arith)) in
    omega (arith, writer-short, takers, length-append writer_line (flat_map taker_line (range_with_len 0 (n + 1))))
