-- A made program breaks no rule on its text.
use Rattle.std.proofs.Common.{◌≡◌, ℕ, ◌+◌, ◌-◌, ◌≤◌, ◌<◌, ◌==◌, zero, suc, Bool, true, false, ◌||◌, ◌&&◌, not, cond, List, [], ◌∷◌, ◌++◌, map, refl, sym, ◌∙◌, ap, arith, append-nil, codes}
use Rattle.std.proofs.Math.Bool.{and-false}
use Rattle.std.specs.Prelude.{bytes_eq, if◌then◌else◌, unwrap_or, Some, pos}
use Rattle.std.specs.Option.{option_map}
use Rattle.std.specs.List.{range_with_len, flat_map, list_any, find}
use Rattle.std.proofs.lemmas.List.{map-append}
use Rattle.std.proofs.lemmas.List.Folds.{list_any-append}
use Rattle.std.proofs.lemmas.Slice.Eq.{bytes_eq-Decides}
use Rattle.reo_lexer.proofs.Spelled.{never}
use Rattle.std.proofs.lemmas.List.FromFn.{map-range_with_len_more}
use Rattle.std.proofs.lemmas.Grind.{flat_map-append}
use Rattle.std.proofs.lemmas.Bool.Decides.{Decides-eqb}
use Rattle.reo_values.specs.declared.kindred.Kindred.TheVariants as kinds
use Rattle.reo_trees.specs.declared.items.Item.{Item}
use Rattle.reo_trees.specs.declared.programs.Parameter.{Parameter}
use Rattle.reo_rules.specs.declared.fault.FlatFault.{FlatFault}
use Rattle.reo_rules.specs.declared.fault.FlatFault.TheVariants as faults
use Rattle.reo_rules.specs.Lists.{each_after, where_true, has_name}
use Rattle.reo_rules.specs.Scopes.{parameter_names, node_names, node_names_in, parameter_type, node_types_in, scope_of}
use Rattle.reo_rules.specs.Twice.{twice, twice_in_parameter, twice_in_item}
use Rattle.reo_rules.specs.Unknown.{unknown, unknown_in_item, unknown_in_type, missing}
use Rattle.reo_rules.specs.Mistyped.{mistyped}
use Rattle.reo_rules.specs.Ranges.{out_of_range, range_in_type}
use Rattle.reo_rules.specs.Types.{Typed, type_named, is_same}
use Rattle.reo_rules.specs.Arity.{arity}
use Rattle.reo_rules.specs.Touches.{Touch, touch, touches_in, is_touched, bool_eq}
use Rattle.reo_rules.specs.Direction.{direction, goes_against}
use Rattle.reo_rules.specs.Dangling.{dangling, dangling_parameter, dangling_in_item}
use Rattle.reo_rules.specs.Rules.{rule_breaks}
use Rattle.reo_gen.specs.Names.{link, output}
use Rattle.reo_gen.specs.Circuits.{source_of, sink_of}
use Rattle.reo_gen.proofs.laws.Written.{Lines, made_by}
use Rattle.reo_gen.proofs.laws.Trees.{parameter_by, output_by, link_by, stage_by, main_parameters, main_links, main_stages, Places, declarations_of, stage_of, main_of}
use Rattle.reo_gen.proofs.laws.NameTests.{other-outputs, other-links, or-left, or-right, or-neither, has-left, has-right, has-neither, has-one, has-none}
use Rattle.reo_gen.proofs.laws.Passes.{both-none, pass-none, after-none, after-append, some-any, none-any, made-map, made-flat}

abbrev pub parameters_in : ℕ → Places → List Parameter
parameters_in n at = made_by (main_parameters n) at.main_parameters

abbrev pub links_in : ℕ → Places → List Item
links_in n at = made_by (main_links n) at.main_links

abbrev pub stages_in : ℕ → Places → List Item
stages_in n at = made_by (main_stages n) at.main_stages

-- The types that main knows.
abbrev pub known_types : List Typed
known_types = record { name = codes "t"; kindred = kinds.Int (pos 0) (pos 999) } ∷ []

abbrev pub outputs_to : ℕ → List (List ℕ)
outputs_to k = map output (range_with_len 0 k)

abbrev pub links_to : ℕ → List (List ℕ)
links_to k = map link (range_with_len 1 k)

pub names-of-parameters : (n : ℕ) (at : Places) → parameter_names (parameters_in n at) ≡ codes "i" ∷ outputs_to (n + 1)
names-of-parameters n at = ap (λ l. codes "i" ∷ l) (made-map (λ (p : Parameter). p.name) output_by output 0 (n + 1) (λ j. at.main_parameters (suc j)) (λ j l. refl))

pub names-of-links : (n : ℕ) (at : Places) → node_names (links_in n at) ≡ links_to (n - 1)
names-of-links n at = made-flat (λ (i : Item). node_names_in i.form) link_by link 1 (n - 1) at.main_links (λ j l. refl)

none-twice : {X : Type 0} (b : Bool) (x : X) → b ≡ false → where_true b x ≡ []
none-twice true x h = absurd (cc)
none-twice false x h = refl

twice-parameters : (n : ℕ) (at : Places) → n ≤ 256 → each_after twice_in_parameter [] (parameters_in n at) ≡ []
twice-parameters n at few =
    after-none twice_in_parameter output_by (λ j b. parameter_names b ≡ codes "i" ∷ outputs_to j) 0 (n + 1) (λ j. at.main_parameters (suc j)) (parameter_by true (codes "i") (at.main_parameters zero) ∷ []) refl
    (λ j b l h k q. ap (λ t. t ++ []) (none-twice (has_name (parameter_names b) (output j)) _ (ap (λ ns. has_name ns (output j)) q ∙ has-none output 0 j (output j) (λ i g u. other-outputs j i (omega arith) (omega arith) (λ e. omega arith)))))
    (λ j b l h k q. map-append (λ (p : Parameter). p.name) b (output_by j l ∷ []) ∙ ap (λ ns. ns ++ output j ∷ []) q ∙ ap (λ ns. codes "i" ∷ ns) (sym (map-range_with_len_more output 0 j j (omega arith))))

no-parameter : (n : ℕ) (at : Places) (j : ℕ) → has_name (parameter_names (parameters_in n at)) (link j) ≡ false
no-parameter n at j = ap (λ ns. has_name ns (link j)) (names-of-parameters n at) ∙ has-none output 0 (n + 1) (link j) (λ i g u. refl)

-- The links before a number.
abbrev LinksBefore : ℕ → List Item → Type 0
LinksBefore j b = (k : ℕ) × (j ≡ 1 + k) × (node_names b ≡ links_to k)

links-more : (j : ℕ) (b : List Item) (l : Lines) → LinksBefore j b → LinksBefore (j + 1) (b ++ link_by j l ∷ [])
links-more j b l (k, e, q) =
    (k + 1, omega arith, flat_map-append (λ (i : Item). node_names_in i.form) b (link_by j l ∷ []) ∙ ap (λ ns. ns ++ link j ∷ []) q ∙ sym (map-range_with_len_more link 1 k j (sym e)))

twice-items : (n : ℕ) (at : Places) → n ≤ 256 → each_after (λ b (i : Item). twice_in_item (parameters_in n at) b i.line i.form) [] (links_in n at ++ stages_in n at) ≡ []
twice-items n at few =
    let f : List Item → Item → List FlatFault = λ b i. twice_in_item (parameters_in n at) b i.line i.form in
    after-append f [] (links_in n at) (stages_in n at)
    ∙ both-none _ _
    (after-none f link_by LinksBefore 1 (n - 1) at.main_links [] (0, refl, refl)
    (λ j b l h u q.
    ap (λ t. t ++ []) (none-twice (has_name (parameter_names (parameters_in n at) ++ node_names b) (link j)) _
    (has-neither (parameter_names (parameters_in n at)) (node_names b) (link j) (no-parameter n at j)
    (ap (λ ns. has_name ns (link j)) q.2 ∙ has-none link 1 q.0 (link j) (λ i g v. other-links j i (omega arith) (omega (arith, q.1)) (λ e. omega (arith, q.1)))))))
    (λ j b l h u q. links-more j b l q))
    (after-none f (stage_by n) (λ j b. Unit {0}) 1 n at.main_stages (links_in n at) tt (λ j b l h u q. refl) (λ j b l h u q. tt))

twice-none : (n : ℕ) (at : Places) → 1 ≤ n → n ≤ 256 → twice (declarations_of n at) ≡ []
twice-none n at some few = ap (λ l. l ++ []) (both-none _ _ (twice-parameters n at few) (twice-items n at few))

items-none : (n : ℕ) (at : Places) (f : Item → List FlatFault) → ((j : ℕ) (l : Lines) → f (link_by j l) ≡ []) → ((j : ℕ) (l : Lines) → 1 ≤ j → j < 1 + n → f (stage_by n j l) ≡ []) → flat_map f (links_in n at ++ stages_in n at) ≡ []
items-none n at f h k =
    flat_map-append f (links_in n at) (stages_in n at) ∙ both-none _ _ (pass-none f link_by 1 (n - 1) at.main_links (λ j l i u. h j l)) (pass-none f (stage_by n) 1 n at.main_stages k)

parameters-none : (n : ℕ) (at : Places) (f : Parameter → List FlatFault) → ((l : Lines) → f (parameter_by true (codes "i") l) ≡ []) → ((j : ℕ) (l : Lines) → j < n + 1 → f (output_by j l) ≡ []) → flat_map f (parameters_in n at) ≡ []
parameters-none n at f h k = both-none _ _ (h (at.main_parameters zero)) (pass-none f output_by 0 (n + 1) (λ j. at.main_parameters (suc j)) (λ j l i u. k j l (omega arith)))

-- The names of the parameters and of the links.
abbrev names_in : ℕ → List (List ℕ)
names_in n = (codes "i" ∷ outputs_to (n + 1)) ++ links_to (n - 1)

not-same : (j k : ℕ) → (j == k) ≡ false → j ≡ k → ⊥
not-same j k h e = let same : (j == k) ≡ true = (Decides-eqb j k).1 e in cc

one-of : (P : List ℕ → Type 0) (b : Bool) (x y : List ℕ) → (b ≡ true → P x) → (b ≡ false → P y) → P (if b then x else y)
one-of P true x y h k = h refl
one-of P false x y h k = k refl

-- The node from which a stage takes, and that to which it gives on.
pub source-one : (P : List ℕ → Type 0) (j : ℕ) → P (codes "i") → ((j ≡ 1 → ⊥) → P (link (j - 1))) → P (source_of j)
source-one P j h k = one-of P (j == 1) (codes "i") (link (j - 1)) (λ e. h) (λ e. k (not-same j 1 e))

pub sink-one : (P : List ℕ → Type 0) (n j : ℕ) → P (output 0) → ((j ≡ n → ⊥) → P (link j)) → P (sink_of n j)
sink-one P n j h k = one-of P (j == n) (output 0) (link j) (λ e. h) (λ e. k (not-same j n e))

known-output : (n j : ℕ) → j < n + 1 → has_name (names_in n) (output j) ≡ true
known-output n j u = has-left (codes "i" ∷ outputs_to (n + 1)) (links_to (n - 1)) (output j) (or-right (bytes_eq (output j) (codes "i")) _ (has-one output 0 (n + 1) j (omega arith) (omega arith)))

known-link : (n j : ℕ) → 1 ≤ j → j < n → has_name (names_in n) (link j) ≡ true
known-link n j l u = has-right (codes "i" ∷ outputs_to (n + 1)) (links_to (n - 1)) (link j) (has-one link 1 (n - 1) j l (omega arith))

known-source : (n j : ℕ) → 1 ≤ j → j < 1 + n → has_name (names_in n) (source_of j) ≡ true
known-source n j l u = source-one (λ x. has_name (names_in n) x ≡ true) j refl (λ e. known-link n (j - 1) (omega arith) (omega arith))

known-sink : (n j : ℕ) → 1 ≤ j → j < 1 + n → has_name (names_in n) (sink_of n j) ≡ true
known-sink n j l u = sink-one (λ x. has_name (names_in n) x ≡ true) n j (known-output n 0 (omega arith)) (λ e. known-link n j l (omega arith))

none-missing : (names : List (List ℕ)) (line : ℕ) (x y z : List ℕ) → has_name names x ≡ true → has_name names y ≡ true → has_name names z ≡ true → flat_map (missing names line) (x ∷ y ∷ z ∷ []) ≡ []
none-missing names line x y z h k m =
    λ i. where_true (not (h i)) (faults.Unknown line x) ++ (where_true (not (k i)) (faults.Unknown line y) ++ (where_true (not (m i)) (faults.Unknown line z) ++ []))

unknown-items : (n : ℕ) (at : Places)
    → each_after (λ b (i : Item). unknown_in_item known_types (codes "stage" ∷ []) (parameter_names (parameters_in n at) ++ node_names b) i.line i.form) [] (links_in n at ++ stages_in n at) ≡ []
unknown-items n at =
    let f : List Item → Item → List FlatFault = λ b i. unknown_in_item known_types (codes "stage" ∷ []) (parameter_names (parameters_in n at) ++ node_names b) i.line i.form in
    after-append f [] (links_in n at) (stages_in n at)
    ∙ both-none _ _ (after-none f link_by (λ j b. Unit {0}) 1 (n - 1) at.main_links [] tt (λ j b l h u q. refl) (λ j b l h u q. tt))
    (after-none f (stage_by n) (λ j b. node_names b ≡ links_to (n - 1)) 1 n at.main_stages (links_in n at) (names-of-links n at)
    (λ j b l h u q.
    ap (λ ns. flat_map (missing ns l.0) (source_of j ∷ sink_of n j ∷ output j ∷ [])) (λ i. names-of-parameters n at i ++ q i)
    ∙ none-missing (names_in n) l.0 (source_of j) (sink_of n j) (output j) (known-source n j h u) (known-sink n j h u) (known-output n j (omega arith)))
    (λ j b l h u q. flat_map-append (λ (i : Item). node_names_in i.form) b (stage_by n j l ∷ []) ∙ append-nil (node_names b) ∙ q))

unknown-none : (n : ℕ) (at : Places) → unknown (declarations_of n at) ≡ []
unknown-none n at =
    ap (λ l. l ++ []) (both-none _ _ (parameters-none n at (λ (p : Parameter). unknown_in_type (codes "t" ∷ []) p.term) (λ l. refl) (λ j l u. refl)) (unknown-items n at))

-- The type of every name.
abbrev entry : List ℕ → Typed
entry name = record { name = name; kindred = kinds.Int (pos 0) (pos 999) }

typed-known : (names : List (List ℕ)) (name : List ℕ) → has_name names name ≡ true → type_named (map entry names) name ≡ kinds.Int (pos 0) (pos 999)
typed-known [] name h = absurd (cc)
typed-known (n ∷ ns) name h = step (bytes_eq name n) h (typed-known ns name)
  where
    step : (b : Bool) → (b || has_name ns name) ≡ true → (has_name ns name ≡ true → type_named (map entry ns) name ≡ kinds.Int (pos 0) (pos 999))
        → unwrap_or (option_map (λ (e : Typed). e.kindred) (cond b (Some (entry n)) (find (λ (e : Typed). bytes_eq name e.name) (map entry ns)))) kinds.Unit ≡ kinds.Int (pos 0) (pos 999)
    step true h k = refl
    step false h k = k h

entries : (f : ℕ → List ℕ) (xs : List ℕ) → map (λ j. entry (f j)) xs ≡ map entry (map f xs)
entries f [] = refl
entries f (x ∷ xs) = ap (λ l. entry (f x) ∷ l) (entries f xs)

scope-is : (n : ℕ) (at : Places) → scope_of known_types (main_of n at) ≡ map entry (names_in n)
scope-is n at =
    (λ i. (entry (codes "i") ∷ (made-map (parameter_type known_types) output_by (λ j. entry (output j)) 0 (n + 1) (λ j. at.main_parameters (suc j)) (λ j l. refl) ∙ entries output (range_with_len 0 (n + 1))) i)
    ++ (flat_map-append (λ (i : Item). node_types_in known_types i.form) (links_in n at) (stages_in n at)
    ∙ (λ j. (made-flat (λ (i : Item). node_types_in known_types i.form) link_by (λ k. entry (link k)) 1 (n - 1) at.main_links (λ k l. refl) ∙ entries link (range_with_len 1 (n - 1))) j
    ++ pass-none (λ (i : Item). node_types_in known_types i.form) (stage_by n) 1 n at.main_stages (λ k l h u. refl) j) ∙ append-nil (map entry (links_to (n - 1)))) i)
    ∙ sym (map-append entry (codes "i" ∷ outputs_to (n + 1)) (links_to (n - 1)))

typed-in : (n : ℕ) (at : Places) (name : List ℕ) → has_name (names_in n) name ≡ true → type_named (scope_of known_types (main_of n at)) name ≡ kinds.Int (pos 0) (pos 999)
typed-in n at name h = ap (λ s. type_named s name) (scope-is n at) ∙ typed-known (names_in n) name h

mistyped-none : (n : ℕ) (at : Places) → mistyped (declarations_of n at) ≡ []
mistyped-none n at =
    let K = kinds.Int (pos 0) (pos 999) in
    ap (λ l. l ++ []) (items-none n at _ (λ j l. refl) (λ j l h u.
    let tx = typed-in n at (source_of j) (known-source n j h u) in
    let ty = typed-in n at (sink_of n j) (known-sink n j h u) in
    let tz = typed-in n at (output j) (known-output n j (omega arith)) in
    λ i. where_true (not (is_same (tx i) K) || (not (is_same (ty i) K) || (not (is_same (tz i) K) || false))) (faults.Mistyped l.0)))

range-none : (n : ℕ) (at : Places) → out_of_range (declarations_of n at) ≡ []
range-none n at = ap (λ l. l ++ []) (both-none _ _ (parameters-none n at (λ (p : Parameter). range_in_type known_types p.term) (λ l. refl) (λ j l u. refl)) (items-none n at _ (λ j l. refl) (λ j l h u. refl)))

arity-none : (n : ℕ) (at : Places) → arity (declarations_of n at) ≡ []
arity-none n at = ap (λ l. l ++ []) (items-none n at _ (λ j l. refl) (λ j l h u. refl))

and-true : (b : Bool) → b ≡ false → (b && true) ≡ false
and-true true h = absurd (cc)
and-true false h = refl

right-way : (n : ℕ) (at : Places) (x : List ℕ) (w : Bool) → goes_against (touch x w) (parameter_by true (codes "i") (at.main_parameters zero)) ≡ false → ((k : ℕ) (l : Lines) → goes_against (touch x w) (output_by k l) ≡ false)
    → list_any (goes_against (touch x w)) (parameters_in n at) ≡ false
right-way n at x w h k = or-neither _ _ h (none-any (goes_against (touch x w)) output_by 0 (n + 1) (λ j. at.main_parameters (suc j)) (λ j l a b. k j l))

source-way : (n : ℕ) (at : Places) (j : ℕ) → list_any (goes_against (touch (source_of j) true)) (parameters_in n at) ≡ false
source-way n at j =
    right-way n at (source_of j) true (and-false (bytes_eq (source_of j) (codes "i")))
    (λ k l. and-true (bytes_eq (source_of j) (output k)) (source-one (λ x. bytes_eq x (output k) ≡ false) j refl (λ e. refl)))

sink-way : (n : ℕ) (at : Places) (j : ℕ) → list_any (goes_against (touch (sink_of n j) false)) (parameters_in n at) ≡ false
sink-way n at j =
    right-way n at (sink_of n j) false (and-true (bytes_eq (sink_of n j) (codes "i")) (sink-one (λ x. bytes_eq x (codes "i") ≡ false) n j refl (λ e. refl)))
    (λ k l. and-false (bytes_eq (sink_of n j) (output k)))

output-way : (n : ℕ) (at : Places) (j : ℕ) → list_any (goes_against (touch (output j) false)) (parameters_in n at) ≡ false
output-way n at j = right-way n at (output j) false refl (λ k l. and-false (bytes_eq (output j) (output k)))

direction-none : (n : ℕ) (at : Places) → direction (declarations_of n at) ≡ []
direction-none n at =
    ap (λ l. l ++ []) (items-none n at _ (λ j l. refl) (λ j l h u.
    let tx = source-way n at j in
    let ty = sink-way n at j in
    let tz = output-way n at j in
    λ i. where_true (tx i) (faults.Direction l.0 (source_of j)) ++ (where_true (ty i) (faults.Direction l.0 (sink_of n j)) ++ (where_true (tz i) (faults.Direction l.0 (output j)) ++ []))))

-- The ends that items put at names.
abbrev ends_by : Places → Item → List Touch
ends_by at i = touches_in (stage_of at ∷ []) i.form

abbrev all_ends : ℕ → Places → List Touch
all_ends n at = flat_map (ends_by at) (links_in n at ++ stages_in n at)

any-flat : {X Y : Type 0} (p : Y → Bool) (f : X → List Y) (xs : List X) → list_any p (flat_map f xs) ≡ list_any (λ x. list_any p (f x)) xs
any-flat p f [] = refl
any-flat p f (x ∷ xs) = list_any-append p (f x) (flat_map f xs) ∙ ap (λ b. list_any p (f x) || b) (any-flat p f xs)

is-end : (n : ℕ) (at : Places) (name : List ℕ) (w : Bool) (j : ℕ) → 1 ≤ j → j < 1 + n → ((l : Lines) → is_touched (ends_by at (stage_by n j l)) name w ≡ true) → is_touched (all_ends n at) name w ≡ true
is-end n at name w j h u e =
    let p : Touch → Bool = λ t. bytes_eq name t.name && bool_eq t.is_source w in
    let q : Item → Bool = λ i. list_any p (ends_by at i) in
    any-flat p (ends_by at) (links_in n at ++ stages_in n at) ∙ list_any-append q (links_in n at) (stages_in n at)
    ∙ or-right (list_any q (links_in n at)) (list_any q (stages_in n at)) (some-any q (stage_by n) 1 n j at.main_stages h u e)

same-and : (a b : List ℕ) (x : Bool) → a ≡ b → x ≡ true → (bytes_eq a b && x) ≡ true
same-and a b x e h = (λ i. (bytes_eq-Decides a b).1 e i && h i)

-- The three ends of a stage.
source-end : (n : ℕ) (at : Places) (name : List ℕ) (j : ℕ) → 1 ≤ j → j < 1 + n → name ≡ source_of j → is_touched (all_ends n at) name true ≡ true
source-end n at name j h u e = is-end n at name true j h u (λ l. or-left _ _ (same-and name (source_of j) true e refl))

sink-end : (n : ℕ) (at : Places) (name : List ℕ) (j : ℕ) → 1 ≤ j → j < 1 + n → name ≡ sink_of n j → is_touched (all_ends n at) name false ≡ true
sink-end n at name j h u e =
    is-end n at name false j h u (λ l. or-right (bytes_eq name (source_of j) && false) _ (or-left (bytes_eq name (sink_of n j) && true) _ (same-and name (sink_of n j) true e refl)))

output-end : (n : ℕ) (at : Places) (j : ℕ) → 1 ≤ j → j < 1 + n → is_touched (all_ends n at) (output j) false ≡ true
output-end n at j h u =
    is-end n at (output j) false j h u
    (λ l. or-right (bytes_eq (output j) (source_of j) && false) _ (or-right (bytes_eq (output j) (sink_of n j) && true) _ (or-left (bytes_eq (output j) (output j) && true) false (same-and (output j) (output j) true refl refl))))

if-true : (b : Bool) (x y : List ℕ) → b ≡ true → x ≡ (if b then x else y)
if-true true x y h = refl
if-true false x y h = absurd (cc)

if-false : (b : Bool) (x y : List ℕ) → b ≡ false → y ≡ (if b then x else y)
if-false true x y h = absurd (cc)
if-false false x y h = refl

other-number : (j k : ℕ) → (j ≡ k → ⊥) → (j == k) ≡ false
other-number j k h = never (j == k) (λ e. h ((Decides-eqb j k).0 e))

pub last-sink : (n : ℕ) → output 0 ≡ sink_of n n
last-sink n = if-true (n == n) (output 0) (link n) ((Decides-eqb n n).1 refl)

pub link-sink : (n j : ℕ) → (j ≡ n → ⊥) → link j ≡ sink_of n j
link-sink n j h = if-false (j == n) (output 0) (link j) (other-number j n h)

pub link-source : (j : ℕ) → (j ≡ 1 → ⊥) → link (j - 1) ≡ source_of j
link-source j h = if-false (j == 1) (codes "i") (link (j - 1)) (other-number j 1 h)

output-there : (n : ℕ) (at : Places) (j : ℕ) → 1 ≤ n → j < n + 1 → is_touched (all_ends n at) (output j) false ≡ true
output-there n at zero some u = sink-end n at (output 0) n some (omega arith) (last-sink n)
output-there n at (suc j) some u = output-end n at (suc j) (omega arith) (omega arith)

link-there : (n : ℕ) (at : Places) (j : ℕ) → 1 ≤ j → j < n → (is_touched (all_ends n at) (link j) true ≡ true) × (is_touched (all_ends n at) (link j) false ≡ true)
link-there n at j h u = (
  source-end n at (link j) (j + 1) (omega arith) (omega arith) (ap link (omega arith) ∙ link-source (j + 1) (λ e. omega arith)),
  sink-end n at (link j) j h (omega arith) (link-sink n j (λ e. omega arith)),
)

dangling-none : (n : ℕ) (at : Places) → 1 ≤ n → dangling (declarations_of n at) ≡ []
dangling-none n at some =
    let f : Parameter → List FlatFault = dangling_parameter (all_ends n at) in
    let g : Item → List FlatFault = λ i. dangling_in_item (all_ends n at) i.line i.form in
    ap (λ l. l ++ [])
    (both-none _ _
    (parameters-none n at f (λ l i. where_true (not (source-end n at (codes "i") 1 (omega arith) (omega arith) refl i)) (faults.Dangling l.0 (codes "i")))
    (λ j l u i. where_true (not (output-there n at j some u i)) (faults.Dangling l.0 (output j))))
    (flat_map-append g (links_in n at) (stages_in n at)
    ∙ both-none _ _
    (pass-none g link_by 1 (n - 1) at.main_links (λ j l h u i. where_true (not ((link-there n at j h (omega arith)).0 i && (link-there n at j h (omega arith)).1 i)) (faults.Dangling l.0 (link j))))
    (pass-none g (stage_by n) 1 n at.main_stages (λ j l h u. refl))))

-- So no rule on the text is broken.
pub rules-hold : (n : ℕ) (at : Places) → 1 ≤ n → n ≤ 256 → rule_breaks (declarations_of n at) ≡ []
rules-hold n at some few =
    both-none _ _ (twice-none n at some few) (both-none _ _ (unknown-none n at) (both-none _ _ (mistyped-none n at) (both-none _ _ (range-none n at) (both-none _ _ (arity-none n at) (both-none _ _ (direction-none n at) (dangling-none n at some))))))
