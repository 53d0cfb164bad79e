-- What a made circuit unfolds to.
use Rattle.std.proofs.Common.{◌≡◌, ℕ, zero, suc, ◌+◌, ◌-◌, Bool, true, false, cond, List, [], ◌∷◌, ◌++◌, map, refl, sym, ◌∙◌, ap, append_assoc, append-nil, arith, codes}
use Rattle.std.specs.Prelude.{bytes_eq}
use Rattle.std.specs.List.{flat_map, range_with_len, count_by}
use Rattle.std.specs.Fmt.{decimal}
use Rattle.std.proofs.lemmas.List.Sums.{fold-append}
use Rattle.std.proofs.lemmas.Slice.Eq.{bytes_eq-Decides}
use Rattle.reo_buffers.specs.Stored.{stored}
use Rattle.reo_kinds.specs.declared.kind.Kind.{Kind}
use Rattle.reo_kinds.specs.declared.kind.Kind.TheVariants as primitives
use Rattle.reo_trees.specs.declared.items.Item.{Item}
use Rattle.reo_trees.specs.declared.programs.Parameter.{Parameter}
use Rattle.reo_rules.specs.Scopes.{parameter_names, scope_of}
use Rattle.reo_flat.specs.Unfolding.{Placed, Meaning, meaning_named, meanings_of, meaning_of, flat_name, is_use, nodes_in, channels_in}
use Rattle.reo_flat.specs.Flat.{nodes_of, placed_of, port_placed}
use Rattle.reo_gen.specs.Names.{link, output}
use Rattle.reo_gen.specs.Circuits.{source_of, sink_of}
use Rattle.reo_gen.proofs.laws.Written.{Lines, made_by}
use Rattle.reo_gen.proofs.laws.Trees.{Places, declarations_of, stage_of, main_of, link_by, stage_by}
use Rattle.reo_gen.proofs.laws.Passes.{after-append, after-made}
use Rattle.reo_gen.proofs.laws.Rules.{parameters_in, links_in, stages_in, outputs_to, links_to, names-of-parameters, known_types}
use Rattle.reo_gen.proofs.laws.ScriptChecks.{made_ports, ports-are}

-- The path of the use of a number.
abbrev pub path_of : ℕ → List ℕ
path_of j = (codes "stage@" ++ decimal j) ++ codes "."

abbrev pub between : Kind → List ℕ → List ℕ → Placed
between kind a b = record { kind = kind; nodes = a ∷ b ∷ [] }

abbrev pub empty_buffer : Kind
empty_buffer = primitives.Store (stored 1 [])

-- The channels of a stage, by its path and the nodes that are its arguments.
abbrev pub stage_placed : List ℕ → List ℕ → List ℕ → List ℕ → List Placed
stage_placed path a b c =
    between primitives.Lossy a (path ++ codes "x") ∷ between primitives.Lossy a (path ++ codes "y") ∷ between primitives.Sync (path ++ codes "x") (path ++ codes "p") ∷ between primitives.Sync (path ++ codes "x") (path ++ codes "k")
    ∷ between primitives.Sync (path ++ codes "y") (path ++ codes "q") ∷ between primitives.Sync (path ++ codes "y") (path ++ codes "k") ∷ between primitives.SyncDrain a (path ++ codes "k")
    ∷ between empty_buffer (path ++ codes "p") b ∷ between empty_buffer (path ++ codes "q") c ∷ []

abbrev pub stage_nodes : List ℕ → List (List ℕ)
stage_nodes path = (path ++ codes "x") ∷ (path ++ codes "y") ∷ (path ++ codes "k") ∷ (path ++ codes "p") ∷ (path ++ codes "q") ∷ []

abbrev pub stage_at : ℕ → ℕ → List Placed
stage_at n j = stage_placed (path_of j) (source_of j) (sink_of n j) (output j)

-- What stands in the place of a name of main is the name.
flat-own : (ps : List Parameter) (name : List ℕ) → flat_name [] ps (parameter_names ps) name ≡ name
flat-own [] name = refl
flat-own (p ∷ ps) name = step (bytes_eq name p.name) (bytes_eq-Decides name p.name).0 (flat-own ps name)
  where
    step : (b : Bool) → (b ≡ true → name ≡ p.name) → flat_name [] ps (parameter_names ps) name ≡ name → cond b p.name (flat_name [] ps (parameter_names ps) name) ≡ name
    step true e k = sym (e refl)
    step false e k = k

abbrev pub stage_meaning : Places → Meaning
stage_meaning at = meaning_of [] known_types (stage_of at)

stage-channels : (at : Places) (path a b c : List ℕ) → (stage_meaning at).channels path (a ∷ b ∷ c ∷ []) ≡ stage_placed path a b c
stage-channels at path a b c = refl

stage-nodes : (at : Places) (path : List ℕ) → (stage_meaning at).nodes path ≡ stage_nodes path
stage-nodes at path = refl

main-meaning : (n : ℕ) (at : Places) → meaning_named (meanings_of (declarations_of n at)) (codes "main") ≡ meaning_of (stage_meaning at ∷ []) known_types (main_of n at)
main-meaning n at = refl

abbrev UsesBefore : ℕ → List Item → Type 0
UsesBefore j b = count_by (λ (i : Item). is_use i.form) b + 1 ≡ j

count-more : (b : List Item) (x : Item) → count_by (λ (i : Item). is_use i.form) (b ++ x ∷ []) ≡ count_by (λ (i : Item). is_use i.form) b + cond (is_use x.form) 1 0
count-more b x = fold-append (λ (k : ℕ) (i : Item). k + cond (is_use i.form) 1 0) 0 b (x ∷ [])

no-uses : (a n : ℕ) (at : ℕ → Lines) (b : List Item) → count_by (λ (i : Item). is_use i.form) (b ++ made_by (map link_by (range_with_len a n)) at) ≡ count_by (λ (i : Item). is_use i.form) b
no-uses a zero at b = ap (count_by (λ (i : Item). is_use i.form)) (append-nil b)
no-uses a (suc n) at b =
    ap (count_by (λ (i : Item). is_use i.form)) (sym (append_assoc b (link_by a (at zero) ∷ []) (made_by (map link_by (range_with_len (a + 1) n)) (λ j. at (suc j)))))
    ∙ no-uses (a + 1) n (λ j. at (suc j)) (b ++ link_by a (at zero) ∷ []) ∙ count-more b (link_by a (at zero)) ∙ omega arith

first-use : (n : ℕ) (at : Places) → UsesBefore 1 (links_in n at)
first-use n at = ap (λ k. k + 1) (no-uses 1 (n - 1) at.main_links []) ∙ omega arith

next-use : (n j : ℕ) (b : List Item) (l : Lines) → UsesBefore j b → UsesBefore (j + 1) (b ++ stage_by n j l ∷ [])
next-use n j b l q = ap (λ k. k + 1) (count-more b (stage_by n j l) ∙ q)

flat-none : {Y : Type 0} (xs : List ℕ) → flat_map {A = Y} (λ j. []) xs ≡ []
flat-none [] = refl
flat-none (x ∷ xs) = flat-none xs

flat-names : (f : ℕ → List ℕ) (xs : List ℕ) → flat_map (λ j. f j ∷ []) xs ≡ map f xs
flat-names f [] = refl
flat-names f (x ∷ xs) = ap (λ l. f x ∷ l) (flat-names f xs)

main-channels : (n : ℕ) (at : Places) → (meaning_of (stage_meaning at ∷ []) known_types (main_of n at)).channels [] (parameter_names (parameters_in n at)) ≡ flat_map (stage_at n) (range_with_len 1 n)
main-channels n at =
    let f : List Item → Item → List Placed = λ before i. channels_in (stage_meaning at ∷ []) known_types (scope_of known_types (main_of n at)) [] (flat_name [] (parameters_in n at) (parameter_names (parameters_in n at))) before i.form in
    after-append f [] (links_in n at) (stages_in n at)
    ∙ (λ i. (after-made f link_by (λ j. []) (λ j b. Unit {0}) 1 (n - 1) at.main_links [] tt (λ j b l h u q. refl) (λ j b l h u q. tt) ∙ flat-none (range_with_len 1 (n - 1))) i
    ++ after-made f (stage_by n) (stage_at n) UsesBefore 1 n at.main_stages (links_in n at) (first-use n at)
    (λ j b l h u q k. stage_placed ((codes "stage@" ++ decimal (q k)) ++ codes ".") (flat-own (parameters_in n at) (source_of j) k) (flat-own (parameters_in n at) (sink_of n j) k) (flat-own (parameters_in n at) (output j) k))
    (λ j b l h u q. next-use n j b l q) i)

main-nodes : (n : ℕ) (at : Places) → (meaning_of (stage_meaning at ∷ []) known_types (main_of n at)).nodes [] ≡ links_to (n - 1) ++ flat_map (λ j. stage_nodes (path_of j)) (range_with_len 1 n)
main-nodes n at =
    let f : List Item → Item → List (List ℕ) = λ before i. nodes_in (stage_meaning at ∷ []) [] before i.form in
    after-append f [] (links_in n at) (stages_in n at)
    ∙ (λ i. (after-made f link_by (λ j. link j ∷ []) (λ j b. Unit {0}) 1 (n - 1) at.main_links [] tt (λ j b l h u q. refl) (λ j b l h u q. tt) ∙ flat-names link (range_with_len 1 (n - 1))) i
    ++ after-made f (stage_by n) (λ j. stage_nodes (path_of j)) UsesBefore 1 n at.main_stages (links_in n at) (first-use n at)
    (λ j b l h u q k. stage_nodes ((codes "stage@" ++ decimal (q k)) ++ codes "."))
    (λ j b l h u q. next-use n j b l q) i)

-- All that is placed, and all nodes.
abbrev pub made_placed : ℕ → List Placed
made_placed n = map port_placed (made_ports n) ++ flat_map (stage_at n) (range_with_len 1 n)

abbrev pub made_nodes : ℕ → List (List ℕ)
made_nodes n = (codes "i" ∷ outputs_to (n + 1)) ++ (links_to (n - 1) ++ flat_map (λ j. stage_nodes (path_of j)) (range_with_len 1 n))

pub placed-are : (n : ℕ) (at : Places) → placed_of (declarations_of n at) ≡ made_placed n
placed-are n at = λ i. map port_placed (ports-are n at i) ++ main-channels n at i

pub nodes-are : (n : ℕ) (at : Places) → nodes_of (declarations_of n at) ≡ made_nodes n
nodes-are n at = λ i. names-of-parameters n at i ++ main-nodes n at i
