-- Declaration by declaration.
use Rattle.std.proofs.Common.{arith, ◌≡◌, ℕ, ◌+◌, ◌<◌, ◌^◌, List, [], ◌∷◌, ◌++◌, length, inl, inr, refl, sym, subst, codes}
use Rattle.std.specs.List.{AllByRecursion}
use Rattle.std.proofs.lemmas.List.{append-nil, append_assoc}
use Rattle.reo_trees.specs.declared.items.Item.{Item}
use Rattle.reo_trees.specs.declared.programs.Parameter.{Parameter}
use Rattle.reo_trees.specs.declared.programs.Connector.{Connector}
use Rattle.reo_trees.specs.declared.programs.Declaration.{Declaration}
use Rattle.reo_trees.specs.declared.programs.Declaration.TheVariants as declarations
use Rattle.reo_rules.specs.Lists.{each_after}
use Rattle.reo_rules.specs.Types.{Typed}
use Rattle.reo_rules.specs.Scopes.{connectors_of, parameter_names, node_names}
use Rattle.reo_flat.specs.Unfolding.{Meaning, meaning_of, meanings_of, meanings_after}
use Rattle.reo_rules.specs.Twice.{twice_in, twice_in_connector}
use Rattle.reo_flat.specs.flatten_laws.Plain.{IsPlainName, HasPlainName, HasPlainNames}
use Rattle.reo_flat.proofs.flatten_laws.Breaks.{left_none, right_none}
use Rattle.reo_flat.proofs.flatten_laws.Within.{In, in_left}
use Rattle.reo_flat.proofs.flatten_laws.Cuts.{Free, uncut}
use Rattle.reo_flat.proofs.flatten_laws.Once.{Once, once_append, distinct}
use Rattle.reo_flat.proofs.flatten_laws.OnceTwice.{names_once}
use Rattle.reo_flat.proofs.flatten_laws.UseNames.{AreApart, IsApart, apart_named, nodes_at, shift, origin, Origin, items_once, once_left, once_right}
use Rattle.reo_flat.proofs.flatten_laws.nodes.nodes_are_distinct.Goals as goal
use Rattle.reo_flat.proofs.flatten_laws.Each.{by_recursion}

-- The meaning of a connector whose names stand once.
apart_of : (cs : List Connector) (known : List Meaning) (types : List Typed) (c : Connector) → AreApart cs known → HasPlainNames c → twice_in_connector c ≡ [] → IsApart (meaning_of known types c) c.parameters
apart_of cs known types c apart plain none =
    let once = names_once c none in
    let items = by_recursion (λ (i : Item). HasPlainName i.form) c.items plain.items in
    let few : 0 + length c.items < 2 ^ 64 = let few' = plain.few in omega arith in
    let own = items_once cs known apart [] c.items items few (once_right (parameter_names c.parameters) (node_names c.items) once) in (
      (λ path. shift cs known apart path [] c.items),
      once_append (parameter_names c.parameters) (each_after (nodes_at cs known apart []) [] c.items) (front (parameter_names c.parameters) (node_names c.items) once) own
          (λ n given there. differ n given (origin cs known apart [] c.items items n there) once),
    ) where
      front : (xs ys : List (List ℕ)) → Once (xs ++ ys) → Once xs
      front [] ys once = tt
      front (x ∷ xs) ys once = ((λ there. once.0 (in_left xs ys x there)), front xs ys once.1)

      free_of : (ps : List Parameter) → AllByRecursion (λ (p : Parameter). IsPlainName p.name) ps → (n : List ℕ) → In (parameter_names ps) n → Free 64 n
      free_of [] all n none' = absurd none'
      free_of (p ∷ ps) all n (inl is) = subst (Free 64) (sym is) (by_recursion (λ b. b ≡ 64 → ⊥) p.name all.0)
      free_of (p ∷ ps) all n (inr rest) = free_of ps all.1 n rest

      differ : (n : List ℕ) → In (parameter_names c.parameters) n → Origin cs known apart [] (node_names c.items) (length c.items) n → Once (parameter_names c.parameters ++ node_names c.items) → ⊥
      differ n given (inl named) once = once_left (parameter_names c.parameters) (node_names c.items) once n given named.1
      differ n given (inr used) once =
          uncut 64 n used.3.0 _ (free_of c.parameters (by_recursion (λ (p : Parameter). IsPlainName p.name) c.parameters plain.parameters) n given) used.3.3

grown : (cs : List Connector) (ms : List Meaning) (c : Connector) (m : Meaning) → AreApart cs ms → m.name ≡ c.name → IsApart m c.parameters → AreApart (cs ++ c ∷ []) (ms ++ m ∷ [])
grown [] [] c m apart name one = (name, one, tt)
grown [] (k ∷ ks) c m apart name one = absurd apart
grown (b ∷ bs) [] c m apart name one = absurd apart
grown (b ∷ bs) (k ∷ ks) c m apart name one = (apart.0, apart.1, grown bs ks c m apart.2 name one)

all_apart : (before ds : List Declaration) (cs : List Connector) (known : List Meaning) (types : List Typed) → AreApart cs known → AllByRecursion HasPlainNames (connectors_of ds) → each_after twice_in before ds ≡ []
    → AreApart (cs ++ connectors_of ds) (meanings_after known types ds)
all_apart before [] cs known types apart plain none = subst (λ b. AreApart b known) (sym (append-nil cs)) apart
all_apart before (declarations.Named line name term ∷ ds) cs known types apart plain none =
    all_apart (before ++ declarations.Named line name term ∷ []) ds cs known _ apart plain (right_none (twice_in before (declarations.Named line name term)) _ none)
all_apart before (declarations.Made c ∷ ds) cs known types apart plain none =
    let here = left_none (twice_in before (declarations.Made c)) _ none in
    let m = meaning_of known types c in
    let one = apart_of cs known types c apart plain.0 (right_none _ (twice_in_connector c) here) in
    subst (λ b. AreApart b (meanings_after (known ++ m ∷ []) types ds)) (append_assoc cs (c ∷ []) (connectors_of ds))
    (all_apart (before ++ declarations.Made c ∷ []) ds (cs ++ c ∷ []) (known ++ m ∷ []) types (grown cs known c m apart refl one) plain.1 (right_none (twice_in before (declarations.Made c)) _ none))

pub returns : goal.returns
returns c ds plain none =
    let apart = all_apart [] ds [] [] [] tt (by_recursion HasPlainNames (connectors_of ds) plain) none in
    distinct _ (apart_named (connectors_of ds) (meanings_of ds) apart (codes "main")).1
