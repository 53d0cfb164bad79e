-- The flat names that a connector's items declare.
use Rattle.std.proofs.Common.{arith, suc, lit≤, zero-add, ◌≡◌, ◌∙◌, ℕ, ◌+◌, ◌<◌, ◌≤◌, ◌^◌, List, [], ◌∷◌, ◌++◌, length, map, Bool, true, false, cond, ◌⊎◌, inl, inr, find, Some, refl, sym, ap, subst, decimal, bytes_eq, count_by}
use Rattle.std.specs.Prelude.{unwrap_or}
use Rattle.std.specs.Option.{option_map_or}
use Rattle.std.specs.List.{AllByRecursion}
use Rattle.std.proofs.lemmas.List.{append_assoc, map-append}
use Rattle.std.proofs.lemmas.List.Sums.{sum_by-append}
use Rattle.reo_trees.specs.declared.items.Item.{Item}
use Rattle.reo_trees.specs.declared.items.ItemForm.{ItemForm}
use Rattle.reo_trees.specs.declared.items.ItemForm.TheVariants as forms
use Rattle.reo_trees.specs.declared.programs.Parameter.{Parameter}
use Rattle.reo_trees.specs.declared.programs.Connector.{Connector}
use Rattle.reo_rules.specs.Lists.{each_after}
use Rattle.reo_rules.specs.Scopes.{parameter_names, node_names, node_names_in, connector_named, parameters_named}
use Rattle.reo_flat.specs.Unfolding.{Meaning, no_meaning, meaning_named, use_path, is_use, nodes_in}
use Rattle.reo_flat.specs.flatten_laws.Plain.{IsPlainName, HasPlainName}
use Rattle.reo_flat.proofs.flatten_laws.Within.{In, in_right, in_either}
use Rattle.reo_flat.proofs.flatten_laws.Cuts.{Free, cut_once, uncut, number_once, behind, mapped_twice}
use Rattle.reo_flat.proofs.flatten_laws.Once.{Once, once_append, in_mapped, once_mapped}
use Rattle.reo_flat.proofs.flatten_laws.Each.{by_recursion}

-- A connector's nodes under a path are those without it, each behind the path, and none stands twice among them and its parameters.
abbrev pub Shifted : Meaning → Type 0
Shifted m = (path : List ℕ) → m.nodes path ≡ map (λ n. path ++ n) (m.nodes [])

abbrev pub IsApart : Meaning → List Parameter → Type 0
IsApart m ps = Shifted m × Once (parameter_names ps ++ m.nodes [])

abbrev pub AreApart : List Connector → List Meaning → Type 0
AreApart [] [] = Unit {0}
AreApart (c ∷ cs) (m ∷ ms) = (m.name ≡ c.name) × IsApart m c.parameters × AreApart cs ms
AreApart _ _ = ⊥

pub apart_named : (cs : List Connector) (ms : List Meaning) → AreApart cs ms → (name : List ℕ) → IsApart (meaning_named ms name) (parameters_named cs name)
apart_named [] [] apart name = ((λ path. refl), tt)
apart_named [] (m ∷ ms) apart name = absurd apart
apart_named (c ∷ cs) [] apart name = absurd apart
apart_named (c ∷ cs) (m ∷ ms) apart name =
    subst (λ q. IsApart (unwrap_or (cond (bytes_eq name q) (Some m) (find (λ (y : Meaning). bytes_eq name y.name) ms)) no_meaning) (parameters_named (c ∷ cs) name)) (sym apart.0)
    (step (bytes_eq name c.name) (apart_named cs ms apart.2 name)) where
      step : (b : Bool) → IsApart (meaning_named ms name) (parameters_named cs name) → IsApart (unwrap_or (cond b (Some m) (find (λ (y : Meaning). bytes_eq name y.name) ms)) no_meaning) (option_map_or (λ (q : Connector). q.parameters) (cond b (Some c) (connector_named cs name)) [])
      step true rest = apart.1
      step false rest = rest

pub once_right : (xs ys : List (List ℕ)) → Once (xs ++ ys) → Once ys
once_right [] ys once = once
once_right (x ∷ xs) ys once = once_right xs ys once.1

pub once_left : (xs ys : List (List ℕ)) → Once (xs ++ ys) → (n : List ℕ) → In xs n → In ys n → ⊥
once_left (x ∷ xs) ys once n (inl is) there = once.0 (in_right xs ys x (subst (In ys) is there))
once_left (x ∷ xs) ys once n (inr rest) there = once_left xs ys once.1 n rest there
once_left [] ys once n none there = absurd none

-- How many of these items are uses.
abbrev pub uses_among : List Item → ℕ
uses_among items = count_by (λ (i : Item). is_use i.form) items

-- The name comes from the use of this number.
abbrev pub FromUse : ℕ → List ℕ → Type 0
FromUse k n = (a : List ℕ) × (x : List ℕ) × Free 64 a × (n ≡ a ++ 64 ∷ (decimal k ++ 46 ∷ x))

not_plain : (k : ℕ) (n : List ℕ) → Free 64 n → FromUse k n → ⊥
not_plain k n free from = uncut 64 n from.0 _ free from.3

one_use : (j k : ℕ) (n : List ℕ) → j < 2 ^ 64 → k < 2 ^ 64 → FromUse j n → FromUse k n → j ≡ k
one_use j k n hj hk a b = number_once j k a.1 b.1 hj hk (cut_once 64 a.0 b.0 _ _ a.2 b.2 (sym a.3 ∙ b.3)).1

cut_path : (before : List Item) (name z : List ℕ) → use_path [] before name ++ z ≡ name ++ 64 ∷ (decimal (uses_among before + 1) ++ 46 ∷ z)
cut_path before name z =
    let number = decimal (uses_among before + 1) in
    append_assoc ((name ++ 64 ∷ []) ++ number) (46 ∷ []) z ∙ append_assoc (name ++ 64 ∷ []) number (46 ∷ z) ∙ append_assoc name (64 ∷ []) (number ++ 46 ∷ z)

long_path : (path : List ℕ) (before : List Item) (name : List ℕ) → use_path path before name ≡ path ++ use_path [] before name
long_path path before name =
    let number = decimal (uses_among before + 1) in
    ap (λ p. (p ++ number) ++ 46 ∷ []) (append_assoc path name (64 ∷ []))
    ∙ ap (λ p. p ++ 46 ∷ []) (append_assoc path (name ++ 64 ∷ []) number) ∙ append_assoc path ((name ++ 64 ∷ []) ++ number) (46 ∷ [])

module _ (cs : List Connector) (ms : List Meaning) (apart : AreApart cs ms) where
  abbrev pub nodes_at : List ℕ → List Item → Item → List (List ℕ)
  nodes_at path before i = nodes_in ms path before i.form

  one_shift : (path : List ℕ) (before : List Item) (f : ItemForm) → nodes_in ms path before f ≡ map (λ n. path ++ n) (nodes_in ms [] before f)
  one_shift path before (forms.Node name term) = refl
  one_shift path before (forms.Joined channel first second) = refl
  one_shift path before (forms.Used name names) =
      let shifted = (apart_named cs ms apart name).0 in
      let ns = (meaning_named ms name).nodes [] in
      shifted (use_path path before name) ∙ ap (λ p. map (λ n. p ++ n) ns) (long_path path before name) ∙ sym (mapped_twice path (use_path [] before name) ns)
      ∙ ap (map (λ n. path ++ n)) (sym (shifted (use_path [] before name)))

  pub shift : (path : List ℕ) (before items : List Item) → each_after (nodes_at path) before items ≡ map (λ n. path ++ n) (each_after (nodes_at []) before items)
  shift path before [] = refl
  shift path before (i ∷ is) =
      (λ k. one_shift path before i.form k ++ shift path (before ++ i ∷ []) is k) ∙ sym (map-append (λ n. path ++ n) (nodes_at [] before i) (each_after (nodes_at []) (before ++ i ∷ []) is))

  of_use : (before : List Item) (name : List ℕ) → IsPlainName name → (n : List ℕ) → In ((meaning_named ms name).nodes (use_path [] before name)) n → FromUse (uses_among before + 1) n
  of_use before name plain n there =
      let at = in_mapped (λ z. use_path [] before name ++ z) ((meaning_named ms name).nodes []) n (subst (λ ns. In ns n) ((apart_named cs ms apart name).0 (use_path [] before name)) there) in
      (name, at.0, by_recursion (λ b. b ≡ 64 → ⊥) name plain, at.2 ∙ cut_path before name at.0)

  -- A flat name is one that an item declares, or comes from a use behind these items.
  abbrev pub Origin : List Item → List (List ℕ) → ℕ → List ℕ → Type 0
  Origin before names uses n = (Free 64 n × In names n) ⊎ ((k : ℕ) × (uses_among before < k) × (k ≤ uses_among before + uses) × FromUse k n)

  one_origin : (before : List Item) (f : ItemForm) (later : List (List ℕ)) (uses : ℕ) → HasPlainName f → (n : List ℕ) → In (nodes_in ms [] before f) n → Origin before (node_names_in f ++ later) (1 + uses) n
  one_origin before (forms.Node name term) later uses plain n (inl is) = inl (subst (Free 64) (sym is) (by_recursion (λ b. b ≡ 64 → ⊥) name plain), inl is)
  one_origin before (forms.Node name term) later uses plain n (inr none) = absurd none
  one_origin before (forms.Joined channel first second) later uses plain n there = absurd there
  one_origin before (forms.Used name names) later uses plain n there = inr (uses_among before + 1, omega arith, omega arith, of_use before name plain n there)

  one_more_use : (before : List Item) (i : Item) → uses_among (before ++ i ∷ []) ≡ uses_among before + uses_among (i ∷ [])
  one_more_use before i = sum_by-append (λ (j : Item). cond (is_use j.form) 1 0) before (i ∷ [])

  at_most_one : (i : Item) → uses_among (i ∷ []) ≤ 1
  at_most_one i = step (is_use i.form) where
    step : (b : Bool) → 0 + cond b 1 0 ≤ 1
    step true = lit≤ tt
    step false = lit≤ tt

  pub origin : (before items : List Item) → AllByRecursion (λ (i : Item). HasPlainName i.form) items → (n : List ℕ) → In (each_after (nodes_at []) before items) n → Origin before (node_names items) (length items) n
  origin before [] plain n there = absurd there
  origin before (i ∷ is) plain n there = step (in_either (nodes_at [] before i) (each_after (nodes_at []) (before ++ i ∷ []) is) n there) (origin (before ++ i ∷ []) is plain.1 n) where
    onward : Origin (before ++ i ∷ []) (node_names is) (length is) n → Origin before (node_names (i ∷ is)) (length (i ∷ is)) n
    onward (inl named) = inl (named.0, in_right (node_names_in i.form) (node_names is) n named.1)
    onward (inr used) =
        let more = one_more_use before i in
        let most = at_most_one i in
        let above = used.1 in
        let upto = used.2 in
        inr (used.0, omega arith, omega arith, used.3)

    step : In (nodes_at [] before i) n ⊎ In (each_after (nodes_at []) (before ++ i ∷ []) is) n → (In (each_after (nodes_at []) (before ++ i ∷ []) is) n → Origin (before ++ i ∷ []) (node_names is) (length is) n) → Origin before (node_names (i ∷ is)) (length (i ∷ is)) n
    step (inl here) rest =
        let count : 1 + length is ≡ suc (length is) = omega arith in
        subst (λ u. Origin before (node_names (i ∷ is)) u n) count (one_origin before i.form (node_names is) (length is) plain.0 n here)
    step (inr later) rest = onward (rest later)

  one_once : (before : List Item) (f : ItemForm) → Once (nodes_in ms [] before f)
  one_once before (forms.Node name term) = ((λ none. none), tt)
  one_once before (forms.Joined channel first second) = tt
  one_once before (forms.Used name names) =
      let used = apart_named cs ms apart name in
      let ns = (meaning_named ms name).nodes [] in
      subst Once (sym (used.0 (use_path [] before name)))
      (once_mapped (λ z. use_path [] before name ++ z) (λ a b e. behind (use_path [] before name) a b e) ns (once_right (parameter_names (parameters_named cs name)) ns used.1))

  -- What an item declares comes from no later item.
  here_there : (before : List Item) (f : ItemForm) (names : List (List ℕ)) (count : ℕ) → count ≡ uses_among before + cond (is_use f) 1 0 → HasPlainName f → Once (node_names_in f ++ names) → (n : List ℕ) → In (nodes_in ms [] before f) n
      → (Free 64 n × In names n) ⊎ ((k : ℕ) × (count < k) × (k < 2 ^ 64) × FromUse k n) → ⊥
  here_there before (forms.Node name term) names count is plain once n (inl same) (inl later) = once.0 (subst (In names) same later.1)
  here_there before (forms.Node name term) names count is plain once n (inl same) (inr later) = not_plain later.0 n (subst (Free 64) (sym same) (by_recursion (λ b. b ≡ 64 → ⊥) name plain)) later.3
  here_there before (forms.Node name term) names count is plain once n (inr none) later = absurd none
  here_there before (forms.Joined channel first second) names count is plain once n there later = absurd there
  here_there before (forms.Used name given) names count is plain once n there (inl later) = not_plain (uses_among before + 1) n later.0 (of_use before name plain n there)
  here_there before (forms.Used name given) names count is plain once n there (inr later) =
      let above = later.1 in
      let below = later.2 in
      let same = one_use (uses_among before + 1) later.0 n (omega arith) below (of_use before name plain n there) later.3 in
      omega arith

  pub items_once : (before items : List Item) → AllByRecursion (λ (i : Item). HasPlainName i.form) items → uses_among before + length items < 2 ^ 64 → Once (node_names items) → Once (each_after (nodes_at []) before items)
  items_once before [] plain few once = tt
  items_once before (i ∷ is) plain few once =
      let more = one_more_use before i in
      let most = at_most_one i in
      let none : 0 + cond (is_use i.form) 1 0 ≡ cond (is_use i.form) 1 0 = zero-add (cond (is_use i.form) 1 0) in
      let few' : uses_among (before ++ i ∷ []) + length is < 2 ^ 64 = omega arith in
      once_append (nodes_at [] before i) (each_after (nodes_at []) (before ++ i ∷ []) is) (one_once before i.form)
      (items_once (before ++ i ∷ []) is plain.1 few' (once_right (node_names_in i.form) (node_names is) once))
      (λ n here later. here_there before i.form (node_names is) (uses_among (before ++ i ∷ [])) (more ∙ ap (λ u. uses_among before + u) none) plain.0 once n here
      (bounded (before ++ i ∷ []) (node_names is) (length is) n few' (origin (before ++ i ∷ []) is plain.1 n later))) where
        bounded : (b : List Item) (names : List (List ℕ)) (u : ℕ) (n : List ℕ) → uses_among b + u < 2 ^ 64 → Origin b names u n → (Free 64 n × In names n) ⊎ ((k : ℕ) × (uses_among b < k) × (k < 2 ^ 64) × FromUse k n)
        bounded b names u n few (inl named) = inl named
        bounded b names u n few (inr used) = let upto = used.2 in inr (used.0, used.1, omega arith, used.3)
