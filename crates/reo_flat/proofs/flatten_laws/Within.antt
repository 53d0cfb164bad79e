-- The nodes of what is placed are among the nodes.
use Rattle.std.proofs.Common.{arith, ◌≡◌, ℕ, List, [], ◌∷◌, ◌++◌, length, map, Bool, true, false, cond, ◌||◌, ◌⊎◌, inl, inr, Some, find, refl, sym, ap, subst, bytes_eq}
use Rattle.std.specs.Prelude.{unwrap_or}
use Rattle.std.specs.Option.{option_map_or}
use Rattle.std.specs.List.{All}
use Rattle.std.proofs.lemmas.Slice.Eq.{bytes_eq-Decides}
use Rattle.reo_trees.specs.declared.programs.Parameter.{Parameter}
use Rattle.reo_trees.specs.declared.programs.Connector.{Connector}
use Rattle.reo_rules.specs.declared.fault.FlatFault.TheVariants as faults
use Rattle.reo_rules.specs.Lists.{has_name}
use Rattle.reo_rules.specs.Scopes.{parameter_names, connector_named, parameters_named}
use Rattle.reo_flat.specs.Unfolding.{Placed, Meaning, no_meaning, meaning_named, flat_name}
use Rattle.reo_rules.specs.Unknown.{missing}
use Rattle.reo_flat.proofs.flatten_laws.Breaks.{holds}
pub use Rattle.reo_syntax_laws.proofs.trees_laws.Lists.{all-none as none_inside, all-cons as all_cons}

-- A name is one of these.
abbrev pub In : List (List ℕ) → List ℕ → Type 0
In [] n = ⊥
In (x ∷ xs) n = (n ≡ x) ⊎ In xs n

pub in_left : (xs ys : List (List ℕ)) (n : List ℕ) → In xs n → In (xs ++ ys) n
in_left (x ∷ xs) ys n (inl is) = inl is
in_left (x ∷ xs) ys n (inr rest) = inr (in_left xs ys n rest)
in_left [] ys n none = absurd none

pub in_right : (xs ys : List (List ℕ)) (n : List ℕ) → In ys n → In (xs ++ ys) n
in_right [] ys n there = there
in_right (x ∷ xs) ys n there = inr (in_right xs ys n there)

pub in_either : (xs ys : List (List ℕ)) (n : List ℕ) → In (xs ++ ys) n → In xs n ⊎ In ys n
in_either [] ys n there = inr there
in_either (x ∷ xs) ys n (inl is) = inl (inl is)
in_either (x ∷ xs) ys n (inr rest) = elim (in_either xs ys n rest) [ inl l ↦ inl (inr l) | inr r ↦ inr r ]

pub has-in : (xs : List (List ℕ)) (n : List ℕ) → has_name xs n ≡ true → In xs n
has-in [] n has = absurd (cc)
has-in (x ∷ xs) n has = step (bytes_eq n x) refl (has-in xs n) has where
  step : (b : Bool) → bytes_eq n x ≡ b → (has_name xs n ≡ true → In xs n) → (b || has_name xs n) ≡ true → In (x ∷ xs) n
  step true is rest h = inl ((bytes_eq-Decides n x).0 is)
  step false is rest h = inr (rest h)

pub in-has : (xs : List (List ℕ)) (n : List ℕ) → In xs n → has_name xs n ≡ true
in-has [] n none = absurd none
in-has (x ∷ xs) n (inl is) = ap (λ b. b || has_name xs n) ((bytes_eq-Decides n x).1 is)
in-has (x ∷ xs) n (inr rest) = step (bytes_eq n x) (in-has xs n rest) where
  step : (b : Bool) → has_name xs n ≡ true → (b || has_name xs n) ≡ true
  step true there = refl
  step false there = there

-- What is placed is at these nodes alone.
abbrev pub Inside : List (List ℕ) → List Placed → Type 0
Inside nodes placed = All (λ (p : Placed). All (In nodes) p.nodes) placed

pub widen : (xs ys : List (List ℕ)) (placed : List Placed) → ((n : List ℕ) → In xs n → In ys n) → Inside xs placed → Inside ys placed
widen xs ys placed wider inside k d below i e within = wider _ (inside k d below i e within)

-- A connector's channels are at the nodes of its arguments and at its own.
abbrev pub Claim : Connector → Meaning → Type 0
Claim c m = (path : List ℕ) (arguments : List (List ℕ)) → length arguments ≡ length c.parameters → Inside (arguments ++ m.nodes path) (m.channels path arguments)

abbrev pub Matches : List Connector → List Meaning → Type 0
Matches [] [] = Unit {0}
Matches (c ∷ cs) (m ∷ ms) = (m.name ≡ c.name) × Claim c m × Matches cs ms
Matches _ _ = ⊥

abbrev pub IsClaimed : Meaning → List Parameter → Type 0
IsClaimed m ps = (path : List ℕ) (arguments : List (List ℕ)) → length arguments ≡ length ps → Inside (arguments ++ m.nodes path) (m.channels path arguments)

pub lookup : (cs : List Connector) (ms : List Meaning) → Matches cs ms → (name : List ℕ) → IsClaimed (meaning_named ms name) (parameters_named cs name)
lookup [] [] matches name = λ path arguments same. none_inside _
lookup [] (m ∷ ms) matches name = absurd matches
lookup (c ∷ cs) [] matches name = absurd matches
lookup (c ∷ cs) (m ∷ ms) matches name =
    subst (λ q. IsClaimed (unwrap_or (cond (bytes_eq name q) (Some m) (find (λ (y : Meaning). bytes_eq name y.name) ms)) no_meaning) (parameters_named (c ∷ cs) name)) (sym matches.0)
    (step (bytes_eq name c.name) (lookup cs ms matches.2 name)) where
      step : (b : Bool) → IsClaimed (meaning_named ms name) (parameters_named cs name) → IsClaimed (unwrap_or (cond b (Some m) (find (λ (y : Meaning). bytes_eq name y.name) ms)) no_meaning) (option_map_or (λ (q : Connector). q.parameters) (cond b (Some c) (connector_named cs name)) [])
      step true rest = matches.1
      step false rest = rest

-- No break means that the name is known.
pub known_name : (names : List (List ℕ)) (line : ℕ) (name : List ℕ) → missing names line name ≡ [] → In names name
known_name names line name none = has-in names name (holds (has_name names name) (faults.Unknown line name) none)

-- The flat name of a known name is that of an argument, or that of a node.
pub flat_known : (path : List ℕ) (ps : List Parameter) (arguments nodes : List (List ℕ)) (name : List ℕ) → length arguments ≡ length ps → In (parameter_names ps ++ nodes) name
    → In (arguments ++ map (λ n. path ++ n) nodes) (flat_name path ps arguments name)
flat_known path [] [] nodes name same there = mapped nodes there where
  mapped : (ns : List (List ℕ)) → In ns name → In (map (λ n. path ++ n) ns) (path ++ name)
  mapped [] none = absurd none
  mapped (n ∷ ns) (inl is) = inl (ap (λ x. path ++ x) is)
  mapped (n ∷ ns) (inr rest) = inr (mapped ns rest)
flat_known path [] (a ∷ arguments) nodes name same there = absurd (omega arith)
flat_known path (p ∷ ps) [] nodes name same there = absurd (omega arith)
flat_known path (p ∷ ps) (a ∷ arguments) nodes name same there = step (bytes_eq name p.name) refl (flat_known path ps arguments nodes name (omega arith)) where
  rest : bytes_eq name p.name ≡ false → In (parameter_names (p ∷ ps) ++ nodes) name → In (parameter_names ps ++ nodes) name
  rest other (inl is) = absurd (differ ((bytes_eq-Decides name p.name).1 is) other) where
    differ : {b : Bool} → b ≡ true → b ≡ false → ⊥
    differ yes' no' = cc
  rest other (inr more) = more

  step : (b : Bool) → bytes_eq name p.name ≡ b → (In (parameter_names ps ++ nodes) name → In (arguments ++ map (λ n. path ++ n) nodes) (flat_name path ps arguments name)) → In (a ∷ arguments ++ map (λ n. path ++ n) nodes) (cond b a (flat_name path ps arguments name))
  step true is onward = inl refl
  step false is onward = inr (onward (rest is there))
