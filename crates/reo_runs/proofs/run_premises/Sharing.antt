-- No name of a port is in two components.
use Rattle.std.proofs.Common.{◌≡◌, ◌∙◌, ℕ, zero, suc, Bool, true, false, ◌||◌, List, [], ◌∷◌, ◌++◌, map, bytes_eq, refl, sym, ap}
use Rattle.std.specs.Prelude.{slice_index_or}
use Rattle.std.specs.List.{flat_map}
use Rattle.std.proofs.lemmas.List.{append-nil, map-append}
use Rattle.std.proofs.lemmas.List.Folds.{list_any-append}
use Rattle.std.proofs.lemmas.Slice.Eq.{bytes_eq-Decides}
use Rattle.reo_rules.specs.Lists.{each_after, has_name}
use Rattle.reo_rules.proofs.AfterLemmas.{right_none, flat_map-append, where_false}
use Rattle.reo_script.specs.declared.scripts.fault.ScriptFault.TheVariants as faults
use Rattle.reo_script.specs.declared.scripts.forms.ComponentForm.{ComponentForm}
use Rattle.reo_script.specs.scripts.ScriptRules.{Naming, namings_in, shared_in, ports_in}
use Rattle.std.proofs.lemmas.Bool.{or_left as in_first}
pub use Rattle.std.proofs.lemmas.Bool.{or_right as in_second}
use Rattle.reo_values.proofs.Sequences.{left_none}

-- The names of ports in one component, and in that of a number.
abbrev pub named_by : ComponentForm → List (List ℕ)
named_by c = map (λ (n : Naming). n.port) (namings_in c)

abbrev pub names_at : List ComponentForm → ℕ → List (List ℕ)
names_at cs i = slice_index_or (map named_by cs) i []

-- No component names a port that is named before it.
abbrev AreApart : List ComponentForm → List ComponentForm → Type 0
AreApart before cs = each_after (λ b c. flat_map (shared_in (ports_in b)) (namings_in c)) before cs ≡ []

rest_apart : (before : List ComponentForm) (c : ComponentForm) (cs : List ComponentForm) → AreApart before (c ∷ cs) → AreApart (before ++ c ∷ []) cs
rest_apart before c cs apart = right_none (flat_map (shared_in (ports_in before)) (namings_in c)) _ apart

-- The names with one more component.
with_more : (before : List ComponentForm) (c : ComponentForm) → ports_in (before ++ c ∷ []) ≡ ports_in before ++ named_by c
with_more before c =
    ap (map (λ (n : Naming). n.port)) (flat_map-append namings_in before (c ∷ []) ∙ ap (λ ns. flat_map namings_in before ++ ns) (append-nil (namings_in c)))
    ∙ map-append (λ (n : Naming). n.port) (flat_map namings_in before) (namings_in c)

-- What is named before one more component, and in it.
named_before : (before : List ComponentForm) (c : ComponentForm) (name : List ℕ) → has_name (ports_in before) name ≡ true → has_name (ports_in (before ++ c ∷ [])) name ≡ true
named_before before c name there =
    ap (λ ns. has_name ns name) (with_more before c) ∙ list_any-append (bytes_eq name) (ports_in before) (named_by c) ∙ in_first _ (has_name (named_by c) name) there

named_last : (before : List ComponentForm) (c : ComponentForm) (name : List ℕ) → has_name (named_by c) name ≡ true → has_name (ports_in (before ++ c ∷ [])) name ≡ true
named_last before c name there =
    ap (λ ns. has_name ns name) (with_more before c) ∙ list_any-append (bytes_eq name) (ports_in before) (named_by c) ∙ in_second (has_name (ports_in before) name) _ there

-- A component names no port that was seen before.
not_again : (seen : List (List ℕ)) (ns : List Naming) → flat_map (shared_in seen) ns ≡ [] → (name : List ℕ) → has_name seen name ≡ true → has_name (map (λ (n : Naming). n.port) ns) name ≡ true → ⊥
not_again seen [] none name there here = absurd (cc)
not_again seen (n ∷ ns) none name there here = step (bytes_eq name n.port) refl here (not_again seen ns (right_none (shared_in seen n) _ none) name there) where
  step : (b : Bool) → bytes_eq name n.port ≡ b → (b || has_name (map (λ (m : Naming). m.port) ns) name) ≡ true → (has_name (map (λ (m : Naming). m.port) ns) name ≡ true → ⊥) → ⊥
  step true is in' later =
      let free = where_false (has_name seen n.port) (faults.Shared n.line n.port) (left_none (shared_in seen n) _ none) in
      let taken = ap (has_name seen) (sym ((bytes_eq-Decides name n.port).0 is)) ∙ there in
      absurd (cc)
  step false is in' later = later in'

-- Nor does one behind others name a port of theirs.
not_behind : (before cs : List ComponentForm) → AreApart before cs → (name : List ℕ) → has_name (ports_in before) name ≡ true → (j : ℕ) → has_name (names_at cs j) name ≡ true → ⊥
not_behind before [] apart name there j here = absurd (cc)
not_behind before (c ∷ cs) apart name there zero here = not_again (ports_in before) (namings_in c) (left_none _ _ apart) name there here
not_behind before (c ∷ cs) apart name there (suc j) here =
    not_behind (before ++ c ∷ []) cs (rest_apart before c cs apart) name (named_before before c name there) j here

-- Components that name one port are one.
pub one_component : (before cs : List ComponentForm) → AreApart before cs → (name : List ℕ) (i j : ℕ) → has_name (names_at cs i) name ≡ true → has_name (names_at cs j) name ≡ true → i ≡ j
one_component before [] apart name i j here there = absurd (cc)
one_component before (c ∷ cs) apart name zero zero here there = refl
one_component before (c ∷ cs) apart name zero (suc j) here there =
    absurd (not_behind (before ++ c ∷ []) cs (rest_apart before c cs apart) name (named_last before c name here) j there)
one_component before (c ∷ cs) apart name (suc i) zero here there =
    absurd (not_behind (before ++ c ∷ []) cs (rest_apart before c cs apart) name (named_last before c name there) i here)
one_component before (c ∷ cs) apart name (suc i) (suc j) here there =
    ap suc (one_component (before ++ c ∷ []) cs (rest_apart before c cs apart) name i j here there)
