-- Connector by connector: what is typed is what is declared.
use Rattle.std.proofs.Common.{◌≡◌, ◌∙◌, ℕ, List, [], ◌∷◌, ◌++◌, map, Bool, true, false, cond, Some, find, refl, sym, ap, subst, bytes_eq, codes}
use Rattle.std.specs.Prelude.{unwrap_or}
use Rattle.std.proofs.lemmas.List.{map-append}
use Rattle.reo_trees.specs.declared.items.Item.{Item}
use Rattle.reo_trees.specs.declared.items.ItemForm.{ItemForm}
use Rattle.reo_trees.specs.declared.items.ItemForm.TheVariants as forms
use Rattle.reo_trees.specs.declared.programs.Parameter.{Parameter}
use Rattle.reo_trees.specs.declared.programs.Declaration.{Declaration}
use Rattle.reo_trees.specs.declared.programs.Declaration.TheVariants as declarations
use Rattle.reo_rules.specs.Lists.{each_after}
use Rattle.reo_rules.specs.Types.{Typed, types_of, names_of}
use Rattle.reo_rules.specs.Scopes.{parameter_names, parameter_type}
use Rattle.reo_flat.specs.Unfolding.{Meaning, no_meaning, meaning_named, meaning_of, meanings_after, meanings_of, nodes_in, use_path}
use Rattle.reo_flat.specs.Flat.{main_parameters}
use Rattle.reo_flat.specs.flatten_laws.NodeTypes.{Typing, no_typing, typing_named, typed_in, typing_of, typings_after, typings_of}
use Rattle.reo_flat.proofs.flatten_laws.channels.nodes_have_types.Goals as goal

-- A connector's typed nodes are its nodes.
abbrev AreNamed : Meaning → Typing → Type 0
AreNamed m t = (path : List ℕ) → names_of (t.nodes path) ≡ m.nodes path

abbrev AllNamed : List Meaning → List Typing → Type 0
AllNamed [] [] = Unit {0}
AllNamed (m ∷ ms) (t ∷ ts) = (m.name ≡ t.name) × AreNamed m t × AllNamed ms ts
AllNamed _ _ = ⊥

named : (ms : List Meaning) (ts : List Typing) → AllNamed ms ts → (name : List ℕ) → AreNamed (meaning_named ms name) (typing_named ts name)
named [] [] all name = λ path. refl
named [] (t ∷ ts) all name = absurd all
named (m ∷ ms) [] all name = absurd all
named (m ∷ ms) (t ∷ ts) all name =
    subst (λ q. AreNamed (unwrap_or (cond (bytes_eq name q) (Some m) (find (λ (y : Meaning). bytes_eq name y.name) ms)) no_meaning) (typing_named (t ∷ ts) name)) (sym all.0)
    (step (bytes_eq name t.name) (named ms ts all.2 name)) where
      step : (b : Bool) → AreNamed (meaning_named ms name) (typing_named ts name)
          → AreNamed (unwrap_or (cond b (Some m) (find (λ (y : Meaning). bytes_eq name y.name) ms)) no_meaning) (unwrap_or (cond b (Some t) (find (λ (y : Typing). bytes_eq name y.name) ts)) no_typing)
      step true rest = all.1
      step false rest = rest

one : (ms : List Meaning) (ts : List Typing) → AllNamed ms ts → (types : List Typed) (path : List ℕ) (before : List Item) (f : ItemForm) → names_of (typed_in ts types path before f) ≡ nodes_in ms path before f
one ms ts all types path before (forms.Node name term) = refl
one ms ts all types path before (forms.Joined channel first second) = refl
one ms ts all types path before (forms.Used name arguments) = named ms ts all name (use_path path before name)

items : (ms : List Meaning) (ts : List Typing) → AllNamed ms ts → (types : List Typed) (path : List ℕ) (before is : List Item)
    → names_of (each_after (λ b (i : Item). typed_in ts types path b i.form) before is) ≡ each_after (λ b (i : Item). nodes_in ms path b i.form) before is
items ms ts all types path before [] = refl
items ms ts all types path before (i ∷ is) =
    map-append (λ (e : Typed). e.name) (typed_in ts types path before i.form) _ ∙ (λ k. one ms ts all types path before i.form k ++ items ms ts all types path (before ++ i ∷ []) is k)

grown : (ms : List Meaning) (ts : List Typing) (m : Meaning) (t : Typing) → AllNamed ms ts → m.name ≡ t.name → AreNamed m t → AllNamed (ms ++ m ∷ []) (ts ++ t ∷ [])
grown [] [] m t all name here = (name, here, tt)
grown [] (u ∷ us) m t all name here = absurd all
grown (n ∷ ns) [] m t all name here = absurd all
grown (n ∷ ns) (u ∷ us) m t all name here = (all.0, all.1, grown ns us m t all.2 name here)

whole : (ms : List Meaning) (ts : List Typing) (types : List Typed) (ds : List Declaration) → AllNamed ms ts → AllNamed (meanings_after ms types ds) (typings_after ts types ds)
whole ms ts types [] all = all
whole ms ts types (declarations.Named line name term ∷ ds) all = whole ms ts _ ds all
whole ms ts types (declarations.Made c ∷ ds) all =
    whole (ms ++ meaning_of ms types c ∷ []) (ts ++ typing_of ts types c ∷ []) types ds (grown ms ts (meaning_of ms types c) (typing_of ts types c) all refl (λ path. items ms ts all types path [] c.items))

parameters : (types : List Typed) (ps : List Parameter) → names_of (map (parameter_type types) ps) ≡ parameter_names ps
parameters types [] = refl
parameters types (p ∷ ps) = ap (λ ns. p.name ∷ ns) (parameters types ps)

pub returns : goal.returns
returns c ds =
    let ps = main_parameters ds in
    map-append (λ (e : Typed). e.name) (map (parameter_type (types_of ds)) ps) _
    ∙ (λ k. parameters (types_of ds) ps k ++ named (meanings_of ds) (typings_of ds) (whole [] [] [] ds tt) (codes "main") [] k)
