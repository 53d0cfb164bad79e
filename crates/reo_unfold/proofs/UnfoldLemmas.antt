-- What an unfolding adds.
use Rattle.std.proofs.Common.{arith, ◌≡◌, ◌∙◌, ℕ, zero, suc, ◌+◌, ◌<◌, ◌≤◌, List, [], ◌∷◌, ◌++◌, length, map, take, get_or, Bool, cond, Some, None, position, count_by, sum_by, bytes_eq, sym, ap, subst}
use Rattle.std.specs.Prelude.{unwrap_or}
use Rattle.std.specs.List.{All}
use Rattle.std.proofs.lemmas.List.{append-nil, append_assoc, map-append}
use Rattle.reo_rules.specs.literals.Items.{HasFewNames}
use Rattle.reo_rules.specs.Types.{Typed}
use Rattle.std.proofs.lemmas.List.Sums.{sum_by-append, sum_by-cons}
use Rattle.std.proofs.lemmas.Option.{unwrap_or-slice_get}
use Rattle.reo_trees.specs.declared.items.Item.{Item}
use Rattle.reo_trees.specs.declared.items.ItemForm.TheVariants as forms
use Rattle.reo_rules.specs.Lists.{each_after}
use Rattle.reo_rules.proofs.Mapped.{position-map}
use Rattle.reo_flat.specs.Unfolding.{Placed, Meaning, no_meaning, meaning_named, meanings_of, use_path, is_use}
use Rattle.reo_unfold.specs.declared.unfold.Frame.{Frame}
use Rattle.reo_unfold.specs.Frames.{IsFrame, known_at, flat_at, nodes_at, channels_at, AddsForm, AddsItems}
use Rattle.reo_unfold.proofs.ListLemmas.{take_next, each_after-more}
use Rattle.reo_unfold.proofs.Positions.{found_before, found_late, found_none}
use Rattle.reo_unfold.proofs.GroundLemmas.{names_of-meanings, meanings_before}
use Rattle.reo_unfold.specs.declared.unfold.Unfolded.{Unfolded}
use Rattle.reo_unfold.specs.Adds.{Adds}

-- Types with few names, without their own.
pub few_kindreds : (ts : List Typed) → All (λ (e : Typed). HasFewNames e.kindred) ts → All HasFewNames (map (λ (e : Typed). e.kindred) ts)
few_kindreds [] all k d within = absurd (omega arith)
few_kindreds (t ∷ ts) all zero d within = all zero t (omega arith)
few_kindreds (t ∷ ts) all (suc k) d within = few_kindreds ts (λ j e h. all (suc j) e (omega arith)) k d (omega arith)

-- Nothing is added, and what is added is added one after another.
pub adds_none : (a : Unfolded) → Adds a a [] []
adds_none a = record { nodes_are = sym (append-nil a.nodes); kinds_are = sym (append-nil a.kinds); ends_are = sym (append-nil a.ends) }

pub adds_both : (a b d : Unfolded) (ns ms : List (List ℕ)) (ps qs : List Placed) → Adds a b ns ps → Adds b d ms qs → Adds a d (ns ++ ms) (ps ++ qs)
adds_both a b d ns ms ps qs first second = record {
  nodes_are = second.nodes_are ∙ ap (λ xs. xs ++ ms) first.nodes_are ∙ append_assoc a.nodes ns ms;
  kinds_are = second.kinds_are ∙ ap (λ xs. xs ++ map (λ (p : Placed). p.kind) qs) first.kinds_are ∙ append_assoc a.kinds _ _ ∙ ap (λ xs. a.kinds ++ xs) (sym (map-append (λ (p : Placed). p.kind) ps qs));
  ends_are = second.ends_are ∙ ap (λ xs. xs ++ map (λ (p : Placed). p.nodes) qs) first.ends_are ∙ append_assoc a.ends _ _ ∙ ap (λ xs. a.ends ++ xs) (sym (map-append (λ (p : Placed). p.nodes) ps qs));
}

module _ (f : Frame) (is : IsFrame f) (name : List ℕ) where
  abbrev meant : Meaning → Bool
  meant m = bytes_eq name m.name

  abbrev all : List Meaning
  all = meanings_of f.declarations.now

  number_of : position (bytes_eq name) f.ground.now.connectors ≡ position meant all
  number_of = ap (position (bytes_eq name)) (is.ground.names ∙ sym (names_of-meanings f.declarations.now)) ∙ position-map (λ (m : Meaning). m.name) (bytes_eq name) all

  front : known_at f ≡ take f.number all
  front = meanings_before f.declarations.now f.number f.connector.now f.stand is.stand

  -- What a name means in a connector: the connector of its number, where that is smaller, and else nothing.
  pub meaning_before : (n : ℕ) → position (bytes_eq name) f.ground.now.connectors ≡ Some n → n < f.number → meaning_named (known_at f) name ≡ get_or all n no_meaning
  meaning_before n at below =
      ap (λ ms. meaning_named ms name) front
      ∙ ap (λ found. unwrap_or found no_meaning) (found_before meant all f.number n (sym number_of ∙ at) below)
      ∙ unwrap_or-slice_get all n no_meaning

  pub meaning_late : (n : ℕ) → position (bytes_eq name) f.ground.now.connectors ≡ Some n → f.number ≤ n → meaning_named (known_at f) name ≡ no_meaning
  meaning_late n at late =
      ap (λ ms. meaning_named ms name) front ∙ ap (λ found. unwrap_or found no_meaning) (found_late meant all f.number n (sym number_of ∙ at) late)

  pub meaning_nowhere : position (bytes_eq name) f.ground.now.connectors ≡ None → meaning_named (known_at f) name ≡ no_meaning
  meaning_nowhere none =
      ap (λ ms. meaning_named ms name) front ∙ ap (λ found. unwrap_or found no_meaning) (found_none meant all f.number (sym number_of ∙ none))

  -- A use of what means nothing adds nothing.
  pub adds_nothing : (path : List ℕ) (before : List Item) (arguments : List (List ℕ)) (a : Unfolded) → meaning_named (known_at f) name ≡ no_meaning → AddsForm f path before (forms.Used name arguments) a a
  adds_nothing path before arguments a none =
      subst (λ (m : Meaning). Adds a a (m.nodes (use_path path before name)) (m.channels (use_path path before name) (map (flat_at f path) arguments))) (sym none) (adds_none a)

  -- A use adds what the connector adds.
  pub adds_use : (path inner : List ℕ) (before : List Item) (arguments given : List (List ℕ)) (a b : Unfolded) (n : ℕ) → position (bytes_eq name) f.ground.now.connectors ≡ Some n → n < f.number → inner ≡ use_path path before name → given ≡ map (flat_at f path) arguments → Adds a b ((get_or all n no_meaning).nodes inner) ((get_or all n no_meaning).channels inner given) → AddsForm f path before (forms.Used name arguments) a b
  adds_use path inner before arguments given a b n at below inner_is given_is added =
      subst (λ (m : Meaning). Adds a b (m.nodes (use_path path before name)) (m.channels (use_path path before name) (map (flat_at f path) arguments))) (sym (meaning_before n at below))
      (subst (λ gs. Adds a b ((get_or all n no_meaning).nodes (use_path path before name)) ((get_or all n no_meaning).channels (use_path path before name) gs)) given_is
      (subst (λ p. Adds a b ((get_or all n no_meaning).nodes p) ((get_or all n no_meaning).channels p given)) inner_is added))

-- One item more.
pub adds_next : (f : Frame) (path : List ℕ) (is : List Item) (i : ℕ) (x : Item) (a b d : Unfolded) → i < length is → x ≡ get_or is i x → AddsItems f path (take i is) a b → AddsForm f path (take i is) x.form b d → AddsItems f path (take (i + 1) is) a d
adds_next f path is i x a b d within at so_far here =
    subst (λ ns. Adds a d ns (each_after (λ before (y : Item). channels_at f path before y.form) [] (take (i + 1) is))) (sym (each_after-more (λ before (y : Item). nodes_at f path before y.form) is i x within at))
    (subst (λ ps. Adds a d (each_after (λ before (y : Item). nodes_at f path before y.form) [] (take i is) ++ nodes_at f path (take i is) x.form) ps) (sym (each_after-more (λ before (y : Item). channels_at f path before y.form) is i x within at))
    (adds_both a b d _ _ _ _ so_far here))

-- Uses are counted item by item, and are no more than the items.
pub count_next : (is : List Item) (i : ℕ) (x : Item) → i < length is → x ≡ get_or is i x → count_by (λ (y : Item). is_use y.form) (take (i + 1) is) ≡ count_by (λ (y : Item). is_use y.form) (take i is) + cond (is_use x.form) 1 0
count_next is i x within at =
    ap (count_by (λ (y : Item). is_use y.form)) (take_next is i x within at) ∙ sum_by-append (λ (y : Item). cond (is_use y.form) 1 0) (take i is) (x ∷ [])
    ∙ ap (λ n. count_by (λ (y : Item). is_use y.form) (take i is) + n) (one (λ (y : Item). cond (is_use y.form) 1 0) x) where
      one : (g : Item → ℕ) (y : Item) → sum_by g (y ∷ []) ≡ g y
      one g y =
          let none : g y + sum_by g [] ≡ g y = omega arith in
          sum_by-cons g y [] ∙ none
