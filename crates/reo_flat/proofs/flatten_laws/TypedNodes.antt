-- What a connector places fits the types of its nodes.
use Rattle.std.proofs.Common.{arith, ◌≡◌, ◌∙◌, ℕ, List, [], ◌∷◌, ◌++◌, length, map, Bool, true, false, not, cond, ◌||◌, inl, inr, Some, None, find, zip, refl, sym, ap, subst, bytes_eq}
use Rattle.std.specs.Prelude.{unwrap_or, option_map}
use Rattle.std.specs.Option.{option_map_or}
use Rattle.std.specs.List.{AllByRecursion, list_any, flat_map}
use Rattle.std.proofs.lemmas.Bool.{eqb-true, not-false}
use Rattle.std.proofs.lemmas.List.{append_assoc, length-map}
use Rattle.std.proofs.lemmas.Slice.Eq.{bytes_eq-Decides}
use Rattle.reo_values.specs.declared.kindred.Kindred.{Kindred}
use Rattle.reo_values.specs.declared.kindred.Kindred.TheVariants as kinds
use Rattle.reo_values.specs.Valid.{IsValid}
use Rattle.reo_trees.specs.declared.items.Item.{Item}
use Rattle.reo_trees.specs.declared.items.ItemForm.{ItemForm}
use Rattle.reo_trees.specs.declared.items.ItemForm.TheVariants as forms
use Rattle.reo_trees.specs.declared.items.Channel.{Channel}
use Rattle.reo_trees.specs.declared.items.Channel.TheVariants as channels
use Rattle.reo_trees.specs.declared.programs.Parameter.{Parameter}
use Rattle.reo_trees.specs.declared.programs.Connector.{Connector}
use Rattle.reo_syntax_laws.specs.trees_laws.Spelled.{IsSpelledChannel, IsSpelledForm, IsSpelledItem}
use Rattle.reo_rules.specs.declared.fault.FlatFault.TheVariants as faults
use Rattle.reo_rules.specs.Lists.{each_after, where_true}
use Rattle.reo_rules.specs.Types.{Typed, names_of, type_named, resolved, is_same}
use Rattle.reo_rules.specs.Scopes.{connector_named, parameters_named, parameter_names, node_names, node_names_in, parameter_type}
use Rattle.reo_rules.specs.Twice.{twice_in_type, twice_among, twice_in_item}
use Rattle.reo_rules.specs.Unknown.{missing, unknown_in_item}
use Rattle.reo_rules.specs.Mistyped.{is_mistyped}
use Rattle.reo_rules.specs.Ranges.{range_in_item}
use Rattle.reo_rules.specs.Arity.{arity_in_item}
use Rattle.reo_rules.proofs.AfterLemmas.{where_false}
use Rattle.reo_rules.proofs.Same.{same_types}
use Rattle.reo_flat.specs.ChannelKinds.{channel_kind}
use Rattle.reo_flat.specs.Unfolding.{Placed, Meaning, no_meaning, meaning_named, flat_name, use_path, channels_in}
use Rattle.reo_flat.specs.flatten_laws.NodeTypes.{Typing, no_typing, typing_named, typed_in}
use Rattle.reo_flat.specs.flatten_laws.Fitting.{Fits}
use Rattle.reo_flat.proofs.flatten_laws.Breaks.{holds, left_none, right_none, flat_map-append}
use Rattle.reo_flat.proofs.flatten_laws.Each.{both}
use Rattle.reo_flat.proofs.flatten_laws.Within.{In, in_left, in_right, in_either, known_name}
use Rattle.reo_flat.proofs.flatten_laws.RightKinds.{IsSound, channel_fits}
use Rattle.reo_flat.proofs.flatten_laws.TypesGrow.{Stays, stays_on}
use Rattle.reo_flat.proofs.flatten_laws.Validity.{AreValid, valid_type, well_formed}

pub all_left : {X : Type 0} (P : X → Type 0) (xs ys : List X) → AllByRecursion P (xs ++ ys) → AllByRecursion P xs
all_left P [] ys all = tt
all_left P (x ∷ xs) ys all = (all.0, all_left P xs ys all.1)

pub all_right : {X : Type 0} (P : X → Type 0) (xs ys : List X) → AllByRecursion P (xs ++ ys) → AllByRecursion P ys
all_right P [] ys all = all
all_right P (x ∷ xs) ys all = all_right P xs ys all.1

-- What is placed fits the types that its nodes have.
abbrev pub FitsAt : (List ℕ → Kindred) → Placed → Type 0
FitsAt T p = Fits p.kind (map T p.nodes)

-- Nodes have these types.
abbrev pub HasTypes : (List ℕ → Kindred) → List Typed → Type 0
HasTypes T es = AllByRecursion (λ (e : Typed). T e.name ≡ e.kindred) es

-- Arguments have the types of their parameters.
abbrev pub AreGiven : List Typed → (List ℕ → Kindred) → List (List ℕ) → List Parameter → Type 0
AreGiven types T arguments ps = AllByRecursion (λ (q : List ℕ × Parameter). T q.0 ≡ resolved types q.1.term.shape) (zip arguments ps)

-- Whatever types flat names have, as long as arguments and nodes have theirs, what a connector places fits them.
pub record IsWellTyped (types : List Typed) (ps : List Parameter) (m : Meaning) (t : Typing) : Type 0 where
  pub stays : Stays types ps
  pub parameters : AllByRecursion (λ (p : Parameter). IsValid (resolved types p.term.shape)) ps
  pub nodes : (path : List ℕ) → AreValid (t.nodes path)
  pub fits : (path : List ℕ) (arguments : List (List ℕ)) (T : List ℕ → Kindred) → length arguments ≡ length ps → AreGiven types T arguments ps → HasTypes T (t.nodes path) → AllByRecursion (FitsAt T) (m.channels path arguments)

abbrev pub AreWellTyped : List Typed → List Connector → List Meaning → List Typing → Type 0
AreWellTyped types [] [] [] = Unit {0}
AreWellTyped types (c ∷ cs) (m ∷ ms) (t ∷ ts) = (m.name ≡ c.name) × (t.name ≡ c.name) × IsWellTyped types c.parameters m t × AreWellTyped types cs ms ts
AreWellTyped types _ _ _ = ⊥

-- So it stays when one more type is known.
given_before : (types more : List Typed) (T : List ℕ → Kindred) (arguments : List (List ℕ)) (ps : List Parameter) → AllByRecursion (λ (p : Parameter). resolved (types ++ more) p.term.shape ≡ resolved types p.term.shape) ps
    → AreGiven (types ++ more) T arguments ps → AreGiven types T arguments ps
given_before types more T [] ps stay given = tt
given_before types more T (a ∷ as') [] stay given = tt
given_before types more T (a ∷ as') (p ∷ ps) stay given = (given.0 ∙ stay.0, given_before types more T as' ps stay.1 given.1)

valid_still : (types more : List Typed) (ps : List Parameter) → AllByRecursion (λ (p : Parameter). resolved (types ++ more) p.term.shape ≡ resolved types p.term.shape) ps
    → AllByRecursion (λ (p : Parameter). IsValid (resolved types p.term.shape)) ps → AllByRecursion (λ (p : Parameter). IsValid (resolved (types ++ more) p.term.shape)) ps
valid_still types more [] stay valid = tt
valid_still types more (p ∷ ps) stay valid = (subst IsValid (sym stay.0) valid.0, valid_still types more ps stay.1 valid.1)

well_typed_on : (types : List Typed) (e : Typed) (ps : List Parameter) (m : Meaning) (t : Typing) → IsWellTyped types ps m t → IsWellTyped (types ++ e ∷ []) ps m t
well_typed_on types e ps m t well = record {
  stays = stays_on types e ps well.stays;
  parameters = valid_still types (e ∷ []) ps (well.stays (e ∷ [])) well.parameters;
  nodes = well.nodes;
  fits = λ path arguments T same given nodes. well.fits path arguments T same (given_before types (e ∷ []) T arguments ps (well.stays (e ∷ [])) given) nodes;
}

pub all_on : (types : List Typed) (e : Typed) (cs : List Connector) (ms : List Meaning) (ts : List Typing) → AreWellTyped types cs ms ts → AreWellTyped (types ++ e ∷ []) cs ms ts
all_on types e [] [] [] all = tt
all_on types e (c ∷ cs) (m ∷ ms) (t ∷ ts) all = (all.0, all.1, well_typed_on types e c.parameters m t all.2, all_on types e cs ms ts all.3)
all_on types e [] [] (t ∷ ts) all = absurd all
all_on types e [] (m ∷ ms) ts all = absurd all
all_on types e (c ∷ cs) [] ts all = absurd all
all_on types e (c ∷ cs) (m ∷ ms) [] all = absurd all

pub grown_by : (types : List Typed) (cs : List Connector) (ms : List Meaning) (ts : List Typing) (c : Connector) (m : Meaning) (t : Typing) → AreWellTyped types cs ms ts → m.name ≡ c.name → t.name ≡ c.name
    → IsWellTyped types c.parameters m t → AreWellTyped types (cs ++ c ∷ []) (ms ++ m ∷ []) (ts ++ t ∷ [])
grown_by types [] [] [] c m t all name again here = (name, again, here, tt)
grown_by types (b ∷ bs) (n ∷ ns) (u ∷ us) c m t all name again here = (all.0, all.1, all.2, grown_by types bs ns us c m t all.3 name again here)
grown_by types [] [] (u ∷ us) c m t all name again here = absurd all
grown_by types [] (n ∷ ns) us c m t all name again here = absurd all
grown_by types (b ∷ bs) [] us c m t all name again here = absurd all
grown_by types (b ∷ bs) (n ∷ ns) [] c m t all name again here = absurd all

nothing_typed : (types : List Typed) → IsWellTyped types [] no_meaning no_typing
nothing_typed types = record { stays = λ more. tt; parameters = tt; nodes = λ path. tt; fits = λ path arguments T same given nodes. tt }

-- By its name.
pub typed_named : (types : List Typed) (cs : List Connector) (ms : List Meaning) (ts : List Typing) → AreWellTyped types cs ms ts → (name : List ℕ) → IsWellTyped types (parameters_named cs name) (meaning_named ms name) (typing_named ts name)
typed_named types [] [] [] all name = nothing_typed types
typed_named types [] [] (t ∷ ts) all name = absurd all
typed_named types [] (m ∷ ms) ts all name = absurd all
typed_named types (c ∷ cs) [] ts all name = absurd all
typed_named types (c ∷ cs) (m ∷ ms) [] all name = absurd all
typed_named types (c ∷ cs) (m ∷ ms) (t ∷ ts) all name =
    subst (λ q. IsWellTyped types (parameters_named (c ∷ cs) name) (unwrap_or (cond (bytes_eq name q) (Some m) (find (λ (y : Meaning). bytes_eq name y.name) ms)) no_meaning) (typing_named (t ∷ ts) name)) (sym all.0)
    (subst (λ q. IsWellTyped types (parameters_named (c ∷ cs) name) (unwrap_or (cond (bytes_eq name c.name) (Some m) (find (λ (y : Meaning). bytes_eq name y.name) ms)) no_meaning) (unwrap_or (cond (bytes_eq name q) (Some t) (find (λ (y : Typing). bytes_eq name y.name) ts)) no_typing)) (sym all.1)
    (step (bytes_eq name c.name) (typed_named types cs ms ts all.3 name))) where
      step : (b : Bool) → IsWellTyped types (parameters_named cs name) (meaning_named ms name) (typing_named ts name)
          → IsWellTyped types (option_map_or (λ (q : Connector). q.parameters) (cond b (Some c) (connector_named cs name)) []) (unwrap_or (cond b (Some m) (find (λ (y : Meaning). bytes_eq name y.name) ms)) no_meaning) (unwrap_or (cond b (Some t) (find (λ (y : Typing). bytes_eq name y.name) ts)) no_typing)
      step true rest = all.2
      step false rest = rest

-- The type of a name that stands in a list of names with types, where their flat names have these types.
type_at : (T : List ℕ → Kindred) (path : List ℕ) (es : List Typed) → AllByRecursion (λ (e : Typed). T (path ++ e.name) ≡ e.kindred) es → (name : List ℕ) → In (names_of es) name → T (path ++ name) ≡ type_named es name
type_at T path [] has name none = absurd none
type_at T path (e ∷ es) has name there = step (bytes_eq name e.name) refl there (type_at T path es has.1 name) where
  step : (b : Bool) → bytes_eq name e.name ≡ b → In (names_of (e ∷ es)) name → (In (names_of es) name → T (path ++ name) ≡ type_named es name)
      → T (path ++ name) ≡ unwrap_or (option_map (λ (t : Typed). t.kindred) (cond b (Some e) (find (λ (t : Typed). bytes_eq name t.name) es))) kinds.Unit
  step true is at rest = ap (λ n. T (path ++ n)) ((bytes_eq-Decides name e.name).0 is) ∙ has.0
  step false is (inl same) rest = absurd (differ ((bytes_eq-Decides name e.name).1 same) is) where
    differ : {c : Bool} → c ≡ true → c ≡ false → ⊥
    differ yes' no' = cc
  step false is (inr later) rest = rest later

-- The type of a name's flat name: that of its parameter, or of its node.
flat_typed : (T : List ℕ → Kindred) (types own : List Typed) (path : List ℕ) (ps : List Parameter) (arguments : List (List ℕ)) → length arguments ≡ length ps → AreGiven types T arguments ps
    → AllByRecursion (λ (e : Typed). T (path ++ e.name) ≡ e.kindred) own → (name : List ℕ) → In (parameter_names ps ++ names_of own) name
    → T (flat_name path ps arguments name) ≡ type_named (map (parameter_type types) ps ++ own) name
flat_typed T types own path [] [] same given has name there = type_at T path own has name there
flat_typed T types own path [] (a ∷ as') same given has name there = absurd (omega arith)
flat_typed T types own path (p ∷ ps) [] same given has name there = absurd (omega arith)
flat_typed T types own path (p ∷ ps) (a ∷ as') same given has name there = step (bytes_eq name p.name) refl there (flat_typed T types own path ps as' (shorter same) given.1 has name) where
  shorter : length (a ∷ as') ≡ length (p ∷ ps) → length as' ≡ length ps
  shorter is = omega arith

  step : (b : Bool) → bytes_eq name p.name ≡ b → In (parameter_names (p ∷ ps) ++ names_of own) name → (In (parameter_names ps ++ names_of own) name → T (flat_name path ps as' name) ≡ type_named (map (parameter_type types) ps ++ own) name)
      → T (cond b a (flat_name path ps as' name)) ≡ unwrap_or (option_map (λ (t : Typed). t.kindred) (cond b (Some (parameter_type types p)) (find (λ (t : Typed). bytes_eq name t.name) (map (parameter_type types) ps ++ own)))) kinds.Unit
  step true is at rest = given.0
  step false is (inl at) rest = absurd (differ ((bytes_eq-Decides name p.name).1 at) is) where
    differ : {c : Bool} → c ≡ true → c ≡ false → ⊥
    differ yes' no' = cc
  step false is (inr later) rest = rest later

-- The channel of a text is sound.
sound_of : (types : List Typed) → AreValid types → (c : Channel) → IsSpelledChannel c → IsSound types c
sound_of types valid channels.Sync spelled = tt
sound_of types valid channels.Lossy spelled = tt
sound_of types valid channels.SyncDrain spelled = tt
sound_of types valid channels.AsyncDrain spelled = tt
sound_of types valid (channels.Fifo1 None) spelled = tt
sound_of types valid (channels.Fifo1 (Some l)) spelled = tt
sound_of types valid (channels.Fifo size held) spelled = (spelled.0, spelled.1)
sound_of types valid (channels.Filter t) spelled = λ e is. well_formed types valid t.form spelled e is
sound_of types valid (channels.Map t) spelled = λ e is. well_formed types valid t.form spelled e is
sound_of types valid (channels.Shift size held) spelled = (spelled.0, spelled.1)
sound_of types valid (channels.Variable None) spelled = tt
sound_of types valid (channels.Variable (Some l)) spelled = tt
sound_of types valid (channels.Quota number) spelled = tt

any_none : {X : Type 0} (p : X → Bool) (x : X) (xs : List X) → (p x || list_any p xs) ≡ false → (p x ≡ false) × (list_any p xs ≡ false)
any_none p x xs none = step (p x) none where
  step : (b : Bool) → (b || list_any p xs) ≡ false → (b ≡ false) × (list_any p xs ≡ false)
  step true h = absurd (cc)
  step false h = (refl, h)

module _ (cs : List Connector) (ms : List Meaning) (ts : List Typing) (types : List Typed) (all : AreWellTyped types cs ms ts) (valid : AreValid types) (connectors : List (List ℕ)) (own : List Typed) (ps : List Parameter) (path : List ℕ) where
  abbrev scope : List Typed
  scope = map (parameter_type types) ps ++ own

  -- The nodes that items declare have valid types.
  abbrev typed_at : List Item → Item → List Typed
  typed_at before i = typed_in ts types path before i.form

  valid_in : (before : List Item) (line : ℕ) (f : ItemForm) → IsSpelledForm f → twice_in_item ps before line f ≡ [] → range_in_item types scope line f ≡ [] → AreValid (typed_in ts types path before f)
  valid_in before line (forms.Node name term) spelled once bound =
      (valid_type types valid term spelled.1 (right_none (twice_among (parameter_names ps ++ node_names before) line name) (twice_in_type term) once) bound, tt)
  valid_in before line (forms.Joined channel first second) spelled once bound = tt
  valid_in before line (forms.Used name names) spelled once bound = (typed_named types cs ms ts all name).nodes (use_path path before name)

  pub valid_items : (before items : List Item) → AllByRecursion IsSpelledItem items → each_after (λ b (i : Item). twice_in_item ps b i.line i.form) before items ≡ []
      → flat_map (λ (i : Item). range_in_item types scope i.line i.form) items ≡ [] → AreValid (each_after typed_at before items)
  valid_items before [] spelled once bound = tt
  valid_items before (i ∷ is) spelled once bound =
      both (λ (e : Typed). IsValid e.kindred) (typed_at before i) (each_after typed_at (before ++ i ∷ []) is)
      (valid_in before i.line i.form spelled.0 (left_none (twice_in_item ps before i.line i.form) _ once) (left_none (range_in_item types scope i.line i.form) _ bound))
      (valid_items (before ++ i ∷ []) is spelled.1 (right_none (twice_in_item ps before i.line i.form) _ once) (right_none (range_in_item types scope i.line i.form) _ bound))

  module _ (arguments : List (List ℕ)) (T : List ℕ → Kindred) (same : length arguments ≡ length ps) (given : AreGiven types T arguments ps) (has : AllByRecursion (λ (e : Typed). T (path ++ e.name) ≡ e.kindred) own) where
    abbrev flat : List ℕ → List ℕ
    flat name = flat_name path ps arguments name

    abbrev channels_at : List Item → Item → List Placed
    channels_at before i = channels_in ms types scope path (flat_name path ps arguments) before i.form

    named_there : (nodes : List (List ℕ)) → ((n : List ℕ) → In nodes n → In (names_of own) n) → (n : List ℕ) → In (parameter_names ps ++ nodes) n → In (parameter_names ps ++ names_of own) n
    named_there nodes mine n there = elim (in_either (parameter_names ps) nodes n there) [ inl p ↦ in_left (parameter_names ps) (names_of own) n p | inr q ↦ in_right (parameter_names ps) (names_of own) n (mine n q) ]

    known_type : (nodes : List (List ℕ)) → ((n : List ℕ) → In nodes n → In (names_of own) n) → (line : ℕ) (name : List ℕ) → missing (parameter_names ps ++ nodes) line name ≡ [] → T (flat name) ≡ type_named scope name
    known_type nodes mine line name known = flat_typed T types own path ps arguments same given has name (named_there nodes mine name (known_name (parameter_names ps ++ nodes) line name known))

    -- The arguments of a use have the types of its parameters.
    passed : (nodes : List (List ℕ)) → ((n : List ℕ) → In nodes n → In (names_of own) n) → (line : ℕ) (names : List (List ℕ)) (qs : List Parameter) → flat_map (missing (parameter_names ps ++ nodes) line) names ≡ []
        → list_any (λ (q : List ℕ × Parameter). not (is_same (type_named scope q.0) (resolved types q.1.term.shape))) (zip names qs) ≡ false → AreGiven types T (map (flat_name path ps arguments) names) qs
    passed nodes mine line [] qs known fit = tt
    passed nodes mine line (n ∷ ns) [] known fit = tt
    passed nodes mine line (n ∷ ns) (q ∷ qs) known fit =
        let one = any_none (λ (r : List ℕ × Parameter). not (is_same (type_named scope r.0) (resolved types r.1.term.shape))) (n, q) (zip ns qs) fit in
        let here = known_type nodes mine line n (left_none (missing (parameter_names ps ++ nodes) line n) _ known) in
        (here ∙ same_types (type_named scope n) (resolved types q.term.shape) (not-false _ one.0), passed nodes mine line ns qs (right_none (missing (parameter_names ps ++ nodes) line n) _ known) one.1)

    one_fits : (before : List Item) (line : ℕ) (f : ItemForm) → ((n : List ℕ) → In (node_names before) n → In (names_of own) n) → IsSpelledForm f → unknown_in_item types connectors (parameter_names ps ++ node_names before) line f ≡ []
        → is_mistyped types cs scope f ≡ false → range_in_item types scope line f ≡ [] → arity_in_item cs line f ≡ [] → HasTypes T (typed_in ts types path before f)
        → AllByRecursion (FitsAt T) (channels_in ms types scope path (flat_name path ps arguments) before f)
    one_fits before line (forms.Node name term) mine spelled known typed bound fit nodes = tt
    one_fits before line (forms.Joined channel first second) mine spelled known typed bound fit nodes =
        let names = parameter_names ps ++ node_names before in
        let two = left_none (missing names line first ++ missing names line second) _ known in
        let a = known_type (node_names before) mine line first (left_none (missing names line first) _ two) in
        let b = known_type (node_names before) mine line second (right_none (missing names line first) _ two) in
        let kind = channel_kind types (type_named scope first) channel in
        (subst (λ (xs : List Kindred). Fits kind xs) (λ i. sym a i ∷ sym b i ∷ []) (channel_fits types (type_named scope first) (type_named scope second) channel typed (where_false _ _ bound) (sound_of types valid channel spelled.0)), tt)
    one_fits before line (forms.Used name names) mine spelled known typed bound fit nodes =
        let count = eqb-true _ _ (holds _ _ fit) in
        (typed_named types cs ms ts all name).fits (use_path path before name) (map (flat_name path ps arguments) names) T (length-map names (flat_name path ps arguments) ∙ count)
        (passed (node_names before) mine line names (parameters_named cs name) (right_none (missing connectors line name) _ known) typed) nodes

    pub items_fit : (before items : List Item) → ((n : List ℕ) → In (node_names (before ++ items)) n → In (names_of own) n) → AllByRecursion IsSpelledItem items
        → each_after (λ b (i : Item). unknown_in_item types connectors (parameter_names ps ++ node_names b) i.line i.form) before items ≡ []
        → flat_map (λ (i : Item). where_true (is_mistyped types cs scope i.form) (faults.Mistyped i.line)) items ≡ []
        → flat_map (λ (i : Item). range_in_item types scope i.line i.form) items ≡ [] → flat_map (λ (i : Item). arity_in_item cs i.line i.form) items ≡ []
        → HasTypes T (each_after typed_at before items) → AllByRecursion (FitsAt T) (each_after channels_at before items)
    items_fit before [] mine spelled known typed bound fit nodes = tt
    items_fit before (i ∷ is) mine spelled known typed bound fit nodes =
        both (FitsAt T) (channels_at before i) (each_after channels_at (before ++ i ∷ []) is)
        (one_fits before i.line i.form (λ n there. mine n (subst (λ ns. In ns n) (sym (flat_map-append (λ (j : Item). node_names_in j.form) before (i ∷ is))) (in_left (node_names before) (node_names (i ∷ is)) n there))) spelled.0
        (left_none (unknown_in_item types connectors (parameter_names ps ++ node_names before) i.line i.form) _ known) (where_false _ _ (left_none (where_true (is_mistyped types cs scope i.form) (faults.Mistyped i.line)) _ typed))
        (left_none (range_in_item types scope i.line i.form) _ bound) (left_none (arity_in_item cs i.line i.form) _ fit) (all_left (λ (e : Typed). T e.name ≡ e.kindred) (typed_at before i) _ nodes))
        (items_fit (before ++ i ∷ []) is (λ n there. mine n (subst (λ (b : List Item). In (node_names b) n) (append_assoc before (i ∷ []) is) there)) spelled.1
        (right_none (unknown_in_item types connectors (parameter_names ps ++ node_names before) i.line i.form) _ known) (right_none (where_true (is_mistyped types cs scope i.form) (faults.Mistyped i.line)) _ typed)
        (right_none (range_in_item types scope i.line i.form) _ bound) (right_none (arity_in_item cs i.line i.form) _ fit) (all_right (λ (e : Typed). T e.name ≡ e.kindred) (typed_at before i) _ nodes))
