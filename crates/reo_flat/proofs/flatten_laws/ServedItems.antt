-- A connector whose names all have their ends.
use Rattle.std.proofs.Common.{◌≡◌, ◌∙◌, ℕ, List, [], ◌∷◌, ◌++◌, map, Bool, true, false, cond, ◌&&◌, ◌||◌, ◌⊎◌, inl, inr, zip, refl, sym, ap, subst, bytes_eq}
use Rattle.std.specs.List.{AllByRecursion, flat_map}
use Rattle.std.proofs.lemmas.Bool.{eqb-true, or_cases, and_parts}
use Rattle.std.proofs.lemmas.List.{length-map}
use Rattle.std.proofs.lemmas.List.Folds.{list_any-append}
use Rattle.std.proofs.lemmas.Slice.Eq.{bytes_eq-Decides}
use Rattle.reo_trees.specs.declared.items.Item.{Item}
use Rattle.reo_trees.specs.declared.items.ItemForm.{ItemForm}
use Rattle.reo_trees.specs.declared.items.ItemForm.TheVariants as forms
use Rattle.reo_trees.specs.declared.programs.Parameter.{Parameter}
use Rattle.reo_trees.specs.declared.programs.Connector.{Connector}
use Rattle.reo_rules.specs.Lists.{each_after}
use Rattle.reo_rules.specs.Types.{Typed, type_named}
use Rattle.reo_rules.specs.Scopes.{parameter_names, node_names, node_names_in, scope_of, parameters_named}
use Rattle.reo_flat.specs.Unfolding.{Placed, Meaning, meaning_of, flat_name, use_path, nodes_in, channels_in}
use Rattle.reo_rules.specs.Touches.{bool_eq, Touch, touch, touches_in, touches_of, is_touched}
use Rattle.reo_rules.specs.Channels.{is_drain}
use Rattle.reo_rules.specs.Arity.{arity_in_item}
use Rattle.reo_rules.specs.Dangling.{dangling_parameter, dangling_in_item}
use Rattle.reo_flat.proofs.flatten_laws.Breaks.{holds, left_none, right_none}
use Rattle.reo_flat.proofs.flatten_laws.Within.{In, in_left, in_right, in_either}
use Rattle.reo_flat.proofs.flatten_laws.Once.{Once}
use Rattle.reo_flat.proofs.flatten_laws.UseNames.{once_left}
use Rattle.reo_flat.proofs.flatten_laws.Served.{HasEnd, end_left, end_right, channel_ways, IsServing, AreServing, serving_named}
use Rattle.reo_flat.proofs.flatten_laws.Each.{all_to}

equal : (v t : Bool) → bool_eq v t ≡ true → v ≡ t
equal true true is = refl
equal true false is = absurd (cc)
equal false true is = absurd (cc)
equal false false is = refl

-- A parameter's name stands for its argument, and another name for a node.
flat_given : (path : List ℕ) (ps : List Parameter) (arguments : List (List ℕ)) → Once (parameter_names ps) → AllByRecursion (λ (q : List ℕ × Parameter). In (parameter_names ps) q.1.name × (flat_name path ps arguments q.1.name ≡ q.0)) (zip arguments ps)
flat_given path [] [] once = tt
flat_given path [] (a ∷ as') once = tt
flat_given path (p ∷ ps) [] once = tt
flat_given path (p ∷ ps) (a ∷ as') once = (
  (inl refl, ap (λ b. cond b a (flat_name path ps as' p.name)) ((bytes_eq-Decides p.name p.name).1 refl)),
  all_to _ _ (λ q here. (inr here.0, later q here (bytes_eq q.1.name p.name) refl)) (zip as' ps) (flat_given path ps as' once.1),
) where
  later : (q : List ℕ × Parameter) → In (parameter_names ps) q.1.name × (flat_name path ps as' q.1.name ≡ q.0) → (b : Bool) → bytes_eq q.1.name p.name ≡ b → cond (bytes_eq q.1.name p.name) a (flat_name path ps as' q.1.name) ≡ q.0
  later q here true is = absurd (once.0 (subst (In (parameter_names ps)) ((bytes_eq-Decides q.1.name p.name).0 is) here.0))
  later q here false is = ap (λ c. cond c a (flat_name path ps as' q.1.name)) is ∙ here.1

flat_other : (path : List ℕ) (ps : List Parameter) (arguments : List (List ℕ)) (name : List ℕ) → (In (parameter_names ps) name → ⊥) → flat_name path ps arguments name ≡ path ++ name
flat_other path [] [] name none = refl
flat_other path [] (a ∷ as') name none = refl
flat_other path (p ∷ ps) [] name none = refl
flat_other path (p ∷ ps) (a ∷ as') name none = step (bytes_eq name p.name) refl (flat_other path ps as' name (λ there. none (inr there))) where
  step : (b : Bool) → bytes_eq name p.name ≡ b → flat_name path ps as' name ≡ path ++ name → cond b a (flat_name path ps as' name) ≡ path ++ name
  step true is rest = absurd (none (inl ((bytes_eq-Decides name p.name).0 is)))
  step false is rest = rest

zipped : {X Y : Type 0} (P : Y → Type 0) (xs : List X) (ys : List Y) → AllByRecursion P ys → AllByRecursion (λ (q : X × Y). P q.1) (zip xs ys)
zipped P [] ys all = tt
zipped P (x ∷ xs) [] all = tt
zipped P (x ∷ xs) (y ∷ ys) all = (all.0, zipped P xs ys all.1)

pub both_of : {X : Type 0} (P Q R : X → Type 0) → ((x : X) → P x → Q x → R x) → (xs : List X) → AllByRecursion P xs → AllByRecursion Q xs → AllByRecursion R xs
both_of P Q R f [] a b = tt
both_of P Q R f (x ∷ xs) a b = (f x a.0 b.0, both_of P Q R f xs a.1 b.1)

module _ (cs : List Connector) (ms : List Meaning) (serving : AreServing cs ms) (types scope : List Typed) (path : List ℕ) (ps : List Parameter) (arguments : List (List ℕ)) where
  abbrev flat : List ℕ → List ℕ
  flat name = flat_name path ps arguments name

  abbrev channels_at : List Item → Item → List Placed
  channels_at before i = channels_in ms types scope path (flat_name path ps arguments) before i.form

  abbrev nodes_at : List Item → Item → List (List ℕ)
  nodes_at before i = nodes_in ms path before i.form

  in_zip : (channels : List Placed) (names : List (List ℕ)) (qs : List Parameter) → AllByRecursion (λ (q : List ℕ × Parameter). HasEnd q.1.inward q.0 channels) (zip (map (flat_name path ps arguments) names) qs)
      → (name : List ℕ) (w : Bool) → is_touched (map (λ (q : List ℕ × Parameter). touch q.0 q.1.inward) (zip names qs)) name w ≡ true → HasEnd w (flat name) channels
  in_zip channels [] qs given name w is = absurd (cc)
  in_zip channels (n ∷ ns) [] given name w is = absurd (cc)
  in_zip channels (n ∷ ns) (q ∷ qs) given name w is = step (or_cases (bytes_eq name n && bool_eq q.inward w) (is_touched (map (λ (r : List ℕ × Parameter). touch r.0 r.1.inward) (zip ns qs)) name w) is) (in_zip channels ns qs given.1 name w) where
    step : ((bytes_eq name n && bool_eq q.inward w) ≡ true) ⊎ (is_touched (map (λ (r : List ℕ × Parameter). touch r.0 r.1.inward) (zip ns qs)) name w ≡ true) → (is_touched (map (λ (r : List ℕ × Parameter). touch r.0 r.1.inward) (zip ns qs)) name w ≡ true → HasEnd w (flat name) channels) → HasEnd w (flat name) channels
    step (inl here) rest =
        let two = and_parts (bytes_eq name n) (bool_eq q.inward w) here in
        let same = (bytes_eq-Decides name n).0 two.0 in
        subst (λ v. HasEnd v (flat name) channels) (equal q.inward w two.1) (subst (λ m. HasEnd q.inward (flat m) channels) (sym same) given.0)
    step (inr later) rest = rest later

  -- A name that an item touches has an end there.
  one_touch : (before : List Item) (line : ℕ) (f : ItemForm) → arity_in_item cs line f ≡ [] → (name : List ℕ) (w : Bool) → is_touched (touches_in cs f) name w ≡ true → HasEnd w (flat name) (channels_in ms types scope path (flat_name path ps arguments) before f)
  one_touch before line (forms.Node x term) fits name w is = absurd (cc)
  one_touch before line (forms.Joined channel first second) fits name w is =
      step (or_cases (bytes_eq name first && bool_eq true w) ((bytes_eq name second && bool_eq (is_drain channel) w) || false) is) where
        step : ((bytes_eq name first && bool_eq true w) ≡ true) ⊎ (((bytes_eq name second && bool_eq (is_drain channel) w) || false) ≡ true) → HasEnd w (flat name) (channels_in ms types scope path (flat_name path ps arguments) before (forms.Joined channel first second))
        step (inl here) =
            let two = and_parts (bytes_eq name first) (bool_eq true w) here in
            inl (inl (ap flat ((bytes_eq-Decides name first).0 two.0), (channel_ways types (type_named scope first) channel).0 ∙ equal true w two.1))
        step (inr there) = next (or_cases (bytes_eq name second && bool_eq (is_drain channel) w) false there) where
          next : ((bytes_eq name second && bool_eq (is_drain channel) w) ≡ true) ⊎ (false ≡ true) → HasEnd w (flat name) (channels_in ms types scope path (flat_name path ps arguments) before (forms.Joined channel first second))
          next (inl here) =
              let two = and_parts (bytes_eq name second) (bool_eq (is_drain channel) w) here in
              inl (inr (inl (ap flat ((bytes_eq-Decides name second).0 two.0), (channel_ways types (type_named scope first) channel).1 ∙ equal (is_drain channel) w two.1)))
          next (inr none) = absurd (cc)
  one_touch before line (forms.Used x names) fits name w is =
      let count = eqb-true _ _ (holds _ _ fits) in
      let inner = serving_named cs ms serving x (use_path path before x) (map (flat_name path ps arguments) names) (length-map names (flat_name path ps arguments) ∙ count) in
      in_zip _ names (parameters_named cs x) inner.given name w is

  touch_there : (before items : List Item) → flat_map (λ (i : Item). arity_in_item cs i.line i.form) items ≡ [] → (name : List ℕ) (w : Bool) → is_touched (flat_map (λ (i : Item). touches_in cs i.form) items) name w ≡ true → HasEnd w (flat name) (each_after channels_at before items)
  touch_there before [] fits name w is = absurd (cc)
  touch_there before (i ∷ is') fits name w is =
      step (or_cases (is_touched (touches_in cs i.form) name w) (is_touched (flat_map (λ (j : Item). touches_in cs j.form) is') name w) (sym (list_any-append (λ (t : Touch). bytes_eq name t.name && bool_eq t.is_source w) (touches_in cs i.form) (flat_map (λ (j : Item). touches_in cs j.form) is')) ∙ is))
      (touch_there (before ++ i ∷ []) is' (right_none (arity_in_item cs i.line i.form) _ fits) name w) where
        step : (is_touched (touches_in cs i.form) name w ≡ true) ⊎ (is_touched (flat_map (λ (j : Item). touches_in cs j.form) is') name w ≡ true) → (is_touched (flat_map (λ (j : Item). touches_in cs j.form) is') name w ≡ true → HasEnd w (flat name) (each_after channels_at (before ++ i ∷ []) is')) → HasEnd w (flat name) (each_after channels_at before (i ∷ is'))
        step (inl here) rest = end_left w (flat name) (channels_at before i) _ (one_touch before i.line i.form (left_none (arity_in_item cs i.line i.form) _ fits) name w here)
        step (inr later) rest = end_right w (flat name) (channels_at before i) _ (rest later)

  abbrev IsWhole : List Placed → List ℕ → Type 0
  IsWhole all n = HasEnd true n all × HasEnd false n all

  own_here : (all : List Placed) (before : List Item) (line : ℕ) (f : ItemForm) → arity_in_item cs line f ≡ [] → ((w : Bool) (n : List ℕ) → HasEnd w n (channels_in ms types scope path (flat_name path ps arguments) before f) → HasEnd w n all)
      → ((x : List ℕ) → In (node_names_in f) x → IsWhole all (path ++ x)) → (n : List ℕ) → In (nodes_in ms path before f) n → IsWhole all n
  own_here all before line (forms.Node x term) fits wider nodes n (inl is) = subst (IsWhole all) (sym is) (nodes x (inl refl))
  own_here all before line (forms.Node x term) fits wider nodes n (inr none) = absurd none
  own_here all before line (forms.Joined channel first second) fits wider nodes n there = absurd there
  own_here all before line (forms.Used x names) fits wider nodes n there =
      let count = eqb-true _ _ (holds _ _ fits) in
      let inner = serving_named cs ms serving x (use_path path before x) (map (flat_name path ps arguments) names) (length-map names (flat_name path ps arguments) ∙ count) in
      let ends = inner.own n there in
      (wider true n ends.0, wider false n ends.1)

  own_there : (all : List Placed) (before items : List Item) → flat_map (λ (i : Item). arity_in_item cs i.line i.form) items ≡ [] → ((w : Bool) (n : List ℕ) → HasEnd w n (each_after channels_at before items) → HasEnd w n all)
      → ((x : List ℕ) → In (node_names items) x → IsWhole all (path ++ x)) → (n : List ℕ) → In (each_after nodes_at before items) n → IsWhole all n
  own_there all before [] fits wider nodes n there = absurd there
  own_there all before (i ∷ is') fits wider nodes n there =
      step (in_either (nodes_at before i) (each_after nodes_at (before ++ i ∷ []) is') n there)
      (own_there all (before ++ i ∷ []) is' (right_none (arity_in_item cs i.line i.form) _ fits) (λ w m e. wider w m (end_right w m (channels_at before i) _ e)) (λ x t. nodes x (in_right (node_names_in i.form) (node_names is') x t)) n) where
        step : In (nodes_at before i) n ⊎ In (each_after nodes_at (before ++ i ∷ []) is') n → (In (each_after nodes_at (before ++ i ∷ []) is') n → IsWhole all n) → IsWhole all n
        step (inl here) rest =
            own_here all before i.line i.form (left_none (arity_in_item cs i.line i.form) _ fits) (λ w m e. wider w m (end_left w m (channels_at before i) _ e)) (λ x t. nodes x (in_left (node_names_in i.form) (node_names is') x t)) n here
        step (inr later) rest = rest later

  one_node : (ts : List Touch) (line : ℕ) (f : ItemForm) → dangling_in_item ts line f ≡ [] → (x : List ℕ) → In (node_names_in f) x → (is_touched ts x true ≡ true) × (is_touched ts x false ≡ true)
  one_node ts line (forms.Node name term) none x (inl is) =
      subst (λ y. (is_touched ts y true ≡ true) × (is_touched ts y false ≡ true)) (sym is) (and_parts (is_touched ts name true) (is_touched ts name false) (holds _ _ none))
  one_node ts line (forms.Node name term) none x (inr none') = absurd none'
  one_node ts line (forms.Joined channel first second) none x there = absurd there
  one_node ts line (forms.Used name names) none x there = absurd there

  all_nodes : (ts : List Touch) (items : List Item) → flat_map (λ (i : Item). dangling_in_item ts i.line i.form) items ≡ [] → (x : List ℕ) → In (node_names items) x → (is_touched ts x true ≡ true) × (is_touched ts x false ≡ true)
  all_nodes ts [] none x there = absurd there
  all_nodes ts (i ∷ is') none x there =
      step (in_either (node_names_in i.form) (node_names is') x there) (all_nodes ts is' (right_none (dangling_in_item ts i.line i.form) _ none) x) where
        step : In (node_names_in i.form) x ⊎ In (node_names is') x → (In (node_names is') x → (is_touched ts x true ≡ true) × (is_touched ts x false ≡ true)) → (is_touched ts x true ≡ true) × (is_touched ts x false ≡ true)
        step (inl here) rest = one_node ts i.line i.form (left_none (dangling_in_item ts i.line i.form) _ none) x here
        step (inr later) rest = rest later

  all_parameters : (ts : List Touch) (qs : List Parameter) → flat_map (dangling_parameter ts) qs ≡ [] → AllByRecursion (λ (p : Parameter). is_touched ts p.name p.inward ≡ true) qs
  all_parameters ts [] none = tt
  all_parameters ts (p ∷ qs) none = (holds _ _ (left_none (dangling_parameter ts p) _ none), all_parameters ts qs (right_none (dangling_parameter ts p) _ none))

pub once_front : (xs ys : List (List ℕ)) → Once (xs ++ ys) → Once xs
once_front [] ys once = tt
once_front (x ∷ xs) ys once = ((λ there. once.0 (in_left xs ys x there)), once_front xs ys once.1)

-- A connector whose names stand once and are touched as they must be serves its arguments and its nodes.
pub connector_serves : (cs : List Connector) (ms : List Meaning) (types : List Typed) (c : Connector) → AreServing cs ms → Once (parameter_names c.parameters ++ node_names c.items)
    → flat_map (λ (i : Item). arity_in_item cs i.line i.form) c.items ≡ []
    → flat_map (dangling_parameter (touches_of cs c)) c.parameters ++ flat_map (λ (i : Item). dangling_in_item (touches_of cs c) i.line i.form) c.items ≡ []
    → IsServing (meaning_of ms types c) c.parameters
connector_serves cs ms types c serving once fits none path arguments same =
    let ps = c.parameters in
    let ts = touches_of cs c in
    let scope = scope_of types c in
    let there = touch_there cs ms serving types scope path ps arguments [] c.items fits in
    let asked = all_parameters cs ms serving types scope path ps arguments ts ps (left_none (flat_map (dangling_parameter ts) ps) _ none) in
    let nodes = all_nodes cs ms serving types scope path ps arguments ts c.items (right_none (flat_map (dangling_parameter ts) ps) _ none) in
    let all = (meaning_of ms types c).channels path arguments in
    record {
      given = both_of _ _ (λ (q : List ℕ × Parameter). HasEnd q.1.inward q.0 all) (λ q touched named. subst (λ n. HasEnd q.1.inward n all) named.1 (there q.1.name q.1.inward touched)) (zip arguments ps)
          (zipped (λ (p : Parameter). is_touched ts p.name p.inward ≡ true) arguments ps asked) (flat_given path ps arguments (once_front (parameter_names ps) (node_names c.items) once));
      own = own_there cs ms serving types scope path ps arguments all [] c.items fits (λ w n e. e) (λ x t.
          let two = nodes x t in
          let is = flat_other path ps arguments x (λ given. once_left (parameter_names ps) (node_names c.items) once x given t) in
          (subst (λ n. HasEnd true n all) is (there x true two.0), subst (λ n. HasEnd false n all) is (there x false two.1)));
    }
