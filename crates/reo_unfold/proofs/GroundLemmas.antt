-- The ground of a program, declaration by declaration.
use Rattle.std.proofs.Common.{arith, ◌≡◌, ◌∙◌, ℕ, zero, suc, ◌+◌, ◌-◌, ◌<◌, List, [], ◌∷◌, ◌++◌, length, map, take, drop, get_or, false, refl, sym, ap, subst}
use Rattle.std.specs.Prelude.{slice_get}
use Rattle.std.proofs.lemmas.List.{append-nil, append_assoc, length-append, length-map, map-append, take_all, take-append-le, get_or-append_right}
use Rattle.std.proofs.lemmas.Option.{slice_get_within}
use Rattle.reo_unfold.proofs.Sequences.{left_none, cut_at}
use Rattle.reo_trees.specs.declared.types.TypeTerm.{TypeTerm}
use Rattle.reo_trees.specs.declared.programs.Connector.{Connector}
use Rattle.reo_trees.specs.declared.programs.Declaration.{Declaration}
use Rattle.reo_trees.specs.declared.programs.Declaration.TheVariants as declarations
use Rattle.reo_rules.specs.Lists.{has_name}
use Rattle.reo_rules.specs.Types.{Typed, types_after, types_of, resolved}
use Rattle.reo_rules.specs.Scopes.{type_names, connectors_of, connector_names}
use Rattle.reo_unfold.proofs.AfterLemmas.{flat_map-append, where_false}
use Rattle.reo_rules.proofs.Declared.{types_after-append}
use Rattle.reo_rules.specs.Twice.{twice_among, twice_in}
use Rattle.reo_rules.specs.Scopes.{connectors_in}
use Rattle.reo_flat.specs.declared.sizes.Sizes.{Sizes}
use Rattle.reo_flat.specs.Unfolding.{Meaning, meaning_of, meanings_after, meanings_of}
use Rattle.reo_flat.specs.Counts.{IsSizesOf, AreSizes}
use Rattle.reo_unfold.specs.declared.ground.Stand.{Stand}
use Rattle.reo_unfold.specs.declared.ground.Ground.{Ground}
use Rattle.reo_unfold.specs.Known.{AreTypes}
use Rattle.reo_unfold.specs.Ground.{IsStand, Stands, IsGround, AddsSizes}
use Rattle.reo_unfold.proofs.ListLemmas.{slice_get-left, slice_get-right}

-- Types and meanings, in two parts.

pub meanings_after-append : (known : List Meaning) (types : List Typed) (xs ys : List Declaration) → meanings_after known types (xs ++ ys) ≡ meanings_after (meanings_after known types xs) (types_after types xs) ys
meanings_after-append known types [] ys = refl
meanings_after-append known types (declarations.Named line name term ∷ xs) ys = meanings_after-append known (types ++ record { name = name; kindred = resolved types term.shape } ∷ []) xs ys
meanings_after-append known types (declarations.Made c ∷ xs) ys = meanings_after-append (known ++ meaning_of known types c ∷ []) types xs ys

-- What was known stays in front.
pub types_front : (known : List Typed) (ys : List Declaration) → (rest : List Typed) × (types_after known ys ≡ known ++ rest)
types_front known [] = ([], sym (append-nil known))
types_front known (declarations.Named line name term ∷ ys) =
    let more = types_front (known ++ record { name = name; kindred = resolved known term.shape } ∷ []) ys in
    (_, more.1 ∙ append_assoc known _ more.0)
types_front known (declarations.Made c ∷ ys) = types_front known ys

pub meanings_front : (known : List Meaning) (types : List Typed) (ys : List Declaration) → (rest : List Meaning) × (meanings_after known types ys ≡ known ++ rest)
meanings_front known types [] = ([], sym (append-nil known))
meanings_front known types (declarations.Named line name term ∷ ys) = meanings_front known (types ++ record { name = name; kindred = resolved types term.shape } ∷ []) ys
meanings_front known types (declarations.Made c ∷ ys) =
    let more = meanings_front (known ++ meaning_of known types c ∷ []) types ys in
    (_, more.1 ∙ append_assoc known _ more.0)

-- A type's name for each type, and a meaning of its name for each connector.

meant_after : (known : List Meaning) (types : List Typed) (ds : List Declaration) → map (λ (m : Meaning). m.name) (meanings_after known types ds) ≡ map (λ (m : Meaning). m.name) known ++ connector_names ds
meant_after known types [] = sym (append-nil _)
meant_after known types (declarations.Named line name term ∷ ds) = meant_after known (types ++ record { name = name; kindred = resolved types term.shape } ∷ []) ds
meant_after known types (declarations.Made c ∷ ds) =
    meant_after (known ++ meaning_of known types c ∷ []) types ds ∙ ap (λ ns. ns ++ connector_names ds) (map-append (λ (m : Meaning). m.name) known _) ∙ append_assoc (map (λ (m : Meaning). m.name) known) (c.name ∷ []) (connector_names ds)

pub names_of-meanings : (ds : List Declaration) → map (λ (m : Meaning). m.name) (meanings_of ds) ≡ connector_names ds
names_of-meanings ds = meant_after [] [] ds

pub many_meanings : (ds : List Declaration) → length (meanings_of ds) ≡ length (connectors_of ds)
many_meanings ds =
    sym (length-map (meanings_of ds) (λ (m : Meaning). m.name)) ∙ ap length (names_of-meanings ds) ∙ length-map (connectors_of ds) (λ (c : Connector). c.name)

module _ (ds : List Declaration) (number : ℕ) (c : Connector) (s : Stand) (stands : IsStand ds number c s) where
  abbrev front : List Declaration
  front = take s.place ds

  whole : ds ≡ front ++ declarations.Made c ∷ drop (suc s.place) ds
  whole = cut_at ds s.place (declarations.Made c) stands.there

  -- The types before a connector, and the meanings.
  pub types_before : types_of front ≡ take s.types (types_of ds)
  types_before =
      let behind = types_front (types_of front) (declarations.Made c ∷ drop (suc s.place) ds) in
      let all : types_of ds ≡ types_of front ++ behind.0 = ap types_of whole ∙ types_after-append [] front _ ∙ behind.1 in
      sym (ap (take s.types) all ∙ ap (λ k. take k (types_of front ++ behind.0)) (sym stands.types) ∙ take-append-le (length (types_of front)) (types_of front) behind.0 (omega arith) ∙ take_all (length (types_of front)) (types_of front) (omega arith))

  many : length (meanings_of front) ≡ number
  many = many_meanings front ∙ stands.before

  meanings_are : (rest : List Meaning) × (meanings_of ds ≡ meanings_of front ++ (meaning_of (meanings_of front) (types_of front) c ∷ rest))
  meanings_are =
      let m = meaning_of (meanings_of front) (types_of front) c in
      let behind = meanings_front (meanings_of front ++ m ∷ []) (types_of front) (drop (suc s.place) ds) in
      (behind.0, ap meanings_of whole ∙ meanings_after-append [] [] front _ ∙ behind.1 ∙ append_assoc (meanings_of front) (m ∷ []) behind.0)

  pub meanings_before : meanings_of front ≡ take number (meanings_of ds)
  meanings_before =
      let all = meanings_are in
      let count = many in
      sym (ap (take number) all.1 ∙ take-append-le number (meanings_of front) _ (omega arith) ∙ take_all number (meanings_of front) (omega arith))

  -- What a connector means.
  pub meaning_is : (d : Meaning) → get_or (meanings_of ds) number d ≡ meaning_of (meanings_of front) (types_of front) c
  meaning_is d =
      let all = meanings_are in
      let count = many in
      let none : number - length (meanings_of front) ≡ 0 = omega arith in
      ap (λ ms. get_or ms number d) all.1 ∙ get_or-append_right (meanings_of front) _ (length (meanings_of front)) number d refl (omega arith) ∙ ap (λ k. get_or (meaning_of (meanings_of front) (types_of front) c ∷ all.0) k d) none

-- A stand stays where more is declared.
pub stands_on : (xs : List Declaration) (d : Declaration) (number : ℕ) (s : Stand) → Stands xs number s → Stands (xs ++ d ∷ []) number s
stands_on xs d number s stand =
    let within = slice_get_within xs s.place _ stand.is.there in
    let front : take s.place (xs ++ d ∷ []) ≡ take s.place xs = take-append-le s.place xs (d ∷ []) (omega arith) in
    record {
      connector = stand.connector;
      is = record {
        there = slice_get-left xs (d ∷ []) s.place within ∙ stand.is.there;
        before = ap (λ zs. length (connectors_of zs)) front ∙ stand.is.before;
        types = ap (λ zs. length (types_of zs)) front ∙ stand.is.types;
      };
    }

-- The stand of the connector that is declared last.
pub stands_last : (xs : List Declaration) (c : Connector) → Stands (xs ++ declarations.Made c ∷ []) (length (connectors_of xs)) (record { place = length xs; types = length (types_of xs) })
stands_last xs c =
    let front : take (length xs) (xs ++ declarations.Made c ∷ []) ≡ xs = take-append-le (length xs) xs _ (omega arith) ∙ take_all (length xs) xs (omega arith) in
    let none : length xs - length xs ≡ 0 = omega arith in
    record {
      connector = c;
      is = record {
        there = slice_get-right xs (declarations.Made c ∷ []) (length xs) (omega arith) ∙ ap (slice_get (declarations.Made c ∷ [])) none;
        before = ap (λ zs. length (connectors_of zs)) front;
        types = ap (λ zs. length (types_of zs)) front;
      };
    }

-- What is so of each of a list and of one more is so of all.
pub each_grows : {X : Type 0} (P : ℕ → X → Type 0) (xs : List X) (x : X) → ((k : ℕ) (d : X) → k < length xs → P k (get_or xs k d)) → P (length xs) x → (k : ℕ) (d : X) → k < length (xs ++ x ∷ []) → P k (get_or (xs ++ x ∷ []) k d)
each_grows P [] x each last zero d within = last
each_grows P [] x each last (suc k) d within = absurd (omega arith)
each_grows P (y ∷ ys) x each last zero d within = each zero d (omega arith)
each_grows P (y ∷ ys) x each last (suc k) d within =
    each_grows (λ n z. P (suc n) z) ys x (λ n e h. each (suc n) e (omega arith)) last k d (omega arith)

two_grow : (known : List Meaning) (table : List Sizes) (m : Meaning) (s : Sizes) → length table ≡ length known → ((k : ℕ) → k < length known → (e : Meaning) (d : Sizes) → IsSizesOf (get_or known k e) (get_or table k d)) → IsSizesOf m s → (k : ℕ) → k < length (known ++ m ∷ []) → (e : Meaning) (d : Sizes) → IsSizesOf (get_or (known ++ m ∷ []) k e) (get_or (table ++ s ∷ []) k d)
two_grow [] [] m s even each last zero within e d = last
two_grow [] [] m s even each last (suc k) within e d = absurd (omega arith)
two_grow [] (t ∷ ts) m s even each last k within e d = absurd (omega arith)
two_grow (n ∷ ns) [] m s even each last k within e d = absurd (omega arith)
two_grow (n ∷ ns) (t ∷ ts) m s even each last zero within e d = each zero (omega arith) e d
two_grow (n ∷ ns) (t ∷ ts) m s even each last (suc k) within e d =
    two_grow ns ts m s (omega arith) (λ j h. each (suc j) (omega arith)) last k (omega arith) e d

sizes_grow : (known : List Meaning) (names : List (List ℕ)) (table : List Sizes) (m : Meaning) (s : Sizes) → AreSizes known names table → IsSizesOf m s → AreSizes (known ++ m ∷ []) (names ++ m.name ∷ []) (table ++ s ∷ [])
sizes_grow known names table m s are last =
    let many = length-append table (s ∷ []) in
    let more = length-append known (m ∷ []) in
    let even = are.one_each in
    record {
      names_are = ap (λ ns. ns ++ m.name ∷ []) are.names_are ∙ sym (map-append (λ (n : Meaning). n.name) known (m ∷ []));
      one_each = omega arith;
      sizes = two_grow known table m s even are.sizes last;
    }

-- The ground with one type more, and with one connector more.
pub ground_named : (xs : List Declaration) (line : ℕ) (name : List ℕ) (term : TypeTerm) (g h : Ground) → IsGround xs g → AreTypes (types_of xs ++ record { name = name; kindred = resolved (types_of xs) term.shape } ∷ []) h.types → h.connectors ≡ g.connectors → h.stands ≡ g.stands → h.sizes ≡ g.sizes → IsGround (xs ++ declarations.Named line name term ∷ []) h
ground_named xs line name term g h is types connectors stands sizes =
    let d = declarations.Named line name term in
    let same : connectors_of (xs ++ d ∷ []) ≡ connectors_of xs = flat_map-append connectors_in xs (d ∷ []) ∙ append-nil (connectors_of xs) in
    record {
      types = subst (λ ts. AreTypes ts h.types) (sym (types_after-append [] xs (d ∷ []))) types;
      names = connectors ∙ is.names ∙ sym (ap (map (λ (c : Connector). c.name)) same);
      one_each = ap length stands ∙ is.one_each ∙ sym (ap length same);
      stands = λ number s within.
          subst (λ (ss : List Stand). Stands (xs ++ d ∷ []) number (get_or ss number s)) (sym stands)
          (stands_on xs d number _ (is.stands number s (subst (λ (ss : List Stand). number < length ss) stands within)));
      sizes = subst (λ ms. AreSizes ms h.connectors h.sizes) (sym (meanings_after-append [] [] xs (d ∷ [])))
          (subst (λ ns. AreSizes (meanings_of xs) ns h.sizes) (sym connectors) (subst (λ t. AreSizes (meanings_of xs) g.connectors t) (sym sizes) is.sizes));
    }

pub ground_made : (xs : List Declaration) (c : Connector) (g h : Ground) → IsGround xs g → h.types ≡ g.types → h.connectors ≡ g.connectors ++ c.name ∷ [] → h.stands ≡ g.stands ++ record { place = length xs; types = length g.types.kindreds } ∷ [] → AddsSizes (meanings_of xs) c.items g.sizes h.sizes → IsGround (xs ++ declarations.Made c ∷ []) h
ground_made xs c g h is types connectors stands sizes =
    let d = declarations.Made c in
    let more : connectors_of (xs ++ d ∷ []) ≡ connectors_of xs ++ c ∷ [] = flat_map-append connectors_in xs (d ∷ []) in
    let count : length g.types.kindreds ≡ length (types_of xs) = ap length is.types.kindreds ∙ length-map (types_of xs) (λ (e : Typed). e.kindred) in
    let last : Stand = record { place = length xs; types = length g.types.kindreds } in
    let stand : Stands (xs ++ d ∷ []) (length g.stands) last =
    subst (λ n. Stands (xs ++ d ∷ []) n last) (sym is.one_each) (subst (λ n. Stands (xs ++ d ∷ []) (length (connectors_of xs)) (record { place = length xs; types = n })) (sym count) (stands_last xs c)) in
    record {
      types = subst (λ ts. AreTypes ts h.types) (sym (types_after-append [] xs (d ∷ []))) (subst (AreTypes (types_of xs)) (sym types) is.types);
      names = connectors ∙ ap (λ ns. ns ++ c.name ∷ []) is.names ∙ sym (ap (map (λ (k : Connector). k.name)) more ∙ map-append (λ (k : Connector). k.name) (connectors_of xs) (c ∷ []));
      one_each = ap length stands ∙ length-append g.stands (last ∷ []) ∙ ap (λ n. n + 1) is.one_each ∙ sym (ap length more ∙ length-append (connectors_of xs) (c ∷ []));
      stands = λ number s within.
          subst (λ (ss : List Stand). Stands (xs ++ d ∷ []) number (get_or ss number s)) (sym stands)
          (each_grows (Stands (xs ++ d ∷ [])) g.stands last (λ k e h. stands_on xs d k _ (is.stands k e h)) stand number s (subst (λ (ss : List Stand). number < length ss) stands within));
      sizes = subst (λ ms. AreSizes ms h.connectors h.sizes) (sym (meanings_after-append [] [] xs (d ∷ [])))
          (subst (λ ns. AreSizes (meanings_of xs ++ meaning_of (meanings_of xs) (types_of xs) c ∷ []) ns h.sizes) (sym connectors)
          (subst (λ t. AreSizes (meanings_of xs ++ meaning_of (meanings_of xs) (types_of xs) c ∷ []) (g.connectors ++ c.name ∷ []) t) (sym sizes.added)
          (sizes_grow (meanings_of xs) g.connectors g.sizes (meaning_of (meanings_of xs) (types_of xs) c) sizes.size is.sizes sizes.is_size)));
    }

-- A name that stands once is new.
pub new_type : (before : List Declaration) (line : ℕ) (name : List ℕ) (term : TypeTerm) → twice_in before (declarations.Named line name term) ≡ [] → has_name (type_names before) name ≡ false
new_type before line name term none = where_false _ _ (left_none (twice_among (type_names before) line name) _ none)

pub new_connector : (before : List Declaration) (c : Connector) → twice_in before (declarations.Made c) ≡ [] → has_name (connector_names before) c.name ≡ false
new_connector before c none = where_false _ _ (left_none (twice_among (connector_names before) c.line c.name) _ none)
