-- A program as a text says it that keeps the rules fits.
use Rattle.std.proofs.Common.{arith, ◌≡◌, ◌∙◌, ℕ, zero, suc, ◌<◌, ◌||◌, List, [], ◌∷◌, ◌++◌, Bool, true, false, cond, length, take, get_or, find, Some, nat_lt, bytes_eq, refl, sym, ap, subst}
use Rattle.std.specs.Prelude.{option_map, unwrap_or}
use Rattle.std.specs.List.{All, flat_map}
use Rattle.std.proofs.lemmas.Bool.{ltb-false}
use Rattle.std.proofs.lemmas.Option.{slice_get_within, get_or_from_slice_get}
use Rattle.reo_syntax_laws.specs.trees_laws.Spelled.{IsSpelled, IsSpelledForm, IsSpelledConnector, IsSpelledDeclaration}
use Rattle.reo_trees.specs.declared.types.Shape as shape
use Rattle.reo_trees.specs.declared.types.Shape.{Shape}
use Rattle.reo_trees.specs.declared.types.TypeTerm.{TypeTerm}
use Rattle.reo_trees.specs.declared.items.Item.{Item}
use Rattle.reo_trees.specs.declared.items.ItemForm.{ItemForm}
use Rattle.reo_trees.specs.declared.items.ItemForm.TheVariants as forms
use Rattle.reo_trees.specs.declared.items.Channel.TheVariants as channels
use Rattle.reo_trees.specs.declared.programs.Parameter.{Parameter}
use Rattle.reo_trees.specs.declared.programs.Declaration.{Declaration}
use Rattle.reo_trees.specs.declared.programs.Declaration.TheVariants as declarations
use Rattle.reo_trees.specs.declared.programs.Program.{Program}
use Rattle.reo_rules.specs.literals.Items.{HasFewNames}
use Rattle.reo_rules.specs.declared.fault.FlatFault.{FlatFault}
use Rattle.reo_rules.specs.declared.fault.FlatFault.TheVariants as faults
use Rattle.reo_rules.specs.Lists.{each_after, where_true}
use Rattle.reo_rules.specs.Types.{Typed, types_after, types_of, type_named, resolved, parts_of, depth_of}
use Rattle.reo_rules.specs.Scopes.{scope_of}
use Rattle.reo_rules.specs.Twice.{twice_among, twice_in, twice}
use Rattle.reo_rules.specs.Ranges.{is_out, range_in_type, range_in_item, range_in_connector, range_in, out_of_range}
use Rattle.reo_rules.specs.Scopes.{connector_names}
use Rattle.reo_rules.proofs.AfterLemmas.{right_none, flat_map-append, where_false}
use Rattle.reo_rules.proofs.Declared.{types_after-append}
use Rattle.reo_unfold.specs.Fits.{IsFew, FormFits, AreFit}
use Rattle.reo_unfold.proofs.ListLemmas.{each_none}
use Rattle.reo_unfold.proofs.TypeLemmas.{few_pair}
use Rattle.reo_values.specs.declared.kindred.Kindred.TheVariants as kinds
use Rattle.reo_flatten.proofs.Sequences.{left_none}
use Rattle.reo_syntax_laws.proofs.trees_laws.Lists.{all-more as all_one}

-- No break means that no written type in it has too many names.
abbrev range_part : List Typed → TypeTerm → List FlatFault
range_part types part = where_true (is_out part.shape || nat_lt 8 (depth_of (resolved types part.shape))) (faults.Range part.line)

first_fails : (a b : Bool) (f : FlatFault) → where_true (a || b) f ≡ [] → a ≡ false
first_fails true b f is = absurd (cc)
first_fails false b f is = refl

few_shape : (types : List Typed) (line : ℕ) (s : Shape) → flat_map (range_part types) (parts_of line s) ≡ [] → IsFew s
few_shape types line shape.Unit none = tt
few_shape types line shape.Bool none = tt
few_shape types line (shape.Int a b) none = tt
few_shape types line (shape.Sym names) none = ltb-false 1024 (length names) (first_fails (nat_lt 1024 (length names)) _ (faults.Range line) (left_none (where_true (nat_lt 1024 (length names) || _) (faults.Range line)) _ none))
few_shape types line (shape.Text a) none = tt
few_shape types line (shape.Pair' m (shape.more_of-TypePair k x l y e)) none =
    let behind = right_none (range_part types (record { line = line; shape = shape.Pair' m (shape.more_of-TypePair k x l y e) })) _ none in
    let parts = sym (flat_map-append (range_part types) (parts_of k x) (parts_of l y)) ∙ behind in
    (few_shape types k x (left_none (flat_map (range_part types) (parts_of k x)) _ parts), few_shape types l y (right_none (flat_map (range_part types) (parts_of k x)) _ parts))
few_shape types line (shape.Named a) none = tt

-- What it stands for has few names, where what is known has.
found_few : (known : List Typed) (name : List ℕ) → All (λ (e : Typed). HasFewNames e.kindred) known → HasFewNames (type_named known name)
found_few [] name all = tt
found_few (t ∷ ts) name all = by (bytes_eq name t.name) (found_few ts name (λ k d within. all (suc k) d (omega arith))) where
  by : (b : Bool) → HasFewNames (type_named ts name) → HasFewNames (unwrap_or (option_map (λ (e : Typed). e.kindred) (cond b (Some t) (find (λ (e : Typed). bytes_eq name e.name) ts))) kinds.Unit)
  by true more = all 0 t (omega arith)
  by false more = more

few_resolved : (known : List Typed) (s : Shape) → All (λ (e : Typed). HasFewNames e.kindred) known → IsFew s → HasFewNames (resolved known s)
few_resolved known shape.Unit all few = tt
few_resolved known shape.Bool all few = tt
few_resolved known (shape.Int a b) all few = tt
few_resolved known (shape.Sym names) all few = few
few_resolved known (shape.Text a) all few = tt
few_resolved known (shape.Pair' m (shape.more_of-TypePair k x l y e)) all few = few_pair (resolved known x) (resolved known y) (few_resolved known x all few.0) (few_resolved known y all few.1)
few_resolved known (shape.Named a) all few = found_few known a all

few_after : (before ds : List Declaration) (known : List Typed) → known ≡ types_of before → each_after range_in before ds ≡ [] → All (λ (e : Typed). HasFewNames e.kindred) known → All (λ (e : Typed). HasFewNames e.kindred) (types_after known ds)
few_after before [] known is none all = all
few_after before (declarations.Named line name term ∷ ds) known is none all =
    let here = left_none (range_in_type (types_of before) term) _ none in
    let few = few_shape (types_of before) term.line term.shape here in
    few_after (before ++ declarations.Named line name term ∷ []) ds (known ++ record { name = name; kindred = resolved known term.shape } ∷ [])
    (ap (λ ts. ts ++ record { name = name; kindred = resolved ts term.shape } ∷ []) is ∙ sym (types_after-append [] before (declarations.Named line name term ∷ [])))
    (right_none (range_in_type (types_of before) term) _ none)
    (all_one (λ (e : Typed). HasFewNames e.kindred) known (record { name = name; kindred = resolved known term.shape }) all (few_resolved known term.shape all few))
few_after before (declarations.Made c ∷ ds) known is none all =
    few_after (before ++ declarations.Made c ∷ []) ds known (is ∙ sym (types_after-append [] before (declarations.Made c ∷ []))) (right_none (range_in_connector (types_of before) c) _ none) all

-- Each of a list whose breaks are none.
flat_none : {X : Type 0} (f : X → List FlatFault) (xs : List X) (k : ℕ) (d : X) → flat_map f xs ≡ [] → k < length xs → f (get_or xs k d) ≡ []
flat_none f [] k d none within = absurd (omega arith)
flat_none f (x ∷ xs) zero d none within = left_none (f x) _ none
flat_none f (x ∷ xs) (suc k) d none within = flat_none f xs k d (right_none (f x) _ none) (omega arith)

fits : (types scope : List Typed) (line : ℕ) (f : ItemForm) → range_in_item types scope line f ≡ [] → IsSpelledForm f → FormFits f
fits types scope line (forms.Node name term) none spelled = few_shape types term.line term.shape none
fits types scope line (forms.Joined channels.Sync first second) none spelled = tt
fits types scope line (forms.Joined channels.Lossy first second) none spelled = tt
fits types scope line (forms.Joined channels.SyncDrain first second) none spelled = tt
fits types scope line (forms.Joined channels.AsyncDrain first second) none spelled = tt
fits types scope line (forms.Joined (channels.Fifo1 held) first second) none spelled = tt
fits types scope line (forms.Joined (channels.Fifo size held) first second) none spelled = (spelled.0.0, spelled.0.1, ltb-false size (length held) (where_false (nat_lt size (length held)) (faults.Range line) none))
fits types scope line (forms.Joined (channels.Filter t) first second) none spelled = tt
fits types scope line (forms.Joined (channels.Map t) first second) none spelled = tt
fits types scope line (forms.Joined (channels.Shift size held) first second) none spelled = (spelled.0.0, spelled.0.1, ltb-false size (length held) (where_false (nat_lt size (length held)) (faults.Range line) none))
fits types scope line (forms.Joined (channels.Variable held) first second) none spelled = tt
fits types scope line (forms.Joined (channels.Quota number) first second) none spelled = tt
fits types scope line (forms.Used name arguments) none spelled = tt

pub are_fit : (p : Program) → IsSpelled p → twice p.declarations ≡ [] → out_of_range p.declarations ≡ [] → AreFit p.declarations
are_fit p spelled once range = record {
  types = few_after [] p.declarations [] refl range (λ k d within. absurd (omega arith));
  connectors = λ place c there.
      let ds = p.declarations in
      let within = slice_get_within ds place (declarations.Made c) there in
      let at = sym (get_or_from_slice_get ds place (declarations.Made c) (declarations.Made c) there) in
      let before = take place ds in
      let no_twice = each_none twice_in [] ds place (declarations.Made c) within at once in
      let no_range = each_none range_in [] ds place (declarations.Made c) within at range in
      let said : IsSpelledConnector c = subst IsSpelledDeclaration (sym at) (spelled place (declarations.Made c) within) in
      record {
        once = right_none (twice_among (connector_names before) c.line c.name) _ no_twice;
        parameters = λ k d inside. few_shape (types_of before) (get_or c.parameters k d).term.line (get_or c.parameters k d).term.shape (flat_none (λ (q : Parameter). range_in_type (types_of before) q.term) c.parameters k d (left_none (flat_map (λ (q : Parameter). range_in_type (types_of before) q.term) c.parameters) _ no_range) inside);
        items = λ k d inside. fits (types_of before) (scope_of (types_of before) c) (get_or c.items k d).line (get_or c.items k d).form
            (flat_none (λ (i : Item). range_in_item (types_of before) (scope_of (types_of before) c) i.line i.form) c.items k d (right_none (flat_map (λ (q : Parameter). range_in_type (types_of before) q.term) c.parameters) _ no_range) inside)
            (said.items k d inside);
      };
}
