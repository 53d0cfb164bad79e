-- No break of the rules but that on cycles is a cycle.
use Rattle.std.proofs.Common.{◌≡◌, ℕ, List, [], ◌∷◌, ◌++◌, Bool, true, false, cond, Some, inl, inr, sym, subst}
use Rattle.std.specs.List.{AllByRecursion, flat_map}
use Rattle.reo_values.specs.declared.kindred.Kindred as kindred
use Rattle.reo_values.specs.declared.kindred.Kindred.{Kindred}
use Rattle.reo_trees.specs.declared.types.Shape as shape
use Rattle.reo_trees.specs.declared.types.Shape.{Shape}
use Rattle.reo_trees.specs.declared.types.TypeTerm.{TypeTerm}
use Rattle.reo_trees.specs.declared.terms.Term.{Term}
use Rattle.reo_trees.specs.declared.items.Item.{Item}
use Rattle.reo_trees.specs.declared.items.ItemForm.{ItemForm}
use Rattle.reo_trees.specs.declared.items.ItemForm.TheVariants as forms
use Rattle.reo_trees.specs.declared.items.Channel.{Channel}
use Rattle.reo_trees.specs.declared.items.Channel.TheVariants as channels
use Rattle.reo_trees.specs.declared.programs.Parameter.{Parameter}
use Rattle.reo_trees.specs.declared.programs.Connector.{Connector}
use Rattle.reo_trees.specs.declared.programs.Declaration.{Declaration}
use Rattle.reo_trees.specs.declared.programs.Declaration.TheVariants as declarations
use Rattle.reo_trees.specs.declared.programs.Program.{Program}
use Rattle.reo_rules.specs.declared.fault.FlatFault.{FlatFault}
use Rattle.reo_rules.specs.declared.fault.FlatFault.TheVariants as faults
use Rattle.reo_rules.specs.Lists.{each_after, where_true, first_of, has_name}
use Rattle.reo_rules.specs.Judged.{IsFirst}
use Rattle.reo_rules.specs.Types.{Typed, parts_of, types_of, type_named, names_of}
use Rattle.reo_rules.specs.Terms.{symbols_in}
use Rattle.reo_rules.specs.Scopes.{connectors_of, connector_names, parameter_names, node_names, type_names, scope_of}
use Rattle.reo_rules.specs.Touches.{Touch, touches_in, touches_of}
use Rattle.reo_rules.specs.Twice.{twice_among, twice_in_part, twice_in_type, twice_in_parameter, twice_in_item, twice_in, twice}
use Rattle.reo_rules.specs.Unknown.{missing, unknown_in_part, unknown_in_type, lacking, unknown_symbol, unknown_in_term, unknown_in_channel, unknown_in_item, unknown_in, unknown}
use Rattle.reo_rules.specs.Mistyped.{mistyped_in, mistyped}
use Rattle.reo_rules.specs.Ranges.{range_in_type, range_in_item, range_in, out_of_range}
use Rattle.reo_rules.specs.Arity.{arity_in_item, arity_in, arity}
use Rattle.reo_rules.specs.Direction.{direction_in_item, direction_in, direction}
use Rattle.reo_rules.specs.Dangling.{dangling_parameter, dangling_in_item, dangling_in, dangling}
use Rattle.reo_flat.specs.Sizes.{no_main, too_many}
use Rattle.reo_flat.specs.Refusals.{breaks, IsRefused}

-- The fault is no cycle.
abbrev pub NoCycle : FlatFault → Type 0
NoCycle (faults.Cycle node) = ⊥
NoCycle f = Unit {0}

abbrev AllNo : List FlatFault → Type 0
AllNo fs = AllByRecursion NoCycle fs

both : (xs ys : List FlatFault) → AllNo xs → AllNo ys → AllNo (xs ++ ys)
both [] ys a b = b
both (x ∷ xs) ys a b = (a.0, both xs ys a.1 b)

all_each : {X : Type 0} (f : List X → X → List FlatFault) → ((b : List X) (x : X) → AllNo (f b x)) → (b xs : List X) → AllNo (each_after f b xs)
all_each f each b [] = tt
all_each f each b (x ∷ xs) = both (f b x) _ (each b x) (all_each f each (b ++ x ∷ []) xs)

all_flat : {X : Type 0} (f : X → List FlatFault) → ((x : X) → AllNo (f x)) → (xs : List X) → AllNo (flat_map f xs)
all_flat f each [] = tt
all_flat f each (x ∷ xs) = both (f x) _ (each x) (all_flat f each xs)

all_where : (b : Bool) (f : FlatFault) → NoCycle f → AllNo (where_true b f)
all_where true f is = (is, tt)
all_where false f is = tt

twice_part : (line : ℕ) (s : Shape) → AllNo (twice_in_part line s)
twice_part line shape.Unit = tt
twice_part line shape.Bool = tt
twice_part line (shape.Int a b) = tt
twice_part line (shape.Sym names) = all_each _ (λ b name. all_where _ _ tt) [] names
twice_part line (shape.Text a) = tt
twice_part line (shape.Pair' m p) = tt
twice_part line (shape.Named a) = tt

twice_type : (t : TypeTerm) → AllNo (twice_in_type t)
twice_type t = all_flat (λ (part : TypeTerm). twice_in_part part.line part.shape) (λ part. twice_part part.line part.shape) (parts_of t.line t.shape)

twice_item : (ps : List Parameter) (before : List Item) (line : ℕ) (f : ItemForm) → AllNo (twice_in_item ps before line f)
twice_item ps before line (forms.Node name term) = both (twice_among (parameter_names ps ++ node_names before) line name) _ (all_where _ _ tt) (twice_type term)
twice_item ps before line (forms.Joined channel first second) = tt
twice_item ps before line (forms.Used name arguments) = tt

twice_each : (before : List Declaration) (d : Declaration) → AllNo (twice_in before d)
twice_each before (declarations.Named line name term) = both (twice_among (type_names before) line name) _ (all_where _ _ tt) (twice_type term)
twice_each before (declarations.Made c) =
    both (twice_among (connector_names before) c.line c.name) _ (all_where _ _ tt)
    (both (each_after twice_in_parameter [] c.parameters) _
    (all_each twice_in_parameter (λ b p. both (twice_among (parameter_names b) p.line p.name) _ (all_where _ _ tt) (twice_type p.term)) [] c.parameters)
    (all_each (λ b (i : Item). twice_in_item c.parameters b i.line i.form) (λ b i. twice_item c.parameters b i.line i.form) [] c.items))

unknown_part : (types : List (List ℕ)) (line : ℕ) (s : Shape) → AllNo (unknown_in_part types line s)
unknown_part types line shape.Unit = tt
unknown_part types line shape.Bool = tt
unknown_part types line (shape.Int a b) = tt
unknown_part types line (shape.Sym names) = tt
unknown_part types line (shape.Text a) = tt
unknown_part types line (shape.Pair' m p) = tt
unknown_part types line (shape.Named a) = all_where _ _ tt

unknown_type : (types : List (List ℕ)) (t : TypeTerm) → AllNo (unknown_in_type types t)
unknown_type types t = all_flat (λ (part : TypeTerm). unknown_in_part types part.line part.shape) (λ part. unknown_part types part.line part.shape) (parts_of t.line t.shape)

lacks : (k : Kindred) (line : ℕ) (symbol : List ℕ) → AllNo (lacking k line symbol)
lacks kindred.Unit line symbol = tt
lacks kindred.Bool line symbol = tt
lacks (kindred.Int a b) line symbol = tt
lacks (kindred.Sym names) line symbol = all_where _ _ tt
lacks (kindred.Text a) line symbol = tt
lacks (kindred.Pair' m p) line symbol = tt

one_of : (b : Bool) (xs ys : List FlatFault) → AllNo xs → AllNo ys → AllNo (cond b xs ys)
one_of true xs ys x y = x
one_of false xs ys x y = y

unknown_term : (types : List Typed) (t : Term) → AllNo (unknown_in_term types t)
unknown_term types t = all_flat (unknown_symbol types) (λ s. one_of (has_name (names_of types) s.type) _ _ (lacks (type_named types s.type) s.line s.symbol) (tt, tt)) (symbols_in t.line t.form)

unknown_channel : (types : List Typed) (c : Channel) → AllNo (unknown_in_channel types c)
unknown_channel types channels.Sync = tt
unknown_channel types channels.Lossy = tt
unknown_channel types channels.SyncDrain = tt
unknown_channel types channels.AsyncDrain = tt
unknown_channel types (channels.Fifo1 held) = tt
unknown_channel types (channels.Fifo size held) = tt
unknown_channel types (channels.Filter t) = unknown_term types t
unknown_channel types (channels.Map t) = unknown_term types t
unknown_channel types (channels.Shift size held) = tt
unknown_channel types (channels.Variable held) = tt
unknown_channel types (channels.Quota number) = tt

unknown_item : (types : List Typed) (connectors nodes : List (List ℕ)) (line : ℕ) (f : ItemForm) → AllNo (unknown_in_item types connectors nodes line f)
unknown_item types connectors nodes line (forms.Node name term) = unknown_type (names_of types) term
unknown_item types connectors nodes line (forms.Joined channel first second) =
    both (missing nodes line first ++ missing nodes line second) _ (both (missing nodes line first) _ (all_where _ _ tt) (all_where _ _ tt)) (unknown_channel types channel)
unknown_item types connectors nodes line (forms.Used name arguments) = both (missing connectors line name) _ (all_where _ _ tt) (all_flat (missing nodes line) (λ a. all_where _ _ tt) arguments)

unknown_each : (before : List Declaration) (d : Declaration) → AllNo (unknown_in before d)
unknown_each before (declarations.Named line name term) = unknown_type (names_of (types_of before)) term
unknown_each before (declarations.Made c) =
    both (flat_map (λ (p : Parameter). unknown_in_type (names_of (types_of before)) p.term) c.parameters) _
    (all_flat (λ (p : Parameter). unknown_in_type (names_of (types_of before)) p.term) (λ p. unknown_type (names_of (types_of before)) p.term) c.parameters)
    (all_each (λ b (i : Item). unknown_in_item (types_of before) (connector_names before) (parameter_names c.parameters ++ node_names b) i.line i.form) (λ b i. unknown_item (types_of before) (connector_names before) (parameter_names c.parameters ++ node_names b) i.line i.form) [] c.items)

mistyped_each : (before : List Declaration) (d : Declaration) → AllNo (mistyped_in before d)
mistyped_each before (declarations.Named line name term) = tt
mistyped_each before (declarations.Made c) = all_flat _ (λ i. all_where _ _ tt) c.items

range_type : (types : List Typed) (t : TypeTerm) → AllNo (range_in_type types t)
range_type types t = all_flat _ (λ part. all_where _ _ tt) (parts_of t.line t.shape)

range_item : (types scope : List Typed) (line : ℕ) (f : ItemForm) → AllNo (range_in_item types scope line f)
range_item types scope line (forms.Node name term) = range_type types term
range_item types scope line (forms.Joined channel first second) = all_where _ _ tt
range_item types scope line (forms.Used name arguments) = tt

range_each : (before : List Declaration) (d : Declaration) → AllNo (range_in before d)
range_each before (declarations.Named line name term) = range_type (types_of before) term
range_each before (declarations.Made c) =
    both (flat_map (λ (p : Parameter). range_in_type (types_of before) p.term) c.parameters) _
    (all_flat (λ (p : Parameter). range_in_type (types_of before) p.term) (λ p. range_type (types_of before) p.term) c.parameters)
    (all_flat (λ (i : Item). range_in_item (types_of before) (scope_of (types_of before) c) i.line i.form) (λ i. range_item (types_of before) (scope_of (types_of before) c) i.line i.form) c.items)

arity_item : (known : List Connector) (line : ℕ) (f : ItemForm) → AllNo (arity_in_item known line f)
arity_item known line (forms.Node name term) = tt
arity_item known line (forms.Joined channel first second) = tt
arity_item known line (forms.Used name arguments) = all_where _ _ tt

arity_each : (before : List Declaration) (d : Declaration) → AllNo (arity_in before d)
arity_each before (declarations.Named line name term) = tt
arity_each before (declarations.Made c) = all_flat (λ (i : Item). arity_in_item (connectors_of before) i.line i.form) (λ i. arity_item (connectors_of before) i.line i.form) c.items

direction_each : (before : List Declaration) (d : Declaration) → AllNo (direction_in before d)
direction_each before (declarations.Named line name term) = tt
direction_each before (declarations.Made c) =
    all_flat (λ (i : Item). direction_in_item (connectors_of before) c.parameters i.line i.form) (λ i. all_flat _ (λ t. all_where _ _ tt) (touches_in (connectors_of before) i.form)) c.items

dangling_item : (ts : List Touch) (line : ℕ) (f : ItemForm) → AllNo (dangling_in_item ts line f)
dangling_item ts line (forms.Node name term) = all_where _ _ tt
dangling_item ts line (forms.Joined channel first second) = tt
dangling_item ts line (forms.Used name arguments) = tt

dangling_each : (before : List Declaration) (d : Declaration) → AllNo (dangling_in before d)
dangling_each before (declarations.Named line name term) = tt
dangling_each before (declarations.Made c) =
    both (flat_map (dangling_parameter (touches_of (connectors_of before) c)) c.parameters) _
    (all_flat (dangling_parameter (touches_of (connectors_of before) c)) (λ p. all_where _ _ tt) c.parameters)
    (all_flat (λ (i : Item). dangling_in_item (touches_of (connectors_of before) c) i.line i.form) (λ i. dangling_item (touches_of (connectors_of before) c) i.line i.form) c.items)

no_cycles : (ds : List Declaration) → AllNo (breaks ds)
no_cycles ds =
    both _ (no_main ds ++ too_many ds)
    (both (twice ds) _ (all_each twice_in twice_each [] ds)
    (both (unknown ds) _ (all_each unknown_in unknown_each [] ds)
    (both (mistyped ds) _ (all_each mistyped_in mistyped_each [] ds)
    (both (out_of_range ds) _ (all_each range_in range_each [] ds)
    (both (arity ds) _ (all_each arity_in arity_each [] ds)
    (both (direction ds) (dangling ds) (all_each direction_in direction_each [] ds) (all_each dangling_in dangling_each [] ds)))))))
    (both (no_main ds) (too_many ds) (all_where _ _ tt) (all_where _ _ tt))

first_no : (fs : List FlatFault) (f : FlatFault) → AllNo fs → first_of fs ≡ Some f → NoCycle f
first_no [] f all is = absurd (cc)
first_no (x ∷ fs) f all is = let same : x ≡ f = cc in subst NoCycle same all.0

refused : (p : Program) (f : FlatFault) → NoCycle f → first_of (breaks p.declarations) ≡ Some f → IsRefused p f
refused p (faults.Twice line name) other is = is
refused p (faults.Unknown line name) other is = is
refused p (faults.Mistyped line) other is = is
refused p (faults.Range line) other is = is
refused p (faults.Arity line) other is = is
refused p (faults.Direction line node) other is = is
refused p (faults.Dangling line node) other is = is
refused p faults.NoMain other is = is
refused p faults.TooMany other is = is
refused p (faults.Cycle node) other is = absurd other
refused p faults.NoMemory other is = tt

-- The first break, or out of memory, is the refusal.
pub refused_by : (p : Program) (f : FlatFault) → IsFirst (breaks p.declarations) f → IsRefused p f
refused_by p f (inl memory) = subst (IsRefused p) (sym memory) tt
refused_by p f (inr first) = refused p f (first_no (breaks p.declarations) f (no_cycles p.declarations) first) first
