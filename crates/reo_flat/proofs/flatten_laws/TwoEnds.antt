-- What is placed fits its nodes, and which nodes stand once.
use Rattle.std.proofs.Common.{arith, lit≤, ◌≤◌, ◌≡◌, ℕ, ◌<◌, suc, List, [], ◌∷◌, ◌++◌, length, get_or, map, Bool, true, false, cond, Option, Some, None, find, inl, inr, refl, sym, bytes_eq, codes}
use Rattle.std.specs.Prelude.{unwrap_or}
use Rattle.std.specs.List.{AllByRecursion}
use Rattle.reo_values.specs.Valid.{AreDistinct}
use Rattle.reo_values.specs.declared.kindred.Kindred as kindred
use Rattle.reo_values.specs.declared.kindred.Kindred.{Kindred}
use Rattle.reo_exprs.specs.declared.expr.Expr.{Expr}
use Rattle.reo_exprs.specs.Typing.{type_of_expr}
use Rattle.reo_net_base.specs.declared.port.Port.{Port}
use Rattle.reo_net_base.specs.declared.port.Way.{Way}
use Rattle.reo_net_base.specs.declared.port.Way.TheVariants.{In as InWay, Out}
use Rattle.reo_kinds.specs.Kinds.{behaviour_of}
use Rattle.reo_trees.specs.declared.items.Item.{Item}
use Rattle.reo_trees.specs.declared.items.ItemForm.{ItemForm}
use Rattle.reo_trees.specs.declared.items.ItemForm.TheVariants as forms
use Rattle.reo_trees.specs.declared.items.Channel.{Channel}
use Rattle.reo_trees.specs.declared.items.Channel.TheVariants as channels
use Rattle.reo_trees.specs.declared.programs.Declaration.{Declaration}
use Rattle.reo_trees.specs.declared.programs.Declaration.TheVariants as declarations
use Rattle.reo_rules.specs.Lists.{each_after}
use Rattle.reo_rules.specs.Types.{Typed}
use Rattle.reo_rules.specs.Terms.{expr_of}
use Rattle.reo_flat.specs.ChannelKinds.{channel_kind, filter_with, filter_kind, map_with, map_kind}
use Rattle.reo_flat.specs.Unfolding.{Placed, Meaning, no_meaning, meaning_named, meaning_of, meanings_after, channels_in}
use Rattle.reo_flat.specs.Flat.{port_kind, port_placed, ports_of, placed_of}
use Rattle.reo_flat.proofs.flatten_laws.Within.{In}
use Rattle.reo_flat.proofs.flatten_laws.Once.{Once}
use Rattle.reo_flat.proofs.flatten_laws.AllEnds.{Fits}
use Rattle.reo_flat.proofs.flatten_laws.Each.{both}

index_of : (xs : List (List ℕ)) (n : List ℕ) → In xs n → (i : ℕ) × (i < length xs) × (get_or xs i [] ≡ n)
index_of [] n none = absurd none
index_of (x ∷ xs) n (inl is) = (0, omega arith, sym is)
index_of (x ∷ xs) n (inr rest) = let at = index_of xs n rest in (suc at.0, (let below = at.1 in omega arith), at.2)

pub once_of : (xs : List (List ℕ)) → AreDistinct xs → Once xs
once_of [] distinct = tt
once_of (x ∷ xs) distinct = (
  (λ there.
      let at = index_of xs x there in
      let below = at.1 in
      let same = distinct 0 (suc at.0) (omega arith) (omega arith) (sym at.2) in
      absurd (omega arith)),
  once_of xs (λ i j hi hj e. let same = distinct (suc i) (suc j) (omega arith) (omega arith) e in omega arith),
)

two_filter : (e : Expr) (of : Kindred) (t : Option Kindred) (is : type_of_expr e of ≡ t) → (behaviour_of (filter_with e of t is)).ends ≡ 2
two_filter e of (Some kindred.Bool) is = refl
two_filter e of (Some kindred.Unit) is = refl
two_filter e of (Some (kindred.Int a b)) is = refl
two_filter e of (Some (kindred.Sym names)) is = refl
two_filter e of (Some (kindred.Text n)) is = refl
two_filter e of (Some (kindred.Pair' n p)) is = refl
two_filter e of None is = refl

two_map : (e : Expr) (of : Kindred) (t : Option Kindred) (is : type_of_expr e of ≡ t) → (behaviour_of (map_with e of t is)).ends ≡ 2
two_map e of (Some t) is = refl
two_map e of None is = refl

filter_two : (of : Kindred) (e : Option Expr) → (behaviour_of (filter_kind of e)).ends ≡ 2
filter_two of (Some e) = two_filter e of (type_of_expr e of) refl
filter_two of None = refl

map_two : (of : Kindred) (e : Option Expr) → (behaviour_of (map_kind of e)).ends ≡ 2
map_two of (Some e) = two_map e of (type_of_expr e of) refl
map_two of None = refl

-- A channel has two ends.
two_ends : (types : List Typed) (of : Kindred) (c : Channel) → (behaviour_of (channel_kind types of c)).ends ≡ 2
two_ends types of channels.Sync = refl
two_ends types of channels.Lossy = refl
two_ends types of channels.SyncDrain = refl
two_ends types of channels.AsyncDrain = refl
two_ends types of (channels.Fifo1 held) = refl
two_ends types of (channels.Fifo n held) = refl
two_ends types of (channels.Filter t) = filter_two of (expr_of types t.form)
two_ends types of (channels.Map t) = map_two of (expr_of types t.form)
two_ends types of (channels.Shift n held) = refl
two_ends types of (channels.Variable held) = refl
two_ends types of (channels.Quota n) = refl

after : {X Y : Type 0} (P : Y → Type 0) (f : List X → X → List Y) → ((before : List X) (x : X) → AllByRecursion P (f before x)) → (before xs : List X) → AllByRecursion P (each_after f before xs)
after P f each before [] = tt
after P f each before (x ∷ xs) = both P (f before x) (each_after f (before ++ x ∷ []) xs) (each before x) (after P f each (before ++ x ∷ []) xs)

-- What holds of each port and each channel holds of all that is placed.
module _ (P : Placed → Type 0) (of_port : (p : Port) → P (port_placed p)) (of_channel : (types : List Typed) (of : Kindred) (c : Channel) (x y : List ℕ) → P (record { kind = channel_kind types of c; nodes = x ∷ y ∷ [] })) where
  abbrev HoldsAll : Meaning → Type 0
  HoldsAll m = (path : List ℕ) (arguments : List (List ℕ)) → AllByRecursion P (m.channels path arguments)

  named : (known : List Meaning) → AllByRecursion HoldsAll known → (name : List ℕ) → HoldsAll (meaning_named known name)
  named [] all name = λ path arguments. tt
  named (m ∷ ms) all name = step (bytes_eq name m.name) (named ms all.1 name) where
    step : (b : Bool) → HoldsAll (meaning_named ms name) → HoldsAll (unwrap_or (cond b (Some m) (find (λ (y : Meaning). bytes_eq name y.name) ms)) no_meaning)
    step true rest = all.0
    step false rest = rest

  one : (known : List Meaning) → AllByRecursion HoldsAll known → (types scope : List Typed) (path : List ℕ) (flat : List ℕ → List ℕ) (before : List Item) (f : ItemForm) → AllByRecursion P (channels_in known types scope path flat before f)
  one known all types scope path flat before (forms.Node name term) = tt
  one known all types scope path flat before (forms.Joined channel first second) = (of_channel types _ channel (flat first) (flat second), tt)
  one known all types scope path flat before (forms.Used name arguments) = named known all name _ (map flat arguments)

  all_hold : (known : List Meaning) (types : List Typed) (ds : List Declaration) → AllByRecursion HoldsAll known → AllByRecursion HoldsAll (meanings_after known types ds)
  all_hold known types [] all = all
  all_hold known types (declarations.Named line name term ∷ ds) all = all_hold known _ ds all
  all_hold known types (declarations.Made c ∷ ds) all =
      all_hold (known ++ meaning_of known types c ∷ []) types ds
      (both HoldsAll known (meaning_of known types c ∷ []) all ((λ path arguments. after P _ (λ before i. one known all types _ path _ before i.form) [] c.items), tt))

  ports_hold : (ps : List Port) → AllByRecursion P (map port_placed ps)
  ports_hold [] = tt
  ports_hold (p ∷ ps) = (of_port p, ports_hold ps)

  pub placed_hold : (ds : List Declaration) → AllByRecursion P (placed_of ds)
  placed_hold ds = both P (map port_placed (ports_of ds)) _ (ports_hold (ports_of ds)) (named _ (all_hold [] [] ds tt) (codes "main") [] _)

port_end : (w : Way) (k : Kindred) → (behaviour_of (port_kind w k)).ends ≡ 1
port_end InWay k = refl
port_end Out k = refl

-- All that is placed has as many nodes as ends, and at most two.
pub placed_fits : (ds : List Declaration) → AllByRecursion Fits (placed_of ds)
placed_fits ds = placed_hold Fits (λ p. sym (port_end p.way p.kindred)) (λ types of c x y. sym (two_ends types of c)) ds

abbrev pub IsNarrow : Placed → Type 0
IsNarrow p = length p.nodes ≤ 2

pub placed_narrow : (ds : List Declaration) → AllByRecursion IsNarrow (placed_of ds)
placed_narrow ds = placed_hold IsNarrow (λ p. lit≤ tt) (λ types of c x y. lit≤ tt) ds
