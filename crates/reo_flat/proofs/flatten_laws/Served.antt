-- Which nodes have an end.
use Rattle.std.proofs.Common.{arith, lit≤, ◌≡◌, ℕ, ◌*◌, ◌<◌, ◌≤◌, suc, List, [], ◌∷◌, ◌++◌, length, Bool, true, false, cond, ◌&&◌, ◌⊎◌, inl, inr, Option, Some, None, find, zip, refl, sym, subst, bytes_eq}
use Rattle.std.specs.Prelude.{unwrap_or}
use Rattle.std.specs.Option.{option_map_or}
use Rattle.std.specs.List.{AllByRecursion}
use Rattle.std.proofs.lemmas.List.{length-append}
use Rattle.std.proofs.lemmas.Slice.Eq.{bytes_eq-Decides}
use Rattle.reo_values.specs.declared.kindred.Kindred as kindred
use Rattle.reo_values.specs.declared.kindred.Kindred.{Kindred}
use Rattle.reo_exprs.specs.declared.expr.Expr.{Expr}
use Rattle.reo_exprs.specs.Typing.{type_of_expr}
use Rattle.reo_net_base.specs.Behaviour.{Behaviour}
use Rattle.reo_net_base.specs.Net.{end_of}
use Rattle.reo_kinds.specs.Kinds.{behaviour_of}
use Rattle.reo_trees.specs.declared.items.Channel.{Channel}
use Rattle.reo_trees.specs.declared.items.Channel.TheVariants as channels
use Rattle.reo_trees.specs.declared.programs.Parameter.{Parameter}
use Rattle.reo_trees.specs.declared.programs.Connector.{Connector}
use Rattle.reo_rules.specs.Lists.{where_true}
use Rattle.reo_rules.specs.Types.{Typed}
use Rattle.reo_rules.specs.Terms.{expr_of}
use Rattle.reo_rules.specs.Scopes.{connector_named, parameters_named}
use Rattle.reo_flat.specs.ChannelKinds.{channel_kind, filter_with, filter_kind, map_with, map_kind}
use Rattle.reo_flat.specs.Unfolding.{Placed, Meaning, no_meaning, meaning_named}
use Rattle.reo_rules.specs.Touches.{bool_eq}
use Rattle.reo_flat.specs.Ends.{ends_in, ends_from}
use Rattle.reo_rules.specs.Channels.{is_drain}
use Rattle.reo_flat.proofs.flatten_laws.Within.{In}
use Rattle.reo_flat.proofs.flatten_laws.TwoEnds.{IsNarrow}

-- What is placed has an end at a node that takes in, or one that gives.
abbrev pub HasIn : Behaviour → Bool → List ℕ → ℕ → List (List ℕ) → Type 0
HasIn b takes node x [] = ⊥
HasIn b takes node x (n ∷ ns) = ((node ≡ n) × (b.takes_in x ≡ takes)) ⊎ HasIn b takes node (suc x) ns

abbrev pub HasEnd : Bool → List ℕ → List Placed → Type 0
HasEnd takes node [] = ⊥
HasEnd takes node (p ∷ ps) = HasIn (behaviour_of p.kind) takes node 0 p.nodes ⊎ HasEnd takes node ps

same_bool : (v t : Bool) → v ≡ t → bool_eq v t ≡ true
same_bool true true is = refl
same_bool true false is = absurd (cc)
same_bool false true is = absurd (cc)
same_bool false false is = refl

longer : {X : Type 0} (xs ys : List X) → 0 < length ys → 0 < length (xs ++ ys)
longer xs ys some = let l = length-append xs ys in omega arith

first_some : {X : Type 0} (xs ys : List X) → 0 < length xs → 0 < length (xs ++ ys)
first_some xs ys some = let l = length-append xs ys in omega arith

some_in : (b : Behaviour) (takes : Bool) (node : List ℕ) (i x : ℕ) (ns : List (List ℕ)) → HasIn b takes node x ns → 0 < length (ends_in b takes node i x ns)
some_in b takes node i x [] none = absurd none
some_in b takes node i x (n ∷ ns) (inl here) =
    first_some (where_true (bytes_eq node n && bool_eq (b.takes_in x) takes) (end_of i x)) (ends_in b takes node i (suc x) ns)
    (holding (bytes_eq node n) (bool_eq (b.takes_in x) takes) ((bytes_eq-Decides node n).1 here.0) (same_bool (b.takes_in x) takes here.1)) where
      holding : (p q : Bool) → p ≡ true → q ≡ true → 0 < length (where_true (p && q) (end_of i x))
      holding true true a b' = omega arith
      holding true false a b' = absurd (cc)
      holding false q a b' = absurd (cc)
some_in b takes node i x (n ∷ ns) (inr rest) = longer (where_true (bytes_eq node n && bool_eq (b.takes_in x) takes) (end_of i x)) (ends_in b takes node i (suc x) ns) (some_in b takes node i (suc x) ns rest)

pub some_end : (takes : Bool) (node : List ℕ) (i : ℕ) (ps : List Placed) → HasEnd takes node ps → 0 < length (ends_from takes node i ps)
some_end takes node i [] none = absurd none
some_end takes node i (p ∷ ps) (inl here) = first_some (ends_in (behaviour_of p.kind) takes node i 0 p.nodes) (ends_from takes node (suc i) ps) (some_in (behaviour_of p.kind) takes node i 0 p.nodes here)
some_end takes node i (p ∷ ps) (inr rest) = longer (ends_in (behaviour_of p.kind) takes node i 0 p.nodes) (ends_from takes node (suc i) ps) (some_end takes node (suc i) ps rest)

few_in : (b : Behaviour) (takes : Bool) (node : List ℕ) (i x : ℕ) (ns : List (List ℕ)) → length (ends_in b takes node i x ns) ≤ length ns
few_in b takes node i x [] = lit≤ tt
few_in b takes node i x (n ∷ ns) =
    let rest = few_in b takes node i (suc x) ns in
    let l = length-append (where_true (bytes_eq node n && bool_eq (b.takes_in x) takes) (end_of i x)) (ends_in b takes node i (suc x) ns) in
    let one = at_most (bytes_eq node n && bool_eq (b.takes_in x) takes) in
    omega arith where
      at_most : (t : Bool) → length (where_true t (end_of i x)) ≤ 1
      at_most true = lit≤ tt
      at_most false = lit≤ tt

pub few_ends : (takes : Bool) (node : List ℕ) (i : ℕ) (ps : List Placed) → AllByRecursion IsNarrow ps → length (ends_from takes node i ps) ≤ 2 * length ps
few_ends takes node i [] narrow = lit≤ tt
few_ends takes node i (p ∷ ps) narrow =
    let rest = few_ends takes node (suc i) ps narrow.1 in
    let here = few_in (behaviour_of p.kind) takes node i 0 p.nodes in
    let two = narrow.0 in
    let l = length-append (ends_in (behaviour_of p.kind) takes node i 0 p.nodes) (ends_from takes node (suc i) ps) in
    omega arith

pub end_left : (takes : Bool) (node : List ℕ) (ps qs : List Placed) → HasEnd takes node ps → HasEnd takes node (ps ++ qs)
end_left takes node [] qs none = absurd none
end_left takes node (p ∷ ps) qs (inl here) = inl here
end_left takes node (p ∷ ps) qs (inr rest) = inr (end_left takes node ps qs rest)

pub end_right : (takes : Bool) (node : List ℕ) (ps qs : List Placed) → HasEnd takes node qs → HasEnd takes node (ps ++ qs)
end_right takes node [] qs there = there
end_right takes node (p ∷ ps) qs there = inr (end_right takes node ps qs there)

-- A channel's first end takes in; its second does for drains.
first_filter : (e : Expr) (of : Kindred) (t : Option Kindred) (is : type_of_expr e of ≡ t) → ((behaviour_of (filter_with e of t is)).takes_in 0 ≡ true) × ((behaviour_of (filter_with e of t is)).takes_in 1 ≡ false)
first_filter e of (Some kindred.Bool) is = (refl, refl)
first_filter e of (Some kindred.Unit) is = (refl, refl)
first_filter e of (Some (kindred.Int a b)) is = (refl, refl)
first_filter e of (Some (kindred.Sym names)) is = (refl, refl)
first_filter e of (Some (kindred.Text n)) is = (refl, refl)
first_filter e of (Some (kindred.Pair' n p)) is = (refl, refl)
first_filter e of None is = (refl, refl)

first_map : (e : Expr) (of : Kindred) (t : Option Kindred) (is : type_of_expr e of ≡ t) → ((behaviour_of (map_with e of t is)).takes_in 0 ≡ true) × ((behaviour_of (map_with e of t is)).takes_in 1 ≡ false)
first_map e of (Some t) is = (refl, refl)
first_map e of None is = (refl, refl)

filter_ways : (of : Kindred) (e : Option Expr) → ((behaviour_of (filter_kind of e)).takes_in 0 ≡ true) × ((behaviour_of (filter_kind of e)).takes_in 1 ≡ false)
filter_ways of (Some e) = first_filter e of (type_of_expr e of) refl
filter_ways of None = (refl, refl)

map_ways : (of : Kindred) (e : Option Expr) → ((behaviour_of (map_kind of e)).takes_in 0 ≡ true) × ((behaviour_of (map_kind of e)).takes_in 1 ≡ false)
map_ways of (Some e) = first_map e of (type_of_expr e of) refl
map_ways of None = (refl, refl)

pub channel_ways : (types : List Typed) (of : Kindred) (c : Channel) → ((behaviour_of (channel_kind types of c)).takes_in 0 ≡ true) × ((behaviour_of (channel_kind types of c)).takes_in 1 ≡ is_drain c)
channel_ways types of channels.Sync = (refl, refl)
channel_ways types of channels.Lossy = (refl, refl)
channel_ways types of channels.SyncDrain = (refl, refl)
channel_ways types of channels.AsyncDrain = (refl, refl)
channel_ways types of (channels.Fifo1 held) = (refl, refl)
channel_ways types of (channels.Fifo n held) = (refl, refl)
channel_ways types of (channels.Filter t) = filter_ways of (expr_of types t.form)
channel_ways types of (channels.Map t) = map_ways of (expr_of types t.form)
channel_ways types of (channels.Shift n held) = (refl, refl)
channel_ways types of (channels.Variable held) = (refl, refl)
channel_ways types of (channels.Quota n) = (refl, refl)

-- Each argument has an end of its parameter's way, and each node of its own both.
pub record Serves (m : Meaning) (ps : List Parameter) (path : List ℕ) (arguments : List (List ℕ)) : Type 0 where
  pub given : AllByRecursion (λ (q : List ℕ × Parameter). HasEnd q.1.inward q.0 (m.channels path arguments)) (zip arguments ps)
  pub own : (n : List ℕ) → In (m.nodes path) n → HasEnd true n (m.channels path arguments) × HasEnd false n (m.channels path arguments)

abbrev pub IsServing : Meaning → List Parameter → Type 0
IsServing m ps = (path : List ℕ) (arguments : List (List ℕ)) → length arguments ≡ length ps → Serves m ps path arguments

abbrev pub AreServing : List Connector → List Meaning → Type 0
AreServing [] [] = Unit {0}
AreServing (c ∷ cs) (m ∷ ms) = (m.name ≡ c.name) × IsServing m c.parameters × AreServing cs ms
AreServing _ _ = ⊥

nothing_served : (arguments : List (List ℕ)) (path : List ℕ) → length arguments ≡ 0 → Serves no_meaning [] path arguments
nothing_served [] path none = record { given = tt; own = λ n there. absurd there }
nothing_served (a ∷ arguments) path none = absurd (omega arith)

pub serving_named : (cs : List Connector) (ms : List Meaning) → AreServing cs ms → (name : List ℕ) → IsServing (meaning_named ms name) (parameters_named cs name)
serving_named [] [] serving name = λ path arguments same. nothing_served arguments path same
serving_named [] (m ∷ ms) serving name = absurd serving
serving_named (c ∷ cs) [] serving name = absurd serving
serving_named (c ∷ cs) (m ∷ ms) serving name =
    subst (λ q. IsServing (unwrap_or (cond (bytes_eq name q) (Some m) (find (λ (y : Meaning). bytes_eq name y.name) ms)) no_meaning) (parameters_named (c ∷ cs) name)) (sym serving.0)
    (step (bytes_eq name c.name) (serving_named cs ms serving.2 name)) where
      step : (b : Bool) → IsServing (meaning_named ms name) (parameters_named cs name) → IsServing (unwrap_or (cond b (Some m) (find (λ (y : Meaning). bytes_eq name y.name) ms)) no_meaning) (option_map_or (λ (q : Connector). q.parameters) (cond b (Some c) (connector_named cs name)) [])
      step true rest = serving.1
      step false rest = rest
