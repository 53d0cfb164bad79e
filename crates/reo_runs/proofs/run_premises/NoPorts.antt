-- Primitives that are no ports.
use Rattle.std.proofs.Common.{◌≡◌, ℕ, List, [], ◌∷◌, ◌++◌, length, Bool, true, false, nat_le, Option, Some, None, refl}
use Rattle.std.specs.List.{AllByRecursion, flat_map}
use Rattle.reo_values.specs.declared.kindred.Kindred as kindred
use Rattle.reo_values.specs.declared.kindred.Kindred.{Kindred}
use Rattle.reo_exprs.specs.declared.expr.Expr.{Expr}
use Rattle.reo_exprs.specs.Typing.{type_of_expr}
use Rattle.reo_net_base.specs.PortState.{no_port_state}
use Rattle.reo_kinds.specs.declared.kind.Kind.{Kind}
use Rattle.reo_kinds.specs.declared.kind.Kind.TheVariants as primitives
use Rattle.reo_net_base.specs.declared.branches.Branches.{Branches}
use Rattle.reo_kinds.specs.Kinds.{port_state_of}
use Rattle.reo_trees.specs.declared.items.Channel.{Channel}
use Rattle.reo_trees.specs.declared.items.Channel.TheVariants as channels
use Rattle.reo_rules.specs.Lists.{where_true}
use Rattle.reo_rules.specs.Types.{Typed}
use Rattle.reo_rules.specs.Terms.{expr_of}
use Rattle.reo_flat.specs.ChannelKinds.{channel_kind, filter_with, filter_kind, map_with, map_kind}
use Rattle.reo_flat.specs.Unfolding.{Placed}
use Rattle.reo_flat.specs.Ends.{incoming, outgoing}
use Rattle.reo_flat.specs.Joints.{is_many}
use Rattle.reo_flat.specs.Flat.{branched, branched_with, own_kinds}
use Rattle.reo_runs.proofs.Each.{both}

abbrev pub IsNoPort : Kind → Type 0
IsNoPort k = port_state_of k ≡ no_port_state

of_filter : (e : Expr) (of : Kindred) (t : Option Kindred) (is : type_of_expr e of ≡ t) → IsNoPort (filter_with e of t is)
of_filter e of (Some kindred.Bool) is = refl
of_filter e of (Some kindred.Unit) is = refl
of_filter e of (Some (kindred.Int a b)) is = refl
of_filter e of (Some (kindred.Sym names)) is = refl
of_filter e of (Some (kindred.Text n)) is = refl
of_filter e of (Some (kindred.Pair' n p)) is = refl
of_filter e of None is = refl

of_map : (e : Expr) (of : Kindred) (t : Option Kindred) (is : type_of_expr e of ≡ t) → IsNoPort (map_with e of t is)
of_map e of (Some t) is = refl
of_map e of None is = refl

of_a_filter : (of : Kindred) (e : Option Expr) → IsNoPort (filter_kind of e)
of_a_filter of (Some e) = of_filter e of (type_of_expr e of) refl
of_a_filter of None = refl

of_a_map : (of : Kindred) (e : Option Expr) → IsNoPort (map_kind of e)
of_a_map of (Some e) = of_map e of (type_of_expr e of) refl
of_a_map of None = refl

-- No channel is a port.
pub of_channel : (types : List Typed) (of : Kindred) (c : Channel) → IsNoPort (channel_kind types of c)
of_channel types of channels.Sync = refl
of_channel types of channels.Lossy = refl
of_channel types of channels.SyncDrain = refl
of_channel types of channels.AsyncDrain = refl
of_channel types of (channels.Fifo1 held) = refl
of_channel types of (channels.Fifo n held) = refl
of_channel types of (channels.Filter t) = of_a_filter of (expr_of types t.form)
of_channel types of (channels.Map t) = of_a_map of (expr_of types t.form)
of_channel types of (channels.Shift n held) = refl
of_channel types of (channels.Variable held) = refl
of_channel types of (channels.Quota n) = refl

of_branches : (made : Branches → Kind) → ((x : Branches) → IsNoPort (made x)) → (n : ℕ) (a b : Bool) (p : nat_le 2 n ≡ a) (q : nat_le n 8192 ≡ b) → IsNoPort (branched_with made n a b p q)
of_branches made each n true true p q = each _
of_branches made each n true false p q = refl
of_branches made each n false true p q = refl
of_branches made each n false false p q = refl

where_it_is : (b : Bool) (k : Kind) → IsNoPort k → AllByRecursion IsNoPort (where_true b k)
where_it_is true k is = (is, tt)
where_it_is false k is = tt

branches : (b : Bool) (made : Branches → Kind) → ((x : Branches) → IsNoPort (made x)) → (n : ℕ) → AllByRecursion IsNoPort (where_true b (branched made n))
branches b made each n = where_it_is b (branched made n) (of_branches made each n (nat_le 2 n) (nat_le n 8192) refl refl)

of_node : (some others : Bool) (n m : ℕ) → AllByRecursion IsNoPort (where_true some (branched primitives.Merger n) ++ where_true others (branched primitives.Replicator m))
of_node some others n m =
    both IsNoPort (where_true some (branched primitives.Merger n)) (where_true others (branched primitives.Replicator m))
    (branches some primitives.Merger (λ x. refl) n) (branches others primitives.Replicator (λ x. refl) m)

-- Nor is what nodes have of their own.
pub of_nodes : (placed : List Placed) (nodes : List (List ℕ)) → AllByRecursion IsNoPort (flat_map (own_kinds placed) nodes)
of_nodes placed [] = tt
of_nodes placed (n ∷ ns) =
    let here = of_node (is_many (incoming placed n)) (is_many (outgoing placed n)) (length (incoming placed n)) (length (outgoing placed n)) in
    both IsNoPort (own_kinds placed n) (flat_map (own_kinds placed) ns) here (of_nodes placed ns)
