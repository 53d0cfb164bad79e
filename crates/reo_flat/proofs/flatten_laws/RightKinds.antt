-- Channels become the primitives that they are, and fit the types of their nodes.
use Rattle.std.proofs.Common.{arith, lit≤, ◌≡◌, ◌∙◌, ℕ, ◌≤◌, suc, Bool, true, false, not, ◌&&◌, ◌||◌, Option, Some, None, List, [], ◌∷◌, length, refl, sym, ap, subst}
use Rattle.std.specs.Prelude.{is_none, option_map}
use Rattle.std.specs.List.{list_any}
use Rattle.std.proofs.lemmas.Bool.{leb-false, not-false, or_parts}
use Rattle.reo_values.specs.declared.value.Value.{Value}
use Rattle.reo_values.specs.declared.kindred.Kindred as kindred
use Rattle.reo_values.specs.declared.kindred.Kindred.{Kindred}
use Rattle.reo_values.specs.declared.kindred.Kindred.TheVariants as kinds
use Rattle.reo_values.specs.Kind.{IsIn}
use Rattle.reo_exprs.specs.declared.expr.Expr.{Expr}
use Rattle.reo_exprs.specs.Kinds.{kind_of, LiesInside}
use Rattle.reo_exprs.specs.Typing.{kind_of_expr, type_of_expr}
use Rattle.reo_exprs.specs.Valued.{value_of_expr}
use Rattle.reo_exprs.specs.WellFormed.{IsWellFormed}
use Rattle.reo_exprs.proofs.InType.{value_in_type}
use Rattle.reo_exprs.proofs.KindOfType.{kind_of_typed}
use Rattle.reo_exprs.proofs.Lies.{item_inside}
use Rattle.reo_buffers.specs.Stored.{stored, IsBuffer}
use Rattle.reo_kinds.specs.declared.kind.Kind.{Kind}
use Rattle.reo_kinds.specs.declared.kind.Kind.TheVariants as primitives
use Rattle.reo_kinds.specs.declared.kind.FilterRule.{FilterRule}
use Rattle.reo_kinds.specs.declared.kind.MapRule.{MapRule}
use Rattle.reo_trees.specs.declared.literals.Literal.{Literal}
use Rattle.reo_trees.specs.declared.items.Channel.{Channel}
use Rattle.reo_trees.specs.declared.items.Channel.TheVariants as channels
use Rattle.reo_rules.specs.literals.Items.{item_of, items_of}
use Rattle.reo_rules.specs.Types.{Typed, is_same}
use Rattle.reo_rules.specs.Terms.{expr_of}
use Rattle.reo_rules.specs.Channels.{keeps_type, literals_of}
use Rattle.reo_rules.specs.Mistyped.{is_kind, has_kind, misfits, is_channel_mistyped}
use Rattle.reo_rules.specs.Ranges.{lies_in, leaves, leaves_by_filter, leaves_by_map}
use Rattle.reo_rules.proofs.Same.{same_types, inside_told}
use Rattle.reo_flat.specs.ChannelKinds.{filter_with, filter_kind, map_with, map_kind, channel_kind}
use Rattle.reo_flat.specs.flatten_laws.Channels.{IsFor}
use Rattle.reo_flat.specs.flatten_laws.Fitting.{Fits}
use Rattle.reo_flat.proofs.flatten_laws.Each.{each_of}
use Rattle.reo_flat.proofs.flatten_laws.Alike.{truth_kind}
use Rattle.reo_flat.proofs.flatten_laws.HeldItems.{item_in, items_all, items_in, few_items}

three : (x y z : Bool) → (x || y || z) ≡ false → (x ≡ false) × (y ≡ false) × (z ≡ false)
three true y z h = absurd (cc)
three false true z h = absurd (cc)
three false false z h = (refl, refl, h)

pub some_of : {X : Type 0} (o : Option X) → is_none o ≡ false → (x : X) × (o ≡ Some x)
some_of None h = absurd (cc)
some_of (Some x) h = (x, refl)

-- The expression has this kind.
kind_told : (want : Kindred) (o : Option Kindred) (k : Kindred) → is_kind want o ≡ true → o ≡ Some k → k ≡ want
kind_told want None k h is = absurd (cc)
kind_told want (Some j) k h is = same_types k want (subst (λ (l : Option Kindred). is_kind want l ≡ true) is h)

filter_is : (e : Expr) (of : Kindred) (t : Option Kindred) (is : type_of_expr e of ≡ t) → t ≡ Some kinds.Bool → (rule : FilterRule) × (filter_with e of t is ≡ primitives.Filter rule) × (rule.of ≡ of) × (rule.expr ≡ e)
filter_is e of (Some kindred.Bool) is h = (record { of = of; expr = e; typed = is }, refl, refl, refl)
filter_is e of (Some kindred.Unit) is h = absurd (cc)
filter_is e of (Some (kindred.Int a b)) is h = absurd (cc)
filter_is e of (Some (kindred.Sym names)) is h = absurd (cc)
filter_is e of (Some (kindred.Text n)) is h = absurd (cc)
filter_is e of (Some (kindred.Pair' n p)) is h = absurd (cc)
filter_is e of None is h = absurd (cc)

map_is : (e : Expr) (of : Kindred) (t : Option Kindred) (is : type_of_expr e of ≡ t) → is_none t ≡ false → (rule : MapRule) × (map_with e of t is ≡ primitives.Map rule) × (rule.of ≡ of) × (rule.expr ≡ e)
map_is e of (Some t) is h = (record { of = of; expr = e; typed = (t, is) }, refl, refl, refl)
map_is e of None is h = absurd (cc)

-- A filter, whose expression is a predicate.
filter_rule : (a : Kindred) (o : Option Expr) → not (has_kind a kinds.Bool o) ≡ false → leaves_by_filter a o ≡ false
    → (rule : FilterRule) × (filter_kind a o ≡ primitives.Filter rule) × (rule.of ≡ a) × (o ≡ Some rule.expr)
filter_rule a None kind bound = absurd (cc)
filter_rule a (Some e) kind bound =
    let typed = some_of (type_of_expr e a) bound in
    let same = kind_told kinds.Bool (kind_of_expr e a) (kind_of typed.0) (not-false _ kind) (kind_of_typed e a typed.0 typed.1) in
    let rule = filter_is e a (type_of_expr e a) refl (typed.1 ∙ ap (λ (t : Kindred). Some t) (truth_kind typed.0 same)) in
    (rule.0, rule.1, rule.2, ap (λ (f : Expr). Some f) (sym rule.3))

lies_told : (b : Kindred) (o : Option Kindred) → not (lies_in b o) ≡ false → (t : Kindred) × (o ≡ Some t) × LiesInside t b
lies_told b None h = absurd (cc)
lies_told b (Some t) h = (t, refl, (inside_told t b).0 (not-false _ h))

not_none : (o : Option Kindred) (t : Kindred) → o ≡ Some t → is_none o ≡ false
not_none None t h = absurd (cc)
not_none (Some k) t h = refl

-- A map, whose type lies inside the second node's.
map_rule : (a b : Kindred) (o : Option Expr) → not (has_kind a (kind_of b) o) ≡ false → leaves_by_map a b o ≡ false
    → (rule : MapRule) × (map_kind a o ≡ primitives.Map rule) × (rule.of ≡ a) × (o ≡ Some rule.expr) × ((t : Kindred) × (type_of_expr rule.expr a ≡ Some t) × LiesInside t b)
map_rule a b None kind bound = absurd (cc)
map_rule a b (Some e) kind bound =
    let typed = lies_told b (type_of_expr e a) bound in
    let rule = map_is e a (type_of_expr e a) refl (not_none (type_of_expr e a) typed.0 typed.1) in
    (rule.0, rule.1, rule.2, ap (λ (f : Expr). Some f) (sym rule.3), (typed.0, ap (λ (f : Expr). type_of_expr f a) rule.3 ∙ typed.1, typed.2))

-- What an item's channel says where types fit: its nodes' types, its literals, its expression.
parts_told : (types : List Typed) (a b : Kindred) (c : Channel) → is_channel_mistyped types a b c ≡ false
    → ((keeps_type c && not (is_same a b)) ≡ false) × (list_any (λ (l : Literal). is_none (item_of a l)) (literals_of c) ≡ false) × (misfits types a b c ≡ false)
parts_told types a b c h = three (keeps_type c && not (is_same a b)) (list_any (λ (l : Literal). is_none (item_of a l)) (literals_of c)) (misfits types a b c) h

item_there : (o : Option Value) → is_none o ≡ false → option_map (λ v. Some v) o ≡ Some o
item_there None h = absurd (cc)
item_there (Some v) h = refl

pub channel_is : (types : List Typed) (a b : Kindred) (c : Channel) → is_channel_mistyped types a b c ≡ false → leaves types a b c ≡ false → IsFor types a c (channel_kind types a c)
channel_is types a b channels.Sync typed bound = tt
channel_is types a b channels.Lossy typed bound = tt
channel_is types a b channels.SyncDrain typed bound = tt
channel_is types a b channels.AsyncDrain typed bound = tt
channel_is types a b (channels.Fifo1 held) typed bound = (refl, items_all a (literals_of (channels.Fifo1 held)) (parts_told types a b (channels.Fifo1 held) typed).1)
channel_is types a b (channels.Fifo size held) typed bound = (refl, items_all a held (parts_told types a b (channels.Fifo size held) typed).1)
channel_is types a b (channels.Filter t) typed bound =
    let rule = filter_rule a (expr_of types t.form) (parts_told types a b (channels.Filter t) typed).2 bound in
    subst (λ (k : Kind). IsFor types a (channels.Filter t) k) (sym rule.1) (rule.2, rule.3)
channel_is types a b (channels.Map t) typed bound =
    let rule = map_rule a b (expr_of types t.form) (parts_told types a b (channels.Map t) typed).2 bound in
    subst (λ (k : Kind). IsFor types a (channels.Map t) k) (sym rule.1) (rule.2, rule.3)
channel_is types a b (channels.Shift size held) typed bound = (refl, items_all a held (parts_told types a b (channels.Shift size held) typed).1)
channel_is types a b (channels.Variable None) typed bound = refl
channel_is types a b (channels.Variable (Some l)) typed bound = item_there (item_of a l) ((or_parts _ _ (parts_told types a b (channels.Variable (Some l)) typed).1).0)
channel_is types a b (channels.Quota number) typed bound = refl

-- What is known of the channel of a text.
abbrev pub IsSound : List Typed → Channel → Type 0
IsSound types (channels.Fifo size held) = (1 ≤ size) × (size ≤ 1024)
IsSound types (channels.Shift size held) = (1 ≤ size) × (size ≤ 1024)
IsSound types (channels.Filter t) = (e : Expr) → expr_of types t.form ≡ Some e → IsWellFormed e
IsSound types (channels.Map t) = (e : Expr) → expr_of types t.form ≡ Some e → IsWellFormed e
IsSound types c = Unit {0}

few_first : (held : Option Literal) → length (literals_of (channels.Fifo1 held)) ≤ 1
few_first None = lit≤ tt
few_first (Some l) = lit≤ tt

is_buffer : (size : ℕ) (a : Kindred) (ls : List Literal) → 1 ≤ size → size ≤ 1024 → length ls ≤ size → IsBuffer (stored size (items_of a ls))
is_buffer size a ls some few fits = let fewer = few_items a ls in record { some = some; few = few; fits = omega arith }

pub channel_fits : (types : List Typed) (a b : Kindred) (c : Channel) → is_channel_mistyped types a b c ≡ false → leaves types a b c ≡ false → IsSound types c → Fits (channel_kind types a c) (a ∷ b ∷ [])
channel_fits types a b channels.Sync typed bound sound = same_types a b (not-false _ (parts_told types a b channels.Sync typed).0)
channel_fits types a b channels.Lossy typed bound sound = same_types a b (not-false _ (parts_told types a b channels.Lossy typed).0)
channel_fits types a b channels.SyncDrain typed bound sound = tt
channel_fits types a b channels.AsyncDrain typed bound sound = tt
channel_fits types a b (channels.Fifo1 held) typed bound sound =
    let ls = literals_of (channels.Fifo1 held) in (
      same_types a b (not-false _ (parts_told types a b (channels.Fifo1 held) typed).0),
      each_of (λ v. IsIn v a) (items_of a ls) (items_in a ls),
      is_buffer 1 a ls (lit≤ tt) (lit≤ tt) (few_first held),
    )
channel_fits types a b (channels.Fifo size held) typed bound sound =
    let short = leb-false (suc size) (length held) bound in (
      same_types a b (not-false _ (parts_told types a b (channels.Fifo size held) typed).0),
      each_of (λ v. IsIn v a) (items_of a held) (items_in a held),
      is_buffer size a held sound.0 sound.1 (omega arith),
    )
channel_fits types a b (channels.Filter t) typed bound sound =
    let parts = parts_told types a b (channels.Filter t) typed in
    let rule = filter_rule a (expr_of types t.form) parts.2 bound in
    subst (λ (k : Kind). Fits k (a ∷ b ∷ [])) (sym rule.1) (same_types a b (not-false _ parts.0), rule.2, sound rule.0.expr rule.3)
channel_fits types a b (channels.Map t) typed bound sound =
    let rule = map_rule a b (expr_of types t.form) (parts_told types a b (channels.Map t) typed).2 bound in
    let well = sound rule.0.expr rule.3 in
    subst (λ (k : Kind). Fits k (a ∷ b ∷ [])) (sym rule.1)
    (rule.2, well, (λ v member. item_inside rule.4.0 b (value_of_expr rule.0.expr v) rule.4.2 (value_in_type rule.0.expr a rule.4.0 v well rule.4.1 member)))
channel_fits types a b (channels.Shift size held) typed bound sound =
    let short = leb-false (suc size) (length held) bound in (
      same_types a b (not-false _ (parts_told types a b (channels.Shift size held) typed).0),
      each_of (λ v. IsIn v a) (items_of a held) (items_in a held),
      is_buffer size a held sound.0 sound.1 (omega arith),
    )
channel_fits types a b (channels.Variable None) typed bound sound = (same_types a b (not-false _ (parts_told types a b (channels.Variable None) typed).0), (λ v is. absurd (cc)))
channel_fits types a b (channels.Variable (Some l)) typed bound sound = (same_types a b (not-false _ (parts_told types a b (channels.Variable (Some l)) typed).0), (λ v is. item_in a l v is))
channel_fits types a b (channels.Quota number) typed bound sound = same_types a b (not-false _ (parts_told types a b (channels.Quota number) typed).0)
