-- The kinds keep to the types of their ends.
use Rattle.std.proofs.Common.{◌≡◌, ◌∙◌, ℕ, ◌+◌, ◌<◌, ◌==◌, List, [], ◌∷◌, Bool, true, false, cond, refl, sym, subst, drop, arith}
use Rattle.std.specs.Prelude.{Option, Some, None, slice_get}
use Rattle.std.specs.List.{AllByRecursion}
use Rattle.std.proofs.lemmas.Bool.Decides.{nat_tests}
use Rattle.reo_values.specs.declared.value.Value.{Value}
use Rattle.reo_values.specs.declared.value.Value.TheVariants as values
use Rattle.reo_values.specs.declared.kindred.Kindred.{Kindred}
use Rattle.reo_values.specs.Kind.{IsIn, is_item, ItemTestIsExact}
use Rattle.reo_exprs.specs.Valued.{value_of_expr}
use Rattle.reo_exprs.proofs.Options.{some_same, from_map}
use Rattle.reo_net_base.specs.declared.colouring.Chosen.{Chosen}
use Rattle.reo_net_base.specs.declared.port.Offer.{Offer}
use Rattle.reo_net_base.specs.declared.port.Offer.TheVariants.{Write, Take}
use Rattle.reo_buffers.specs.Stored.{Stored, is_full, with_back, without_front}
use Rattle.reo_kinds.specs.declared.kind.WriterPort.{WriterPort}
use Rattle.reo_kinds.specs.declared.kind.MapRule.{MapRule}
use Rattle.reo_kinds.specs.declared.kind.Kind.{Kind}
use Rattle.reo_kinds.specs.declared.kind.Kind.TheVariants.{Writer, Taker, Sync, Lossy, SyncDrain, AsyncDrain, Store, Shift, Variable, Quota, Filter, Map, Merger, Replicator}
use Rattle.reo_kinds.specs.Items.{offer_fits}
use Rattle.reo_kinds.specs.Rules.{image}
use Rattle.reo_kinds.specs.Kinds.{behaviour_of, unoffered, given_away, put_in, shift_in, replaced, after, first_flows, second_flows, settled_kind, offering_if, placed_kind, withdrawn_kind}
use Rattle.reo_runs.specs.run_texts.Laws.{kind_rules}
use Rattle.reo_runs.proofs.Each.{both}
use Rattle.reo_runs.proofs.run_texts.Keeping.{EndTypes, GivesRight, MouthIsFirst, KeepsTypes}

-- All of these items are of a type.
abbrev pub AreIn : Kindred → List Value → Type 0
AreIn k items = AllByRecursion (λ v. IsIn v k) items

-- All ends up to this one have one type.
abbrev pub HaveOneType : ℕ → EndTypes → Type 0
HaveOneType last types = (x y : ℕ) → x < last + 1 → y < last + 1 → types x ≡ types y

-- The kind is right for these types of its ends.
abbrev pub IsRight : Kind → EndTypes → Type 0
IsRight (Writer port) types = port.kindred ≡ types 0
IsRight (Taker port) types = Unit {0}
IsRight Sync types = types 0 ≡ types 1
IsRight Lossy types = types 0 ≡ types 1
IsRight SyncDrain types = Unit {0}
IsRight AsyncDrain types = Unit {0}
IsRight (Store buffer) types = (types 0 ≡ types 1) × AreIn (types 0) buffer.items
IsRight (Shift buffer) types = (types 0 ≡ types 1) × AreIn (types 0) buffer.items
IsRight (Variable held) types = (types 0 ≡ types 1) × ((v : Value) → held ≡ Some v → IsIn v (types 0))
IsRight (Quota left) types = types 0 ≡ types 1
IsRight (Filter rule) types = types 0 ≡ types 1
IsRight (Map rule) types = (rule.of ≡ types 0) × ((v : Value) → IsIn v (types 0) → IsIn (value_of_expr rule.expr v) (types 1))
IsRight (Merger branches) types = HaveOneType branches.count types
IsRight (Replicator branches) types = HaveOneType branches.count types

-- The one end of a writer, and the second end of a channel.
first_end : (end : ℕ) → end < 1 → end ≡ 0
first_end end below = omega arith

second_end : (end : ℕ) → end < 2 → (end == 0) ≡ false → end ≡ 1
second_end end below other = let apart : end ≡ 0 → ⊥ = λ (is : end ≡ 0). grind (arith, nat_tests) in omega (arith, apart)

at_end : (types : EndTypes) (v : Value) (a b : ℕ) → a ≡ b → IsIn v (types b) → IsIn v (types a)
at_end types v a b same is = subst (λ n. IsIn v (types n)) (sym same) is

of_type : (v : Value) (a b : Kindred) → a ≡ b → IsIn v a → IsIn v b
of_type v a b same is = subst (IsIn v) same is

-- What comes in at the first end goes out at the second.
passes_on : (types : EndTypes) (v : Value) (end : ℕ) → types 0 ≡ types 1 → end < 2 → (end == 0) ≡ false → IsIn v (types 0) → IsIn v (types end)
passes_on types v end same below other is = at_end types v end 1 (second_end end below other) (of_type v (types 0) (types 1) same is)

front_in : (k : Kindred) (items : List Value) (v : Value) → AreIn k items → slice_get items 0 ≡ Some v → IsIn v k
front_in k [] v all is = absurd (cc)
front_in k (x ∷ xs) v all is = subst (λ w. IsIn w k) (some_same x v is) all.0

module _ (exact : ItemTestIsExact) where
  offered_in : (k : Kindred) (offer : Option Value) (v : Value) → offer_fits offer k ≡ true → offer ≡ Some v → IsIn v k
  offered_in k None v fits is = absurd (cc)
  offered_in k (Some x) v fits is = subst (λ w. IsIn w k) (some_same x v is) ((exact x k).0 fits)

  image_in : (rule : MapRule) (a b : Kindred) → rule.of ≡ a → ((v : Value) → IsIn v a → IsIn (value_of_expr rule.expr v) b) → (v : Value) → IsIn v a → IsIn (image rule v) b
  image_in rule a b same maps v is = step (is_item v rule.of) ((exact v rule.of).1 (subst (IsIn v) (sym same) is)) where
    step : (t : Bool) → t ≡ true → IsIn (cond t (value_of_expr rule.expr v) values.Unit) b
    step true it_is = maps v is
    step false other = absurd (cc)

  kind_gives : (kind : Kind) (types : EndTypes) → IsRight kind types → GivesRight (behaviour_of kind) types
  kind_gives (Writer port) types right side row end below gives taken from v is = at_end types v end 0 (first_end end below) (of_type v port.kindred (types 0) right (offered_in port.kindred port.offer v port.fitting is))
  kind_gives (Taker port) types right side row end below gives taken from v is = absurd (cc)
  kind_gives Sync types right side row end below gives taken from v is = passes_on types v end right below gives (from 0 v refl is).1
  kind_gives Lossy types right side row end below gives taken from v is = passes_on types v end right below gives (from 0 v refl is).1
  kind_gives SyncDrain types right side row end below gives taken from v is = absurd (cc)
  kind_gives AsyncDrain types right side row end below gives taken from v is = absurd (cc)
  kind_gives (Store buffer) types right side row end below gives taken from v is = passes_on types v end right.0 below gives (front_in (types 0) buffer.items v right.1 is)
  kind_gives (Shift buffer) types right side row end below gives taken from v is = passes_on types v end right.0 below gives (front_in (types 0) buffer.items v right.1 is)
  kind_gives (Variable held) types right side row end below gives taken from v is = passes_on types v end right.0 below gives (right.1 v is)
  kind_gives (Quota left) types right side row end below gives taken from v is = passes_on types v end right below gives (from 0 v refl is).1
  kind_gives (Filter rule) types right side row end below gives taken from v is = passes_on types v end right below gives (from 0 v refl is).1
  kind_gives (Map rule) types right side row end below gives taken from v is =
      let came = from_map (image rule) (taken 0) v is in
      let out = image_in rule (types 0) (types 1) right.0 right.1 came.0 (from 0 came.0 refl came.1).1 in
      at_end types v end 1 (second_end end below gives) (subst (λ w. IsIn w (types 1)) came.2 out)
  kind_gives (Merger branches) types right side row end below gives taken from v is =
      let came = from row v refl is in
      of_type v (types row) (types end) (right row end came.0 below) came.1
  kind_gives (Replicator branches) types right side row end below gives taken from v is =
      let came = from 0 v refl is in
      of_type v (types 0) (types end) (right 0 end came.0 below) came.1

kind_mouth : (kind : Kind) → MouthIsFirst (behaviour_of kind)
kind_mouth (Store buffer) end two is = is
kind_mouth (Shift buffer) end two is = is
kind_mouth (Variable held) end two is = is
kind_mouth kind end two is = absurd (omega (arith, two))

offering_type : (port : WriterPort) (v : Value) (t : Bool) (is : is_item v port.kindred ≡ t) → (offering_if port v t is).kindred ≡ port.kindred
offering_type port v true is = refl
offering_type port v false is = refl

kind_placed : (kind : Kind) (types : EndTypes) (offer : Offer) → IsRight kind types → IsRight (placed_kind kind offer) types
kind_placed (Writer port) types (Write v) right = offering_type port v (is_item v port.kindred) refl ∙ right
kind_placed (Writer port) types Take right = right
kind_placed (Taker port) types (Write v) right = right
kind_placed (Taker port) types Take right = right
kind_placed kind types offer right = right

kind_withdrawn : (kind : Kind) (types : EndTypes) → IsRight kind types → IsRight (withdrawn_kind kind) types
kind_withdrawn (Writer port) types right = right
kind_withdrawn (Taker port) types right = right
kind_withdrawn kind types right = right

rest_in : (k : Kindred) (items : List Value) → AreIn k items → AreIn k (drop 1 items)
rest_in k [] all = tt
rest_in k (x ∷ xs) all = all.1

away_in : (k : Kindred) (gives : Bool) (buffer : Stored) → AreIn k buffer.items → AreIn k (given_away gives buffer).items
away_in k true buffer all = rest_in k buffer.items all
away_in k false buffer all = all

put_right : (k : Kindred) (item : Option Value) (buffer : Stored) → ((v : Value) → item ≡ Some v → IsIn v k) → AreIn k buffer.items → AreIn k (put_in item buffer).items
put_right k None buffer comes all = all
put_right k (Some v) buffer comes all = step (is_full buffer) where
  step : (full : Bool) → AreIn k (cond full buffer (with_back v buffer)).items
  step true = all
  step false = both (λ w. IsIn w k) buffer.items (v ∷ []) all (comes v refl, tt)

shift_right : (k : Kindred) (item : Option Value) (buffer : Stored) → ((v : Value) → item ≡ Some v → IsIn v k) → AreIn k buffer.items → AreIn k (shift_in item buffer).items
shift_right k None buffer comes all = all
shift_right k (Some v) buffer comes all = both (λ w. IsIn w k) (cond (is_full buffer) (without_front buffer) buffer).items (v ∷ []) (away_in k (is_full buffer) buffer all) (comes v refl, tt)

replaced_right : (k : Kindred) (item held : Option Value) → ((v : Value) → item ≡ Some v → IsIn v k) → ((v : Value) → held ≡ Some v → IsIn v k) → (v : Value) → replaced item held ≡ Some v → IsIn v k
replaced_right k None held comes all v is = all v is
replaced_right k (Some w) held comes all v is = comes v is

unoffered_type : (flows : Bool) (port : WriterPort) → (cond flows (unoffered port) port).kindred ≡ port.kindred
unoffered_type true port = refl
unoffered_type false port = refl

where_flows : (flows : Bool) (taken : Option Value) (v : Value) → cond flows taken None ≡ Some v → taken ≡ Some v
where_flows true taken v is = is
where_flows false taken v is = absurd (cc)

after_right : (first second : Bool) (item : Option Value) (kind : Kind) (types : EndTypes) → IsRight kind types → ((v : Value) → (behaviour_of kind).sides ≡ 2 → item ≡ Some v → IsIn v (types 0))
    → IsRight (after first second item kind) types
after_right first second item (Writer port) types right comes = unoffered_type first port ∙ right
after_right first second item (Taker port) types right comes = tt
after_right first second item (Store buffer) types right comes =
    (right.0, put_right (types 0) item (given_away second buffer) (λ v is. comes v refl is) (away_in (types 0) second buffer right.1))
after_right first second item (Shift buffer) types right comes =
    (right.0, shift_right (types 0) item (given_away second buffer) (λ v is. comes v refl is) (away_in (types 0) second buffer right.1))
after_right first second item (Variable held) types right comes = (right.0, replaced_right (types 0) item held (λ v is. comes v refl is) right.1)
after_right first second item (Quota left) types right comes = right
after_right first second item kind types right comes = right

kind_settled : (kind : Kind) (types : EndTypes) (rows : Chosen) (taken : Option Value) → IsRight kind types → ((v : Value) → (behaviour_of kind).sides ≡ 2 → taken ≡ Some v → IsIn v (types 0))
    → IsRight (settled_kind kind rows taken) types
kind_settled kind types rows taken right comes =
    after_right (first_flows kind rows) (second_flows kind rows) (cond (first_flows kind rows) taken None) kind types right (λ v two is. comes v two (where_flows (first_flows kind rows) taken v is))

pub kinds_keep : ItemTestIsExact → KeepsTypes kind_rules IsRight
kinds_keep exact = record {
  gives = kind_gives exact;
  mouth = kind_mouth;
  placed = kind_placed;
  withdrawn = kind_withdrawn;
  settled = kind_settled;
}
