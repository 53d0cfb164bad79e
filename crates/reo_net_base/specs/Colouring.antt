-- Colourings of a circuit in its present state.
use Rattle.std.specs.Prelude.{ℕ, ◌<◌, ◌≡◌, ◌≢◌, Bool, true, Option, Some, None, List, [], ◌∷◌, length, slice_index_or, cond}
use Rattle.std.specs.Option.{option_and_then}
use Rattle.reo_values.specs.declared.value.Value.{Value}
use Rattle.reo_net_base.specs.declared.mark.Mark.TheVariants.{F}
use Rattle.reo_net_base.specs.declared.joint.End.{End}
use Rattle.reo_net_base.specs.declared.joint.Joint.{Joint}
use Rattle.reo_net_base.specs.Marks.{marks_match, is_flow}
use Rattle.reo_net_base.specs.Behaviour.{Behaviour}
use Rattle.reo_net_base.specs.Net.{Net, Side, all_sides, row_count, behaviour_at, end_eq, row_at, mark_at}

-- One row for each side, each in the table of its side.
abbrev pub AreRows : List Side → List ℕ → Type 0
AreRows [] [] = Unit {0}
AreRows [] (r ∷ rs) = ⊥
AreRows (s ∷ ss) [] = ⊥
AreRows (s ∷ ss) (r ∷ rs) = (r < row_count s) × AreRows ss rs

-- The marks of a joint's two ends keep to the joint rule.
abbrev pub JointMatches : Net → List ℕ → Joint → Type 0
JointMatches net rows j = marks_match (mark_at net rows j.giver) (mark_at net rows j.taker) ≡ true

-- The item at the joint that goes to an end.
abbrev pub taken_at : List Joint → List (Option Value) → End → Option Value
taken_at [] items e = None
taken_at (j ∷ js) [] e = None
taken_at (j ∷ js) (item ∷ items) e = cond (end_eq j.taker e) item (taken_at js items e)

-- What the row of an end gives there, for the item at the end that decides.
unfoldable pub given_at : Net → List ℕ → List (Option Value) → End → Option Value
given_at net rows items e =
    let b : Behaviour = behaviour_at net.primitives e.primitive in
    let side : ℕ = b.side_of e.end in
    let row : ℕ = row_at net rows e in
    b.given side row e.end (option_and_then (λ from. taken_at net.joints items (record { primitive = e.primitive; end = from })) (b.from side row e.end))

-- Whether the row of an end lets an item in there.
unfoldable pub lets_in : Net → List ℕ → End → Value → Bool
lets_in net rows e item = (behaviour_at net.primitives e.primitive).passes ((behaviour_at net.primitives e.primitive).side_of e.end) (row_at net rows e) e.end item

-- A joint with an item: it flows, the giver's row gives this item and the taker's row lets it in.
pub record HasItem (net : Net) (rows : List ℕ) (items : List (Option Value)) (j : Joint) (item : Value) : Type 0 where
  pub flows : mark_at net rows j.giver ≡ F
  pub given : given_at net rows items j.giver ≡ Some item
  pub let_in : lets_in net rows j.taker item ≡ true

-- A joint has an item exactly where it flows.
abbrev pub ItemFits : Net → List ℕ → List (Option Value) → Joint → Option Value → Type 0
ItemFits net rows items j None = mark_at net rows j.giver ≢ F
ItemFits net rows items j (Some item) = HasItem net rows items j item

-- Each row is in its table, and each joint matches.
pub record RowsFit (net : Net) (rows : List ℕ) : Type 0 where
  pub in_tables : AreRows (all_sides net.primitives) rows
  pub matched : (j : ℕ) (d : Joint) → j < length net.joints → JointMatches net rows (slice_index_or net.joints j d)

-- A colouring: the rows fit together, and each joint has the item that they give there.
pub record IsColouring (net : Net) (rows : List ℕ) (items : List (Option Value)) : Type 0 where
  pub rows_fit : RowsFit net rows
  pub one_each : length items ≡ length net.joints
  pub items_fit : (j : ℕ) (d : Joint) → j < length net.joints → ItemFits net rows items (slice_index_or net.joints j d) (slice_index_or items j None)

-- The item that the giver's row puts at a joint.
unfoldable pub item_given : Net → List ℕ → List (Option Value) → Joint → Option Value
item_given net rows items j = cond (is_flow (mark_at net rows j.giver)) (given_at net rows items j.giver) None

-- The items that the rows determine, whether or not they are let in.
pub record IsFilled (net : Net) (rows : List ℕ) (items : List (Option Value)) : Type 0 where
  pub one_each : length items ≡ length net.joints
  pub determined : (j : ℕ) (d : Joint) → j < length net.joints → slice_index_or items j None ≡ item_given net rows items (slice_index_or net.joints j d)
