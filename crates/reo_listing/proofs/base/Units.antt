-- Unit alone can stand at the joints of an open circuit.
use Rattle.std.proofs.Common.{ℕ, zero, suc, ◌≡◌, Option, Some, None, List, [], ◌∷◌, map, sym, ◌∙◌, arith}
use Rattle.std.proofs.lemmas.List.Elements.{Contains-get_or}
use Rattle.std.specs.Prelude.{slice_index_or, slice_get}
use Rattle.reo_values.specs.declared.value.Value.{Value}
use Rattle.reo_values.specs.declared.value.Value.TheVariants as values
use Rattle.reo_net_base.specs.declared.joint.End.{End}
use Rattle.reo_net_base.specs.Behaviour.{Behaviour}
use Rattle.reo_net_base.specs.Net.{Wiring, behaviour_at}
use Rattle.reo_kinds.specs.declared.kind.Kind.{Kind}
use Rattle.reo_kinds.specs.declared.kind.Kind.TheVariants.{Writer, Taker, SyncDrain, AsyncDrain, Store, Shift, Variable, Map}
use Rattle.reo_open.specs.Opens.{open_behaviour}
use Rattle.reo_open.specs.Opened.{opened, open_net, units, unit_held}
use Rattle.reo_joint_values.specs.Standing.{CanStand, given_in, giver_of}
use Rattle.reo_joint_values.specs.Standing.CanStand.{alone, passed}
use Rattle.reo_listing.specs.base.Laws.{OpenPartsAreNarrow}

-- Nothing but unit, if anything.
abbrev OnlyUnit : Option Value → Type 0
OnlyUnit taken = (item : Value) → taken ≡ Some item → item ≡ values.Unit

front_unit : (items : List Value) → OnlyUnit (slice_get (units items) 0)
front_unit [] item is = absurd cc
front_unit (i ∷ items) item is = cc

held_unit : (held : Option Value) → OnlyUnit (unit_held held)
held_unit None item is = absurd cc
held_unit (Some i) item is = cc

-- What gives unit alone, where unit alone is taken.
abbrev GivesUnit : Behaviour → Type 0
GivesUnit b = (side row end : ℕ) (taken : Option Value) → OnlyUnit taken → OnlyUnit (b.given side row end taken)

opened_gives : (kind : Kind) → GivesUnit (open_behaviour (opened kind))
opened_gives (Writer port) side row end taken only item is = cc
opened_gives (Taker port) side row end taken only item is = cc
opened_gives (Map rule) side row end taken only item is = only item is
opened_gives SyncDrain side row end taken only item is = absurd cc
opened_gives AsyncDrain side row end taken only item is = absurd cc
opened_gives (Store buffer) side row end taken only item is = front_unit buffer.items item is
opened_gives (Shift buffer) side row end taken only item is = front_unit buffer.items item is
opened_gives (Variable held) side row end taken only item is = held_unit held item is
opened_gives _ side row end taken only item is = only item is

all_give : (kinds : List Kind) (i : ℕ) → GivesUnit (behaviour_at (map open_behaviour (map opened kinds)) i)
all_give [] i side row end taken only item is = absurd cc
all_give (k ∷ kinds) zero side row end taken only item is = opened_gives k side row end taken only item is
all_give (k ∷ kinds) (suc i) side row end taken only item is = all_give kinds i side row end taken only item is

given_unit : (w : Wiring Kind) (row : ℕ) (e : End) (taken : Option Value) → OnlyUnit taken → OnlyUnit (given_in (open_net w) row e taken)
unfolding given_in
given_unit w row e taken only item is = all_give w.primitives e.primitive ((behaviour_at (open_net w).primitives e.primitive).side_of e.end) row e.end taken only item is

none_taken : OnlyUnit None
none_taken item is = absurd cc

one_taken : (taken : Value) → taken ≡ values.Unit → OnlyUnit (Some taken)
one_taken taken is item same = let e : taken ≡ item = cc in sym e ∙ is

pub only_unit : (w : Wiring Kind) (j : ℕ) (item : Value) → CanStand (open_net w) j item → item ≡ values.Unit
only_unit w j item (alone i row it lt gives) = given_unit w row (giver_of (open_net w) j) None none_taken item gives.given
only_unit w j item (passed i row k taken it lt gives below) =
    given_unit w row (giver_of (open_net w) j) (Some taken) (one_taken taken (only_unit w k taken below)) item gives.given.given

pub narrow : OpenPartsAreNarrow
narrow w wired inside wide =
    let many = wide.many in
    let d : Value = values.Unit in
    let n = many.many in
    let first = only_unit w wide.joint (slice_index_or many.items 0 d) (many.stand _ (Contains-get_or many.items 0 d (omega (arith, n)))) in
    let second = only_unit w wide.joint (slice_index_or many.items 1 d) (many.stand _ (Contains-get_or many.items 1 d (omega (arith, n)))) in
    many.distinct 0 1 d (omega arith) (omega (arith, n)) (first ∙ sym second)
