-- What a round makes of a circuit.
use Rattle.std.specs.Prelude.{ℕ, zero, suc, ◌+◌, ◌==◌, ◌&&◌, Bool, cond, Option, None, List, [], ◌∷◌, length, map, slice_index, slice_index_or}
use Rattle.std.specs.List.{position_or_len, range_with_len}
use Rattle.reo_values.specs.declared.value.Value.{Value}
use Rattle.reo_net_base.specs.declared.joint.Joint.{Joint}
use Rattle.reo_net_base.specs.declared.colouring.Chosen.{Chosen}
use Rattle.reo_net_base.specs.Behaviour.{Behaviour}
use Rattle.reo_net_base.specs.Net.{Net, Wiring, net_of, behaviour_at, first_side}

-- Each primitive after its rows and its taken item.
abbrev pub settled_list : {P : Type 0} → (P → Chosen → Option Value → P) → List P → List Chosen → List (Option Value) → List P
settled_list settled [] rows taken = []
settled_list settled (p ∷ ps) [] taken = p ∷ ps
settled_list settled (p ∷ ps) (r ∷ rows) [] = p ∷ ps
settled_list settled (p ∷ ps) (r ∷ rows) (t ∷ taken) = settled p r t ∷ settled_list settled ps rows taken

-- The rows of the one or two sides of a primitive.
abbrev pub chosen_for : Net → List ℕ → ℕ → Chosen
chosen_for net rows i = record {
  first = slice_index rows (first_side net.primitives i);
  second = cond ((behaviour_at net.primitives i).sides == 2) (slice_index rows (first_side net.primitives i + 1)) 0;
}

-- Whether a joint goes to the mouth of a primitive with two sides: to its side 0.
abbrev pub is_mouth : Behaviour → ℕ → Joint → Bool
is_mouth b i j = (b.sides == 2) && ((j.taker.primitive == i) && (b.side_of j.taker.end == 0))

-- The joint at the mouth of a primitive, or the number of joints where it has no mouth.
abbrev pub mouth_of : Net → ℕ → ℕ
mouth_of net i = position_or_len (is_mouth (behaviour_at net.primitives i) i) net.joints

-- The item at the mouth of a primitive, if it has a mouth and the mouth flows.
abbrev pub taken_for : Net → List (Option Value) → ℕ → Option Value
taken_for net items i = slice_index_or items (mouth_of net i) None

abbrev pub all_chosen : Net → List ℕ → List Chosen
all_chosen net rows = map (chosen_for net rows) (range_with_len 0 (length net.primitives))

abbrev pub all_taken : Net → List (Option Value) → List (Option Value)
all_taken net items = map (taken_for net items) (range_with_len 0 (length net.primitives))

-- The primitives of a circuit after a round with these rows and items.
abbrev pub stepped : {P : Type 0} → (P → Behaviour) → (P → Chosen → Option Value → P) → Wiring P → List ℕ → List (Option Value) → List P
stepped behaviour settled w rows items = settled_list settled w.primitives (all_chosen (net_of behaviour w) rows) (all_taken (net_of behaviour w) items)

-- A list with one element changed.
abbrev pub change_at : {X : Type 0} → (X → X) → List X → ℕ → List X
change_at f [] i = []
change_at f (x ∷ xs) zero = f x ∷ xs
change_at f (x ∷ xs) (suc i) = x ∷ change_at f xs i
