-- The numbers of the lines of a right log.
use Rattle.std.proofs.Common.{◌≡◌, ℕ, zero, suc, ◌+◌, ◌*◌, ◌<◌, ◌≤◌, ◌^◌, ◌&&◌, ◌||◌, ◌==◌, not, true, false, cond, List, [], ◌∷◌, ◌++◌, length, get_or, refl, arith, length-append}
use Rattle.std.proofs.lemmas.Bool.{and_parts}
use Rattle.std.specs.List.{All}
use Rattle.std.proofs.lemmas.List.Elements.{All-nil, All-cons, All-append}
use Rattle.reo_net_base.specs.First.{is_leading, leading_positions, class_position, class_positions, row_positions, positions}
use Rattle.reo_net_base.specs.Net.{Net, Side, all_sides}
use Rattle.reo_net_base.specs.Sides.{side_count}
use Rattle.reo_net_base.specs.Wired.{IsWired}
use Rattle.reo_net_laws.proofs.Sides.{sides_few}
use Rattle.reo_joint_values.specs.Values.{Family, value_eq}
use Rattle.reo_refute_base.specs.declared.line.LogLine.{LogLine}
use Rattle.reo_refute_base.specs.declared.line.LogLine.TheVariants.{At, Drop, Empty, Split}
use Rattle.reo_refute_base.specs.Items.{Lists}
use Rattle.reo_refute_base.specs.Live.{all_live, without, alone}
use Rattle.reo_refute_base.specs.Logs.{live_value, joined, IsBranch, AreParts}
use Rattle.reo_refute_base.specs.Logs.IsBranch.{drop, empty, split}
use Rattle.reo_refute_base.specs.Logs.AreParts.{done, part}
use Rattle.reo_refute_base.specs.Places.{IsAllowed}
use Rattle.reo_refute_base.specs.Texts.{IsNumbered}
use Rattle.reo_refute_base.specs.laws.Singles.{IsPartOf}
use Rattle.reo_refute.specs.proving.Making.{AreFew}
use Rattle.reo_proof_laws.specs.Logs.{IsSized}
use Rattle.reo_joint_values.proofs.Inside.{side_below}
use Rattle.reo_refute.proofs.proving.Numbers.{value_numbered}

leading_few : (turn : ℕ) (ss : List Side) (k : ℕ) → length (leading_positions turn ss k) ≤ length ss
leading_few turn [] k = omega arith
leading_few turn (s ∷ ss) k =
    let rest = leading_few turn ss (suc k) in
    elim (is_leading s) as (λ b. length (cond b (class_position turn s k ∷ leading_positions turn ss (suc k)) (leading_positions turn ss (suc k))) ≤ length (s ∷ ss))
    [ true ↦ omega (arith, rest) | false ↦ omega (arith, rest) ]

classes_few : (turn : ℕ) (ss : List Side) (k : ℕ) → length (class_positions turn ss k) ≡ length ss
classes_few turn [] k = refl
classes_few turn (s ∷ ss) k = omega (arith, classes_few turn ss (suc k))

rows_few : (ss : List Side) (k : ℕ) → length (row_positions ss k) ≡ length ss
rows_few [] k = refl
rows_few (s ∷ ss) k = omega (arith, rows_few ss (suc k))

-- There are at most three places for each side.
places_few : (net : Net) (turn : ℕ) → length (positions net turn) ≤ 3 * side_count net
places_few net turn =
    let ss : List Side = all_sides net.primitives in
    omega (
      arith,
      leading_few turn ss 0,
      classes_few turn ss 0,
      rows_few ss 0,
      length-append (leading_positions turn ss 0) (class_positions turn ss 0 ++ row_positions ss 0),
      length-append (class_positions turn ss 0) (row_positions ss 0),
    )

all_joined : (pieces : List (List LogLine)) → ((m : ℕ) → m < length pieces → All IsNumbered (get_or pieces m [])) → All IsNumbered (joined pieces)
all_joined [] each = All-nil IsNumbered
all_joined (x ∷ xs) each = All-append IsNumbered x (joined xs) (each zero (omega arith)) (all_joined xs (λ m lt. each (suc m) (omega (arith, lt))))

module _ (net : Net) (wired : IsWired net) (sized : IsSized net) (lists : Lists) (few : AreFew lists) where
  sides : side_count net < 2 ^ 32
  sides = omega (arith, sides_few net.primitives wired.lawful, sized.primitives)

  branch_numbered : (allowed : ℕ → ℕ → Type 0) (f : Family) (lines : List LogLine) → IsPartOf f (all_live lists) → IsBranch net lists allowed f lines → All IsNumbered lines
  branch_numbered allowed f lines within (drop now j v side rest may branch) =
      All-cons IsNumbered (Drop j v side) rest (
        omega (arith, may.in_range, sized.joints),
        value_numbered lists few j v (within j v may.is_live),
        omega (arith, side_below net wired j side may.in_range may.at_side, sides),
      ) (branch_numbered allowed (without now j v) rest (λ i w h. within i w ((and_parts (now i w) (not ((i == j) && value_eq w v)) h).0)) branch)
  branch_numbered allowed f lines within (empty now j is) =
      All-cons IsNumbered (Empty j) [] (omega (arith, is.in_range, sized.joints)) (All-nil IsNumbered)
  branch_numbered allowed f lines within (split now j pieces may count branches) =
      All-cons IsNumbered (Split j) (joined pieces) (omega (arith, may.in_range, sized.joints))
      (all_joined pieces (λ m lt.
      branch_numbered allowed (alone now j (live_value lists now j m)) (get_or pieces m []) (λ i w h. within i w ((and_parts (now i w) (not (i == j) || value_eq w (live_value lists now j m)) h).0)) (branches m lt)))

  pub parts_numbered : (turn : ℕ) (given : List ℕ) (from : ℕ) (lines : List LogLine) → AreParts net turn given lists from lines → All IsNumbered lines
  parts_numbered turn given from lines (done n none) = All-nil IsNumbered
  parts_numbered turn given from lines (part n p branch rest first is parts) =
      All-cons IsNumbered (At p) (branch ++ rest) (omega (arith, first.is_live.in_range, places_few net turn, sides))
      (All-append IsNumbered branch rest (branch_numbered (IsAllowed net turn given p) (all_live lists) branch (λ j v h. h) is) (parts_numbered turn given (p + 1) rest parts))
