-- The joint rule on bytes: 1 is flow, 2 gives a reason, 4 requires a reason, 8 is jam.
use Rattle.std.specs.Prelude.{◌≡◌, ℕ, ◌<◌, ◌≤◌, ◌==◌, Bool, true, false, ◌&&◌, ◌||◌, not, List, slice_index}

-- An item flows.
abbrev pub flow : ℕ
flow = 1

-- No flow, and a reason is given for it.
abbrev pub reason_given : ℕ
reason_given = 2

-- Jam.
abbrev pub jam : ℕ
jam = 8

-- Both bytes are the mark.
abbrev pub both_are : ℕ → ℕ → ℕ → Bool
both_are mark left right = left == mark && right == mark

-- At least one of the bytes is the mark.
abbrev pub one_is : ℕ → ℕ → ℕ → Bool
one_is mark left right = left == mark || right == mark

-- The joint rule: both flow, or both jam, or neither flows or jams and at least one gives a reason.
abbrev pub bytes_match : ℕ → ℕ → Bool
bytes_match left right =
    both_are flow left right || (both_are jam left right
    || (one_is reason_given left right && not (one_is flow left right || one_is jam left right)))

-- Each pair from `from` on and before `to` matches.
abbrev pub MatchBetween : List ℕ → List ℕ → ℕ → ℕ → Type 0
MatchBetween left right from to =
    (k : ℕ) → from ≤ k → k < to → bytes_match (slice_index left k) (slice_index right k) ≡ true

-- The place is the least from `from` on and before `to` at which the pair does not match.
pub record FirstBroken (left right : List ℕ) (from to place : ℕ) : Type 0 where
  pub from_on : from ≤ place
  pub in_range : place < to
  pub broken : bytes_match (slice_index left place) (slice_index right place) ≡ false
  pub none_before : MatchBetween left right from place
