-- Assignments with given values at the first loop joints are those of a table where these values alone are left there.
use Rattle.std.proofs.Common.{◌≡◌, inl, ℕ, ◌<◌, ◌≤◌, Bool, true, List, [], length, get_or, Option, None, refl, ap, sym, ◌∙◌, subst, arith}
use Rattle.reo_values.specs.declared.value.Value.{Value}
use Rattle.reo_net_base.specs.Net.{Net}
use Rattle.reo_joint_values.specs.Values.{Names, Choice, Family, giver_side}
use Rattle.reo_joint_values.specs.Chosen.{IsChosen}
use Rattle.reo_support.specs.Sets.{OneAtLoops}
use Rattle.reo_joint_values.proofs.Narrowing.{chosen_stays, chosen_was}
use Rattle.reo_weights.specs.Weights.{all_values}
use Rattle.reo_side_tables.specs.declared.board.Board.{Board}
use Rattle.reo_rows.specs.RowFlags.{flag}
use Rattle.reo_rows.specs.Sets.{code_of, family_of, names_of, IsReady}
use Rattle.reo_propagate.specs.Beginning.{IsSearch}
use Rattle.reo_propagate.specs.Narrow.{IsReduced}
use Rattle.reo_propagate.specs.declared.state.State.{State}
use Rattle.reo_walk.specs.declared.place.KeyPlace.{KeyPlace}
use Rattle.reo_walk.specs.Settling.{HasNone, IsFirstWith}
use Rattle.reo_walk.specs.Pins.{ArePinned}
use Rattle.reo_search.specs.choices.Remaining.{AreLoopsIn, AllAreThere, IsLeftOfAll}
use Rattle.reo_search.specs.choices.Trying.{MayRestart, IsLeastOf, IsFirstOf, HasCodes, AreLeftWith}
use Rattle.reo_search.specs.choices.Best.{IsKept, IsBetter}
use Rattle.reo_search.proofs.choices.Remains.{to_start, from_start, one_at_loops}
use Rattle.reo_search.proofs.choices.Bettering.{none_at_all, better_kept, better_first, better_same}

-- A search that may go on may begin anew.
pub may_restart : (net : Net) (boards : List Board) (ends : List (List ℕ)) (items : List (List Value)) (inside : ℕ → Bool) (state : State) → IsSearch net boards ends items inside state → MayRestart net boards ends items state
may_restart net boards ends items inside state search = record { ready = search.ready; tables = search.tables; waits = search.tended.one_each }

-- A first assignment, by what it is.
pub least_of : (net : Net) (names : Names) (inside : ℕ → Bool) (turn : ℕ) (sets : Family) (places : List KeyPlace) (chosen : List ℕ) → IsFirstWith net names inside turn sets places chosen
    → IsLeastOf (IsChosen net names inside sets) net turn places chosen
least_of net names inside turn sets places chosen f = record { rows = f.first.rows; choice = f.first.choice; is_of = f.first.chosen; numbers_are = f.numbers_are; least = f.least }

module _ (net : Net) (inside : ℕ → Bool) (boards : List Board) (ends : List (List ℕ)) (items : List (List Value)) (start : List (List Bool)) (ready : IsReady net boards ends items start) (whole : AllAreThere net items inside start)
    (loops codes joints : List ℕ) (are : AreLoopsIn net inside loops) (long : length joints ≡ length codes) (within : length codes ≤ length loops) (front : (m : ℕ) → m < length joints → get_or joints m 0 ≡ get_or loops m 0)
    (mid now : List (List Bool)) (pinned : ArePinned joints codes (length joints) start mid) (reduced : IsReduced net (names_of items) inside mid now) where
  to_pinned : (rows : ℕ → ℕ) (choice : Choice) → HasCodes net (names_of items) inside loops codes rows choice → IsChosen net (names_of items) inside (family_of mid) rows choice
  to_pinned rows choice h = record {
    fits = h.chosen.fits;
    from = λ s s_in j lt at.
        pinned.keeps j (code_of (choice j)) (to_start net inside boards ends items start ready whole j s (choice j) lt at s_in (h.chosen.from s s_in j lt at))
        (λ m m_lt e. ap (λ (k : ℕ). code_of (choice k)) (sym e ∙ front m m_lt) ∙ h.codes_are m (omega (arith, m_lt, long)));
  }

  pinned_only : (m c : ℕ) → m < length codes → flag mid (get_or loops m 0) c ≡ true → c ≡ get_or codes m 0
  pinned_only m c lt f =
      let m_lt : m < length joints = omega (arith, lt, long) in
      pinned.only m c m_lt (subst (λ (k : ℕ). flag mid k c ≡ true) (sym (front m m_lt)) f)

  from_pinned : (rows : ℕ → ℕ) (choice : Choice) → IsChosen net (names_of items) inside (family_of mid) rows choice → HasCodes net (names_of items) inside loops codes rows choice
  from_pinned rows choice a = record {
    chosen = record {
      fits = a.fits;
      from = λ s s_in j lt at. from_start net inside boards ends items start ready whole j (choice j) lt (pinned.less j (code_of (choice j)) (a.from s s_in j lt at));
    };
    codes_are = λ m lt.
        let m_lt : m < length loops = omega (arith, lt, within) in
        let j : ℕ = get_or loops m 0 in
        pinned_only m (code_of (choice j)) lt (a.from (giver_side net j) (are.here m m_lt) j (are.in_range m m_lt) (inl refl));
  }

  -- What is left where these values alone were left, and narrowed.
  pub left_with : AreLeftWith net (names_of items) inside loops codes now
  left_with = record {
    kept = λ rows choice h. chosen_stays net (names_of items) inside (family_of mid) (family_of now) rows choice reduced.narrowed (to_pinned rows choice h);
    only = λ rows choice a. from_pinned rows choice (chosen_was net (names_of items) inside (family_of mid) (family_of now) rows choice reduced.narrowed.smaller a);
    alone = λ m c lt f. pinned_only m c lt (reduced.less (get_or loops m 0) c f);
  }

module _ (net : Net) (names : Names) (inside : ℕ → Bool) (loops codes : List ℕ) (alive : List (List Bool)) (left : AreLeftWith net names inside loops codes alive) where
  -- Where all loop joints have a value alone, each has one.
  pub one_alone : AreLoopsIn net inside loops → length codes ≡ length loops → OneAtLoops net inside (family_of alive)
  one_alone are one_each = one_at_loops net inside alive loops are (λ m lt c d a b. let m_lt : m < length codes = omega (arith, lt, one_each) in left.alone m c m_lt a ∙ sym (left.alone m d m_lt b))

  -- The best of what is left is the best with these values.
  pub better_with : (turn : ℕ) (places : List KeyPlace) (old new : Option (List ℕ)) → IsBetter (IsChosen net names inside (family_of alive)) net turn places old new
      → IsBetter (HasCodes net names inside loops codes) net turn places old new
  better_with turn places old new b =
      better_same net turn places (IsChosen net names inside (family_of alive)) (HasCodes net names inside loops codes) left.only left.kept old new b

  -- Where none is left, there is none with these values.
  pub none_with : (turn : ℕ) (places : List KeyPlace) (best : Option (List ℕ)) → HasNone net names inside (family_of alive) → IsBetter (HasCodes net names inside loops codes) net turn places best best
  none_with turn places best none = inl (refl, none_at_all net turn places (HasCodes net names inside loops codes) (λ rows choice h. none rows choice (left.kept rows choice h)) best)

  -- The first of what is left is the first with these values.
  pub first_with : (turn : ℕ) (places : List KeyPlace) (found : List ℕ) (old new : Option (List ℕ)) → IsFirstWith net names inside turn (family_of alive) places found → IsKept old found new
      → IsBetter (HasCodes net names inside loops codes) net turn places old new
  first_with turn places found old new f kept =
      better_with turn places old new (better_kept net turn places (IsChosen net names inside (family_of alive)) found old new (least_of net names inside turn (family_of alive) places found f) kept)

-- What is left out of all values are all assignments: the best of them is the first of all.
pub first_all : (net : Net) (names : Names) (inside : ℕ → Bool) (turn : ℕ) (alive : List (List Bool)) (places : List KeyPlace) (new : Option (List ℕ)) → IsLeftOfAll net names inside alive
    → IsBetter (IsChosen net names inside (family_of alive)) net turn places None new → IsFirstOf (IsChosen net names inside (all_values names)) net turn places new
first_all net names inside turn alive places new left b =
    better_first net turn places (IsChosen net names inside (all_values names)) new
    (better_same net turn places (IsChosen net names inside (family_of alive)) (IsChosen net names inside (all_values names))
    (λ rows choice a. chosen_was net names inside (all_values names) (family_of alive) rows choice left.narrowed.smaller a)
    (λ rows choice a. chosen_stays net names inside (all_values names) (family_of alive) rows choice left.narrowed a) None new b)

-- Those with no value given are all.
pub first_none : (net : Net) (names : Names) (inside : ℕ → Bool) (loops codes : List ℕ) → codes ≡ [] → (turn : ℕ) (places : List KeyPlace) (new : Option (List ℕ)) → IsBetter (HasCodes net names inside loops codes) net turn places None new
    → IsFirstOf (IsChosen net names inside (all_values names)) net turn places new
first_none net names inside loops codes none turn places new b =
    better_first net turn places (IsChosen net names inside (all_values names)) new
    (better_same net turn places (HasCodes net names inside loops codes) (IsChosen net names inside (all_values names))
    (λ rows choice h. h.chosen)
    (λ rows choice a. record { chosen = a; codes_are = λ m lt. absurd (omega (arith, lt, ap length none)) }) None new b)
