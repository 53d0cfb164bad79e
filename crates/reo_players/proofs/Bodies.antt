-- The body of a repeat, xs a list.
use Rattle.std.proofs.Common.{◌≡◌, ◌∙◌, ℕ, zero, suc, max, ◌-◌, ◌<◌, List, [], ◌∷◌, ◌++◌, length, flat_map, refl, sym, ap, subst, arith, Some}
use Rattle.std.proofs.lemmas.List.{append_assoc, append-nil}
use mathlib.Core.Former.{Count}
use Rattle.reo_script.specs.declared.scripts.action.Action.{Action, Repeat, Repeat', Row_of-Action, end_of-Action, more_of-Action, items-the_row-Action, items_hidden-the_row-Action-0}
use Rattle.reo_players.specs.Written.{Task, times_over, written, written_row}
use Rattle.reo_players.specs.Counters.{actions_in, levels_within, levels_row, levels_of, IsLive, IsLiveBody, AreLiveRow, AreLive, StandsHere, rest_here}

-- The row of an action's body.
abbrev pub row_of : Action → (n : Count) × Row_of-Action n
row_of (Repeat' times shape row) = (_, row)
row_of a = (_, end_of-Action)

in_row : (n : _) (row : Row_of-Action n) → actions_in row ≡ items-the_row-Action n row
in_row n end_of-Action = refl
in_row n (more_of-Action a rest) = ap (λ xs. a ∷ xs) (in_row _ rest)

-- The body of a repeat made from a list is the list.
pub body_is : (times : ℕ) (body : List Action) → actions_in (row_of (Repeat times body)).1 ≡ body
body_is times body = let row = row_of (Repeat times body) in in_row row.0 row.1 ∙ items_hidden-the_row-Action-0 body

-- What is said of a row is said of its actions.
pub written_is : {n : _} (row : Row_of-Action n) → written_row row ≡ flat_map written (actions_in row)
written_is end_of-Action = refl
written_is (more_of-Action a rest) = ap (λ ts. written a ++ ts) (written_is rest)

pub levels_are : {n : _} (row : Row_of-Action n) → levels_row row ≡ levels_of (actions_in row)
levels_are end_of-Action = refl
levels_are (more_of-Action a rest) = ap (λ m. max (suc (levels_within a)) m) (levels_are rest)

are_live : {n : _} (row : Row_of-Action n) → AreLiveRow row → AreLive (actions_in row)
are_live end_of-Action h = tt
are_live (more_of-Action a rest) h = (h.0, are_live rest h.1)

pub live_body : {n : _} (row : Row_of-Action n) → IsLiveBody row → AreLive (actions_in row)
live_body end_of-Action h = elim h [ ]
live_body (more_of-Action a rest) h = (h.0, are_live rest h.1)

pub some_body : {n : _} (row : Row_of-Action n) → IsLiveBody row → 0 < length (actions_in row)
some_body end_of-Action h = elim h [ ]
some_body (more_of-Action a rest) h = omega arith

-- A repeat by its body.
module _ (times : ℕ) (body : List Action) where
  pub written_repeat : written (Repeat times body) ≡ times_over times (flat_map written body)
  written_repeat = ap (λ ts. times_over times ts) (written_is (row_of (Repeat times body)).1 ∙ ap (flat_map written) (body_is times body))

  pub levels_repeat : levels_within (Repeat times body) ≡ levels_of body
  levels_repeat = levels_are (row_of (Repeat times body)).1 ∙ ap levels_of (body_is times body)

  pub times_live : IsLive (Repeat times body) → 0 < times
  times_live h = h.0

  pub body_live : IsLive (Repeat times body) → AreLive body
  body_live h = subst AreLive (body_is times body) (live_body (row_of (Repeat times body)).1 h.1)

  pub body_some : IsLive (Repeat times body) → 0 < length body
  body_some h = subst (λ xs. 0 < length xs) (body_is times body) (some_body (row_of (Repeat times body)).1 h.1)

  pub stands_in : (Inner : List Action → Type 0) → Inner body → StandsHere (Some (Repeat times body)) Inner
  stands_in Inner h = subst Inner (sym (body_is times body)) h

  pub stands_out : (Inner : List Action → Type 0) → StandsHere (Some (Repeat times body)) Inner → Inner body
  stands_out Inner h = subst Inner (body_is times body) h

  pub rest_repeat : (left : ℕ) (inner : List Action → List Task) → rest_here (Some (Repeat times body)) left inner ≡ inner body ++ times_over left (flat_map written body)
  rest_repeat left inner = ap (λ xs. inner xs ++ times_over left (flat_map written xs)) (body_is times body)

-- Once, and then as often as is left.
pub once_more : (n : ℕ) (ts : List Task) → 0 < n → ts ++ times_over (n - 1) ts ≡ times_over n ts
once_more zero ts lt = elim lt [ ]
once_more (suc n) ts lt = let one : suc n - 1 ≡ n = omega arith in ap (λ m. ts ++ times_over m ts) one

-- A repeat that is done at least once, of actions that have a list, and some of them.
to_live_row : {n : _} (row : Row_of-Action n) → AreLive (actions_in row) → AreLiveRow row
to_live_row end_of-Action h = tt
to_live_row (more_of-Action a rest) h = (h.0, to_live_row rest h.1)

to_live_body : {n : _} (row : Row_of-Action n) → 0 < length (actions_in row) → AreLive (actions_in row) → IsLiveBody row
to_live_body end_of-Action some h = elim some [ ]
to_live_body (more_of-Action a rest) some h = (h.0, to_live_row rest h.1)

pub live_repeat : (times : ℕ) (body : List Action) → 0 < times → 0 < length body → AreLive body → IsLive (Repeat times body)
live_repeat times body some items live =
    (some, to_live_body (row_of (Repeat times body)).1 (subst (λ xs. 0 < length xs) (sym (body_is times body)) items) (subst AreLive (sym (body_is times body)) live))

-- Bodies that come to the same list.
pub same_repeat : (times : ℕ) (one other : List Action) → flat_map written one ≡ flat_map written other → written (Repeat times one) ≡ written (Repeat times other)
same_repeat times one other e = written_repeat times one ∙ (ap (times_over times) e ∙ sym (written_repeat times other))

none_over : (n : ℕ) → times_over n [] ≡ []
none_over zero = refl
none_over (suc n) = none_over n

-- A repeat of nothing.
pub no_repeat : (times : ℕ) (body : List Action) → flat_map written body ≡ [] → written (Repeat times body) ≡ []
no_repeat times body e = written_repeat times body ∙ (ap (times_over times) e ∙ none_over times)

-- One more action behind a list.
pub live_more : (xs : List Action) (a : Action) → AreLive xs → IsLive a → AreLive (xs ++ a ∷ [])
live_more [] a h live = (live, tt)
live_more (x ∷ xs) a h live = (h.0, live_more xs a h.1 live)

pub written_more : (xs : List Action) (a : Action) → flat_map written (xs ++ a ∷ []) ≡ flat_map written xs ++ written a
written_more [] a = append-nil (written a)
written_more (x ∷ xs) a = ap (λ ts. written x ++ ts) (written_more xs a) ∙ sym (append_assoc (written x) (flat_map written xs) (written a))

pub levels_more : (xs : List Action) (a : Action) → levels_of (xs ++ a ∷ []) ≡ max (levels_of xs) (suc (levels_within a))
levels_more [] a = omega arith
levels_more (x ∷ xs) a = let rest = levels_more xs a in omega arith

pub empty_of : (xs : List Action) → length xs ≡ 0 → xs ≡ []
empty_of [] e = refl
empty_of (a ∷ xs) e = absurd (omega (arith, e))
