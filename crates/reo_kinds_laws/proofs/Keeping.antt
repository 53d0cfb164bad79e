-- What a round leaves of what is kept.
use Rattle.std.proofs.Common.{◌≡◌, ◌++◌, ◌&&◌, ℕ, zero, suc, ◌-◌, Bool, true, false, not, cond, List, [], ◌∷◌, nat_lt, Option, Some, None, is_some, slice_get, refl, sym, ap, arith, append-nil}
use Rattle.std.proofs.lemmas.Bool.{not-true}
use Rattle.std.specs.Prelude.{option_to_list}
use Rattle.std.proofs.lemmas.Bool.Decides.{nat_tests}
use Rattle.std.proofs.lemmas.List.{length-append}
use Rattle.reo_values.specs.declared.value.Value.{Value}
use Rattle.reo_net_base.specs.Marks.{is_flow}
use Rattle.reo_net_base.specs.Rows.{mark_in}
use Rattle.reo_net_base.specs.Tables.{rows_of}
use Rattle.reo_buffers.specs.Stored.{Stored, stored, IsBuffer, is_full}
use Rattle.reo_kinds.specs.declared.kind.Kind.TheVariants.{Store, Shift, Variable, Quota}
use Rattle.reo_kinds.specs.Kinds.{ready_table, quota_table, front_of, given_away, put_in, shift_in, replaced}
use Rattle.reo_kinds_laws.specs.Rounds.{flows_at, came_in}
use Rattle.reo_kinds_laws.specs.Kept.{BuffersKeepOrder, ShiftsLoseFronts, VariablesHold, QuotasCountDown}

-- Only a side that can flow flows.
pub can_flow : (can : Bool) (row : ℕ) → is_flow (mark_in (rows_of (ready_table can)) row 0) ≡ true → can ≡ true
can_flow true row flows = refl
can_flow false zero flows = absurd cc
can_flow false (suc row) flows = absurd cc

-- A buffer that is none with its items, by what is given and by what came in.
record Goes (buffer : Stored) (given came : Option Value) (lost : List Value) (later : Stored) : Type 0 where
  size_stays : later.size ≡ buffer.size
  in_order : lost ++ (option_to_list given ++ later.items) ≡ buffer.items ++ option_to_list came
  is_buffer : IsBuffer later

-- An item that comes in where the side flows only while something holds.
came_while : (flows holds : Bool) (item : Option Value) → (flows ≡ true → holds ≡ true) → is_some (cond flows item None) ≡ true → holds ≡ true
came_while true holds item only came = only refl
came_while false holds item only came = absurd cc

-- There is room where a full buffer has given its front, and it goes on without it.
room : (size : ℕ) (front : Value) (items : List Value) → IsBuffer (stored size (front ∷ items)) → is_full (stored size items) ≡ false
room size front items b = let fits = b.fits in grind (arith, nat_tests, fits)

after_front : (size : ℕ) (front : Value) (items : List Value) → IsBuffer (stored size (front ∷ items)) → Goes (stored size (front ∷ items)) (Some front) None [] (stored size items)
after_front size front items b = record {
  size_stays = refl;
  in_order = sym (append-nil (front ∷ items));
  is_buffer = record { some = b.some; few = b.few; fits = let fits = b.fits in omega (arith, fits) };
}

in_its_place : (size : ℕ) (front : Value) (items : List Value) (item : Value) → IsBuffer (stored size (front ∷ items))
    → Goes (stored size (front ∷ items)) (Some front) (Some item) [] (stored size (items ++ item ∷ []))
in_its_place size front items item b = record {
  size_stays = refl;
  in_order = refl;
  is_buffer = record { some = b.some; few = b.few; fits = let fits = b.fits in let more = length-append items (item ∷ []) in omega (arith, fits, more) };
}

-- What came in is put at the back.
put : (size : ℕ) (items : List Value) (gives : Bool) (came : Option Value)
    → (is_some came ≡ true → is_full (stored size items) ≡ false) → (gives ≡ true → is_some (slice_get items 0) ≡ true) → IsBuffer (stored size items)
    → Goes (stored size items) (cond gives (slice_get items 0) None) came [] (put_in came (given_away gives (stored size items)))
put size [] true came free some b = let h = some refl in absurd cc
put size [] false None free some b = record { size_stays = refl; in_order = refl; is_buffer = b }
put size [] false (Some item) free some b = rw (free refl) record {
  size_stays = refl;
  in_order = refl;
  is_buffer = record { some = b.some; few = b.few; fits = let one = b.some in omega (arith, one) };
}
put size (front ∷ items) true None free some b = after_front size front items b
put size (front ∷ items) true (Some item) free some b = rw (room size front items b) (in_its_place size front items item b)
put size (front ∷ items) false None free some b = record { size_stays = refl; in_order = sym (append-nil (front ∷ items)); is_buffer = b }
put size (front ∷ items) false (Some item) free some b =
    let free_now = free refl in
    rw free_now record {
      size_stays = refl;
      in_order = refl;
      is_buffer = record { some = b.some; few = b.few; fits = let more = length-append (front ∷ items) (item ∷ []) in grind (arith, nat_tests, free_now, more) };
    }

-- Whether a full shift buffer loses its front, by what is given and by what came in.
abbrev lost_of : Stored → Option Value → Option Value → List Value
lost_of buffer given came = cond (is_full buffer && (is_some came && not (is_some given))) (option_to_list (slice_get buffer.items 0)) []

shift : (size : ℕ) (items : List Value) (gives : Bool) (came : Option Value) (full : Bool) → is_full (stored size items) ≡ full
    → (gives ≡ true → is_some (slice_get items 0) ≡ true) → IsBuffer (stored size items)
    → Goes (stored size items) (cond gives (slice_get items 0) None) came (lost_of (stored size items) (cond gives (slice_get items 0) None) came)
    (shift_in came (given_away gives (stored size items)))
shift size [] true came full is some b = let h = some refl in absurd cc
shift size [] false None true is some b = let one = b.some in absurd (grind (arith, nat_tests, is, one))
shift size [] false None false is some b = rw is record { size_stays = refl; in_order = refl; is_buffer = b }
shift size [] false (Some item) true is some b = let one = b.some in absurd (grind (arith, nat_tests, is, one))
shift size [] false (Some item) false is some b = rw is record {
  size_stays = refl;
  in_order = refl;
  is_buffer = record { some = b.some; few = b.few; fits = let one = b.some in omega (arith, one) };
}
shift size (front ∷ items) true None true is some b = rw is (after_front size front items b)
shift size (front ∷ items) true None false is some b = rw is (after_front size front items b)
shift size (front ∷ items) true (Some item) true is some b = rw (is, room size front items b) (in_its_place size front items item b)
shift size (front ∷ items) true (Some item) false is some b = rw (is, room size front items b) (in_its_place size front items item b)
shift size (front ∷ items) false None true is some b = rw is record { size_stays = refl; in_order = sym (append-nil (front ∷ items)); is_buffer = b }
shift size (front ∷ items) false None false is some b = rw is record { size_stays = refl; in_order = sym (append-nil (front ∷ items)); is_buffer = b }
shift size (front ∷ items) false (Some item) true is some b = rw is record {
  size_stays = refl;
  in_order = refl;
  is_buffer = record { some = b.some; few = b.few; fits = let fits = b.fits in let more = length-append items (item ∷ []) in omega (arith, fits, more) };
}
shift size (front ∷ items) false (Some item) false is some b = rw is record {
  size_stays = refl;
  in_order = refl;
  is_buffer = record { some = b.some; few = b.few; fits = let more = length-append (front ∷ items) (item ∷ []) in grind (arith, nat_tests, is, more) };
}

pub buffers_kept : BuffersKeepOrder
buffers_kept buffer rows item b =
    let kept = put buffer.size buffer.items (flows_at (Store buffer) rows 1) (came_in (Store buffer) rows item)
    (λ came. not-true _ (came_while _ _ item (can_flow (not (is_full buffer)) rows.first) came)) (can_flow (is_some (front_of buffer)) rows.second) b in
    record { later = _; is_left = refl; size_stays = kept.size_stays; in_order = kept.in_order; is_buffer = kept.is_buffer }

pub shifts_kept : ShiftsLoseFronts
shifts_kept buffer rows item b =
    let kept = shift buffer.size buffer.items (flows_at (Shift buffer) rows 1) (came_in (Shift buffer) rows item) (is_full buffer) refl
    (can_flow (is_some (front_of buffer)) rows.second) b in
    record { later = _; is_left = refl; size_stays = kept.size_stays; in_order = kept.in_order; is_buffer = kept.is_buffer }

-- Variables.
pub variables_held : VariablesHold
variables_held held rows item = record {
  gives = λ flows. rw flows refl;
  replaced = λ new came. ap (λ (o : Option Value). Variable (replaced o held)) came;
  stays = λ came. ap (λ (o : Option Value). Variable (replaced o held)) came;
}

-- Quotas: both ends flow or none, and only while some are left.
quota_together : (some : Bool) (row : ℕ) → is_flow (mark_in (rows_of (quota_table some)) row 0) ≡ is_flow (mark_in (rows_of (quota_table some)) row 1)
quota_together true zero = refl
quota_together true (suc zero) = refl
quota_together true (suc (suc zero)) = refl
quota_together true (suc (suc (suc row))) = refl
quota_together false zero = refl
quota_together false (suc row) = refl

quota_can : (some : Bool) (row : ℕ) → is_flow (mark_in (rows_of (quota_table some)) row 0) ≡ true → some ≡ true
quota_can true row flows = refl
quota_can false zero flows = absurd cc
quota_can false (suc row) flows = absurd cc

pub quotas_counted : QuotasCountDown
quotas_counted left rows item = record {
  together = quota_together (nat_lt 0 left) rows.first;
  one_less = λ flows.
      let some : nat_lt 0 left ≡ true = quota_can (nat_lt 0 left) rows.first flows in
      (left - 1, grind (arith, nat_tests, some), ap (λ (t : Bool). Quota (cond t (left - 1) left)) flows);
  as_many = λ rests. ap (λ (t : Bool). Quota (cond t (left - 1) left)) rests;
}
