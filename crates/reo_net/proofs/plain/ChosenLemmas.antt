-- Rows that agree at the chosen sides.
use Rattle.std.proofs.Common.{◌≡◌, ◌≢◌, inl, inr, ℕ, suc, zero, ◌+◌, ◌<◌, Bool, not, cond, replicate, List, [], ◌∷◌, Option, true, false, length, get_or, set, refl, ap, sym, ◌∙◌, arith}
use Rattle.std.proofs.lemmas.Bool.{both_ways, cases_lt, cases_eq}
use Rattle.std.specs.Ordering.{is_lt}
use Rattle.std.specs.List.{count_by}
use Rattle.std.specs.declared.cmp.Ordering.{Ordering}
use Rattle.std.specs.declared.cmp.Ordering.TheVariants.{Less, Equal, Greater}
use Rattle.std.specs.Cmp.Lexicographic.{nat_list_cmp_total}
use Rattle.std.proofs.lemmas.List.{length-set, length-replicate, ext_get_or, get_or_past, get_or-replicate, get_or-set_same, get_or-set_other}
use Rattle.std.proofs.lemmas.List.Sums.{sum_by-cons}
use Rattle.reo_values.specs.declared.value.Value.{Value}
use Rattle.reo_net_base.specs.declared.joint.End.{End}
use Rattle.reo_net_base.specs.declared.joint.Joint.{Joint}
use Rattle.reo_net_base.specs.Net.{Net, Side, all_sides, row_count, side_at, row_at}
use Rattle.reo_net_base.specs.Sides.{side_count}
use Rattle.reo_net_base.specs.Colouring.{AreRows, IsColouring, JointMatches}
use Rattle.reo_net_base.specs.First.{key_at, positions, order_of}
use Rattle.reo_net.proofs.Sides.{are_rows, rows_length, row_below, row_is}
use Rattle.reo_net_laws.proofs.Items.{mark_moved}
use Rattle.reo_net.specs.plain.Chosen.{IsChosen, AllChosen, IsBetween, Agrees, Improves}
use Rattle.reo_net_laws.proofs.Least.{own_reverse}

-- A joint between chosen sides matches by these rows where it does by others that agree.
pub match_agrees : (net : Net) (chosen : List Bool) (rows others : List ℕ) (joint : Joint) → Agrees chosen rows others → IsBetween net chosen joint → JointMatches net others joint → JointMatches net rows joint
match_agrees net chosen rows others joint agrees between matches =
    let row : (e : End) → IsChosen chosen (side_at net e) → row_at net others e ≡ row_at net rows e = λ e is. row_is net others e ∙ agrees (side_at net e) is ∙ sym (row_is net rows e) in
    rw (mark_moved net others rows joint.giver (row joint.giver between.giver), mark_moved net others rows joint.taker (row joint.taker between.taker)) at matches

-- One row is put in its table.
module _ (sides : List Side) (rows : List ℕ) (are : AreRows sides rows) where
  put_below : (side row : ℕ) → side < length sides → ((d : Side) → row < row_count (get_or sides side d)) → (k : ℕ) (d : Side) → k < length sides → get_or (set rows side row) k 0 < row_count (get_or sides k d)
  put_below side row in_range below k d lt =
      elim (cases_eq k side) [
        | inl here ↦ rw (here, get_or-set_same rows side row 0 (omega (arith, in_range, rows_length sides rows are))) (below d)
        | inr there ↦ rw (get_or-set_other rows side k row 0 there) (row_below sides rows are k d lt)
      ]

  pub rows_put : (side row : ℕ) → side < length sides → ((d : Side) → row < row_count (get_or sides side d)) → AreRows sides (set rows side row)
  rows_put side row in_range below = are_rows sides (set rows side row) (length-set rows side row ∙ rows_length sides rows are) (put_below side row in_range below)

-- Rows that agree at one side more.
module _ (chosen : List Bool) (side : ℕ) where
  -- a side that is chosen then, and is another, was chosen before
  pub chosen_before : (k : ℕ) → k ≢ side → IsChosen (set chosen side true) k → IsChosen chosen k
  chosen_before k other is = sym (get_or-set_other chosen side k true false other) ∙ is

  pub agrees_more : (rows changed others : List ℕ) → side < length changed → Agrees chosen rows others → Agrees chosen rows changed → Agrees (set chosen side true) (set changed side (get_or others side 0)) others
  agrees_more rows changed others lt agrees kept k is =
      elim (cases_eq k side) [
        | inl here ↦ rw here (sym (get_or-set_same changed side (get_or others side 0) 0 lt))
        | inr there ↦
            let before = chosen_before k there is in
            agrees k before ∙ sym (kept k before) ∙ sym (get_or-set_other changed side k (get_or others side 0) 0 there)
      ]

  pub agrees_less : (rows changed others : List ℕ) (row : ℕ) → get_or chosen side false ≡ false → side < length chosen → Agrees chosen rows changed → Agrees (set chosen side true) (set changed side row) others → Agrees chosen rows others
  agrees_less rows changed others row left lt kept agrees k is =
      elim (cases_eq k side) [
        | inl here ↦ absurd (both_ways (get_or chosen side false) left (rw here at is))
        | inr there ↦
            agrees k (get_or-set_other chosen side k true false there ∙ is) ∙ get_or-set_other changed side k row 0 there ∙ kept k is
      ]

-- A side that was left is left again.
pub left_again : (chosen : List Bool) (side : ℕ) → get_or chosen side false ≡ false → set (set chosen side true) side false ≡ chosen
left_again [] side left = refl
left_again (c ∷ chosen) zero left = ap (λ (b : Bool). b ∷ chosen) (sym left)
left_again (c ∷ chosen) (suc side) left = ap (λ (xs : List Bool). c ∷ xs) (left_again chosen side left)

left_cons : (b : Bool) (chosen : List Bool) → count_by not (b ∷ chosen) ≡ cond (not b) 1 0 + count_by not chosen
left_cons = sum_by-cons (λ (b : Bool). cond (not b) 1 0)

-- One side fewer is left.
pub fewer_left : (chosen : List Bool) (side : ℕ) → side < length chosen → get_or chosen side false ≡ false → count_by not (set chosen side true) < count_by not chosen
fewer_left [] side lt left = absurd (omega arith)
fewer_left (true ∷ chosen) zero lt left = cc
fewer_left (false ∷ chosen) zero lt left = omega (arith, left_cons true chosen, left_cons false chosen)
fewer_left (c ∷ chosen) (suc side) lt left = omega (arith, left_cons c chosen, left_cons c (set chosen side true), fewer_left chosen side (omega arith) left)

-- Rows that agree at each side are the same.
pub agrees_whole : (net : Net) (chosen : List Bool) (rows others : List ℕ) → AllChosen net chosen → length rows ≡ side_count net → length others ≡ side_count net → Agrees chosen rows others → others ≡ rows
agrees_whole net chosen rows others all n m agrees = ext_get_or 0 others rows (m ∙ sym n) (λ k lt. agrees k (all k (omega (arith, lt, m))))

-- The order of rows.
pub before_trans : (net : Net) (turn : ℕ) (a b d : List ℕ) → order_of net turn a b ≡ Less → order_of net turn b d ≡ Less → order_of net turn a d ≡ Less
before_trans net turn a b d = nat_list_cmp_total.trans (key_at (positions net turn) a) (key_at (positions net turn) b) (key_at (positions net turn) d)

pub not_before_itself : (net : Net) (turn : ℕ) (a : List ℕ) → order_of net turn a a ≢ Less
not_before_itself net turn a = own_reverse (order_of net turn a a) (nat_list_cmp_total.antisymm (key_at (positions net turn) a) (key_at (positions net turn) a))

pub less_from_is_lt : (o : Ordering) → is_lt o ≡ true → o ≡ Less
less_from_is_lt Less h = refl
less_from_is_lt Equal h = cc
less_from_is_lt Greater h = cc

pub not_less_from_is_lt : (o : Ordering) → is_lt o ≡ false → o ≢ Less
not_less_from_is_lt Less h e = cc
not_less_from_is_lt Equal h e = cc
not_less_from_is_lt Greater h e = cc

-- The rows of a colouring are one for each side.
pub colouring_length : (net : Net) (others : List ℕ) (items : List (Option Value)) → IsColouring net others items → length others ≡ side_count net
colouring_length net others items col = rows_length (all_sides net.primitives) others col.rows_fit.in_tables

-- Only whole rows were tried.
pub improves_whole : (net : Net) (turn : ℕ) (rows old new : List ℕ) (items : List (Option Value)) → IsColouring net new items
    → ((others : List ℕ) → order_of net turn others old ≢ Less → order_of net turn others new ≢ Less)
    → ((other_items : List (Option Value)) → IsColouring net rows other_items → order_of net turn rows new ≢ Less) → Improves net turn (λ others. others ≡ rows) old new items
improves_whole net turn rows old new items col kept here = record {
  colouring = col;
  not_after_old = kept;
  not_after_tried = λ others other_items other same. rw same (here other_items (rw same at other));
}

-- Fewer rows are said to be tried.
pub improves_fewer : (net : Net) (turn : ℕ) (tried fewer : List ℕ → Type 0) (old new : List ℕ) (items : List (Option Value))
    → ((others : List ℕ) (other_items : List (Option Value)) → IsColouring net others other_items → fewer others → tried others) → Improves net turn tried old new items → Improves net turn fewer old new items
improves_fewer net turn tried fewer old new items among better = record {
  colouring = better.colouring;
  not_after_old = better.not_after_old;
  not_after_tried = λ others other_items col is. better.not_after_tried others other_items col (among others other_items col is);
}

-- The next row of the side was tried.
pub improves_more : (net : Net) (turn : ℕ) (chosen : List Bool) (rows changed : List ℕ) (side row : ℕ) (old mid new : List ℕ) (mid_items items : List (Option Value)) → side < length changed → Agrees chosen rows changed
    → Improves net turn (λ others. Agrees chosen rows others × (get_or others side 0 < row)) old mid mid_items → Improves net turn (Agrees (set chosen side true) (set changed side row)) mid new items
    → Improves net turn (λ others. Agrees chosen rows others × (get_or others side 0 < row + 1)) old new items
improves_more net turn chosen rows changed side row old mid new mid_items items lt kept before better = record {
  colouring = better.colouring;
  not_after_old = λ others h. better.not_after_old others (before.not_after_old others h);
  not_after_tried = λ others other_items col tried.
      elim (cases_lt (get_or others side 0) row) [
        | inl earlier ↦ better.not_after_old others (before.not_after_tried others other_items col (tried.0, earlier))
        | inr later ↦
            let same : get_or others side 0 ≡ row = omega (arith, later, tried.1) in
            better.not_after_tried others other_items col (rw same at (agrees_more chosen side rows changed others lt tried.0 kept))
      ];
}

none_is_chosen : (count k : ℕ) → get_or (replicate count false) k false ≡ false
none_is_chosen count k =
    elim (cases_lt k count) [
      | inl here ↦ get_or-replicate count k false false here
      | inr past ↦ get_or_past (replicate count false) k false (omega (arith, past, length-replicate {A = Bool} count false))
    ]

-- Where no side is chosen, all rows agree.
pub none_differs : (count : ℕ) (rows others : List ℕ) → Agrees (replicate count false) rows others
none_differs count rows others k is = absurd (both_ways (get_or (replicate count false) k false) (none_is_chosen count k) is)
