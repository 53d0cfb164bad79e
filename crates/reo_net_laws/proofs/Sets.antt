-- Assignments of several sets.
use Rattle.std.proofs.Common.{◌≡◌, ℕ, List, Option, Bool, true, false, not, length, get_or, refl, ap}
use Rattle.std.proofs.lemmas.Bool.{eq-eqb}
use Rattle.std.specs.Bool.{◌==◌}
use Rattle.std.specs.Prelude.{◌&&◌}
use Rattle.reo_values.specs.declared.value.Value.{Value}
use Rattle.reo_net_base.specs.Net.{Net, all_sides, side_at}
use Rattle.reo_net_base.specs.Colouring.{IsColouring}
use Rattle.reo_net_laws.specs.Parts.{IsClosed, IsAssignment, outside}
use Rattle.reo_net_laws.specs.PartLaws.{PartsAreColouring, EachPart}
use Rattle.reo_net_laws.proofs.Sides.{rows_length, row_below, are_rows}

-- All sides.
abbrev pub everywhere : ℕ → Bool
everywhere k = true

pub everywhere_closed : (net : Net) → IsClosed net everywhere
everywhere_closed net = record { along = λ j d lt. refl }

pub outside_closed : (net : Net) (inside : ℕ → Bool) → IsClosed net inside → IsClosed net (outside inside)
outside_closed net inside closed = record { along = λ j d lt. ap not (closed.along j d lt) }

pub both_closed : (net : Net) (p q : ℕ → Bool) → IsClosed net p → IsClosed net q → IsClosed net (λ k. p k && q k)
both_closed net p q h g = record { along = λ j d lt i. h.along j d lt i && g.along j d lt i }

-- An assignment of a set is one of each smaller set.
pub smaller : (net : Net) (p q : ℕ → Bool) (rows : List ℕ) (items : List (Option Value)) → ((k : ℕ) → q k ≡ true → p k ≡ true) → IsAssignment net p rows items → IsAssignment net q rows items
smaller net p q rows items sub is = record {
  one_row = is.one_row;
  one_item = is.one_item;
  in_tables = λ k d lt h. is.in_tables k d lt (sub k h);
  matched = λ j d lt h. is.matched j d lt (sub _ h);
  items_fit = λ j d lt h. is.items_fit j d lt (sub _ h);
}

-- An assignment of sets that hold each side of a set is one of this set.
pub gathered : (net : Net) (p : ℕ → Bool) (rows : List ℕ) (items : List (Option Value)) → length rows ≡ length (all_sides net.primitives) → length items ≡ length net.joints
    → ((k : ℕ) → p k ≡ true → (inside : ℕ → Bool) × (inside k ≡ true) × IsAssignment net inside rows items) → IsAssignment net p rows items
gathered net p rows items one_row one_item each = record {
  one_row = one_row;
  one_item = one_item;
  in_tables = λ k d lt h. (each k h).2.in_tables k d lt (each k h).1;
  matched = λ j d lt h. let part = each (side_at net (get_or net.joints j d).giver) h in part.2.matched j d lt part.1;
  items_fit = λ j d lt h. let part = each (side_at net (get_or net.joints j d).giver) h in part.2.items_fit j d lt part.1;
}

-- A colouring is an assignment of each set.
pub restricted : (net : Net) (inside : ℕ → Bool) (rows : List ℕ) (items : List (Option Value)) → IsColouring net rows items → IsAssignment net inside rows items
restricted net inside rows items is = record {
  one_row = rows_length (all_sides net.primitives) rows is.rows_fit.in_tables;
  one_item = is.one_each;
  in_tables = λ k d lt h. row_below (all_sides net.primitives) rows is.rows_fit.in_tables k d lt;
  matched = λ j d lt h. is.rows_fit.matched j d lt;
  items_fit = λ j d lt h. is.items_fit j d lt;
}

-- An assignment of all sides is a colouring.
pub whole : (net : Net) (rows : List ℕ) (items : List (Option Value)) → IsAssignment net everywhere rows items → IsColouring net rows items
whole net rows items is = record {
  rows_fit = record {
    in_tables = are_rows (all_sides net.primitives) rows is.one_row (λ k d lt. is.in_tables k d lt refl);
    matched = λ j d lt. is.matched j d lt refl;
  };
  one_each = is.one_item;
  items_fit = λ j d lt. is.items_fit j d lt refl;
}

-- An assignment of what is in two sets and of what is in the first alone is one of the first.
pub halves : (net : Net) (p q : ℕ → Bool) (rows : List ℕ) (items : List (Option Value)) → IsAssignment net (λ k. p k && q k) rows items → IsAssignment net (λ k. p k && outside q k) rows items → IsAssignment net p rows items
halves net p q rows items is rest = gathered net p rows items is.one_row is.one_item (λ k h.
    elim (q k) as (λ t. q k ≡ t → (inside : ℕ → Bool) × (inside k ≡ true) × IsAssignment net inside rows items) [
      | true ↦ λ e. (λ s. p s && q s, λ i. h i && e i, is)
      | false ↦ λ e. (λ s. p s && outside q s, λ i. h i && not (e i), rest)
    ] refl)

pub parts_colouring : PartsAreColouring
parts_colouring net inside rows items is rest = whole net rows items (halves net everywhere inside rows items is rest)

pub each_part : EachPart
each_part net part rows items = (
  λ each. whole net rows items (gathered net everywhere rows items (each 0).one_row (each 0).one_item (λ s h. (λ t. part t == part s, eq-eqb (part s) (part s) refl, each (part s)))),
  λ col k. restricted net (λ s. part s == k) rows items col,
)
