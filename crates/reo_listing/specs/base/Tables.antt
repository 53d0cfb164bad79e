-- Boundary tables.
use Rattle.std.specs.Prelude.{ℕ, ◌<◌, ◌≡◌, Bool, List, [], Contains, Option, filter, length, map, slice_index_or}
use Rattle.std.specs.List.{range_with_len}
use Rattle.reo_values.specs.declared.value.Value.{Value}
use Rattle.reo_net_base.specs.declared.mark.Mark.{Mark}
use Rattle.reo_net_base.specs.declared.mark.Mark.TheVariants.{F, G, R, J}
use Rattle.reo_net_base.specs.Net.{Net, end_of, mark_at, side_at}
use Rattle.reo_net_laws.specs.Jams.{IsThreeColouring}

-- The ports whose side is in a set, in order, where so many primitives, the first, are ports.
abbrev pub ports_in : Net → ℕ → (ℕ → Bool) → List ℕ
ports_in net ports inside = filter (λ port. inside (side_at net (end_of port 0))) (range_with_len 0 ports)

-- The marks at some ports.
abbrev pub marks_at : Net → List ℕ → List ℕ → List Mark
marks_at net ports rows = map (λ port. mark_at net rows (end_of port 0)) ports

-- The ports have these marks in some assignment of the set without a jam row.
pub record IsMet (net : Net) (inside : ℕ → Bool) (ports : List ℕ) (marks : List Mark) : Type 0 where
  pub rows : List ℕ
  pub items : List (Option Value)
  pub without_jam : IsThreeColouring net inside rows items
  pub marks_are : marks ≡ marks_at net ports rows

-- F before G before R.
abbrev pub mark_number : Mark → ℕ
mark_number F = 0
mark_number G = 1
mark_number R = 2
mark_number J = 3

abbrev pub mark_of : List Mark → ℕ → Mark
mark_of marks place = slice_index_or marks place J

-- Lists of as many marks: at their first difference the mark of the one comes before that of the other.
pub record StandsBefore (a b : List Mark) : Type 0 where
  pub place : ℕ
  pub in_first : place < length a
  pub in_second : place < length b
  pub alike : (k : ℕ) → k < place → mark_of a k ≡ mark_of b k
  pub before : mark_number (mark_of a place) < mark_number (mark_of b place)

-- Lists that the ports have, in order.
pub record AreMet (net : Net) (inside : ℕ → Bool) (ports : List ℕ) (rows : List (List Mark)) : Type 0 where
  pub met : (marks : List Mark) → Contains rows marks → IsMet net inside ports marks
  pub in_order : (m n : ℕ) → m < n → n < length rows → StandsBefore (slice_index_or rows m []) (slice_index_or rows n [])

-- The table of a set of sides: exactly the lists that its ports have, each once, in order.
pub record IsTable (net : Net) (inside : ℕ → Bool) (ports : List ℕ) (rows : List (List Mark)) : Type 0 where
  pub are : AreMet net inside ports rows
  pub all : (marks : List Mark) → IsMet net inside ports marks → Contains rows marks

-- The most lists of a table.
abbrev pub most_rows : ℕ
most_rows = 4096

-- A set of sides has more lists than a table may have: so many of them, each once.
pub record HasMany (net : Net) (inside : ℕ → Bool) (ports : List ℕ) : Type 0 where
  pub rows : List (List Mark)
  pub are : AreMet net inside ports rows
  pub many : most_rows < length rows
