-- Sides that lead: their classes are compared before those of all sides.
use Rattle.std.specs.Prelude.{ℕ, ◌<◌, ◌≡◌, ◌≢◌, true, List, ◌++◌, length, map}
use Rattle.std.specs.List.{range_with_len}
use Rattle.std.specs.Ordering.{nat_cmp}
use Rattle.std.specs.Cmp.Lexicographic.{slice_cmp}
use Rattle.reo_net_base.specs.Sides.{side_count}
use Rattle.reo_net_base.specs.Net.{Net}
use Rattle.reo_net_base.specs.First.{order_of}
use Rattle.reo_net_laws.specs.Keys.{class_in, leads_at}

-- The first leading side at which the classes of two lists of rows differ.
pub record DifferAtLeading (net : Net) (turn : ℕ) (a b : List ℕ) (side : ℕ) : Type 0 where
  pub in_range : side < side_count net
  pub leads : leads_at net side ≡ true
  pub differ : class_in net turn a side ≢ class_in net turn b side
  pub before : (k : ℕ) → k < side → leads_at net k ≡ true
      → class_in net turn a k ≡ class_in net turn b k

-- The first leading side at which the classes differ decides, whatever other sides say.
abbrev pub LeadingComeFirst : Type 0
LeadingComeFirst = (net : Net) (turn : ℕ) (a b : List ℕ) (side : ℕ)
    → DifferAtLeading net turn a b side
    → order_of net turn a b ≡ nat_cmp (class_in net turn a side) (class_in net turn b side)

-- Two lists of rows have the same classes at the sides that lead.
abbrev pub AgreeAtLeading : Net → ℕ → List ℕ → List ℕ → Type 0
AgreeAtLeading net turn a b = (k : ℕ) → k < side_count net → leads_at net k ≡ true
    → class_in net turn a k ≡ class_in net turn b k

-- The classes of all sides, in order.
abbrev pub classes_in : Net → ℕ → List ℕ → List ℕ
classes_in net turn rows = map (class_in net turn rows) (range_with_len 0 (side_count net))

-- Where the classes of no leading side differ, as where no side leads, the classes of all sides
-- decide, and then the rows.
abbrev pub AllSidesComeNext : Type 0
AllSidesComeNext = (net : Net) (turn : ℕ) (a b : List ℕ)
    → length a ≡ side_count net → length b ≡ side_count net → AgreeAtLeading net turn a b
    → order_of net turn a b
    ≡ slice_cmp nat_cmp (classes_in net turn a ++ a) (classes_in net turn b ++ b)
