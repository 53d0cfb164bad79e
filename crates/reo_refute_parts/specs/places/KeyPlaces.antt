-- Places of a key, as a side and what its row puts there.
use Rattle.std.specs.Prelude.{ℕ, ◌<◌, ◌≡◌, length}
use Rattle.reo_net_base.specs.Net.{Net}
use Rattle.reo_net_base.specs.First.{Position, positions}
use Rattle.reo_net_laws.specs.Keys.{class_of}
use Rattle.reo_refute_base.specs.Places.{place_at}
use Rattle.reo_refute_parts.specs.declared.places.place.Number.{Number}
use Rattle.reo_refute_parts.specs.declared.places.place.Number.TheVariants.{Class, Row}
use Rattle.reo_refute_parts.specs.declared.places.place.SidePlace.{SidePlace}

-- The numbers that rows of a side put: their classes, or their own.
abbrev pub number_by : Net → ℕ → ℕ → Number → ℕ → ℕ
number_by net turn side Class = class_of net turn side
number_by net turn side Row = λ row. row

-- The place of a key as mathematics.
abbrev pub position_of : Net → ℕ → SidePlace → Position
position_of net turn place =
    record { side = place.side; number = number_by net turn place.side place.number }

-- A place is that of this number.
pub record IsPlace (net : Net) (turn p : ℕ) (place : SidePlace) : Type 0 where
  pub in_range : p < length (positions net turn)
  pub is : position_of net turn place ≡ place_at net turn p
