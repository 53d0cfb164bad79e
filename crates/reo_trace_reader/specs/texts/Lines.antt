-- What the lines of a trace may say.
use Rattle.std.specs.Prelude.{ℕ, ◌+◌, ◌<◌, ◌^◌, ◌≡◌, ◌⊎◌, true, List, [], ◌∷◌, Some, map, slice_get}
use Rattle.std.specs.List.{All}
use Rattle.reo_values.specs.Kind.{IsIn}
use Rattle.reo_values.specs.Names.{IsName}
use Rattle.reo_values.specs.Valid.{AreDistinct, IsValid}
use Rattle.reo_values.specs.decimals.Digits.{IsSmall}
use Rattle.reo_net_base.specs.declared.colouring.Move.{Move}
use Rattle.reo_net_base.specs.declared.port.Port.{Port}
use Rattle.reo_trace.specs.declared.line.Cell.{Cell}
use Rattle.reo_trace.specs.declared.line.Cell.TheVariants.{Row, Jam}
use Rattle.reo_trace.specs.declared.line.Entry.{Entry}
use Rattle.reo_trace.specs.declared.line.Entry.TheVariants.{One, Two}
use Rattle.reo_trace.specs.declared.line.RoundLine.{RoundLine}
use Rattle.reo_trace.specs.declared.line.Ending.{Ending}
use Rattle.reo_trace.specs.declared.line.Ending.TheVariants.{Done, Stuck, Limit, Spent, Wide}

-- Ports of a circuit that is accepted: names, no two of them alike, and types that a program may have.
pub record AreTold (ports : List Port) : Type 0 where
  pub names : All (λ (p : Port). IsName p.name) ports
  pub distinct : AreDistinct (map (λ (p : Port). p.name) ports)
  pub types : All (λ (p : Port). IsValid p.kindred) ports

-- Rows are below 2^32.
abbrev pub IsCell : Cell → Type 0
IsCell (Row row) = row < 2 ^ 32
IsCell Jam = Unit {0}

abbrev pub IsEntry : Entry → Type 0
IsEntry (One cell) = IsCell cell
IsEntry (Two mouth tail) = IsCell mouth × IsCell tail

-- After an entry: nothing, a space or a line feed.
abbrev pub EndsEntry : List ℕ → Type 0
EndsEntry [] = Unit {0}
EndsEntry (byte ∷ bytes) = (byte ≡ 32) ⊎ (byte ≡ 10)

-- A move is at a port, with an item of the port's type.
abbrev pub IsMove : List Port → Move → Type 0
IsMove ports m = (p : Port) × (slice_get ports m.port ≡ Some p) × IsIn m.item p.kindred

-- Moves name ports in increasing order.
abbrev pub AreRising : List Move → Type 0
AreRising [] = Unit {0}
AreRising (m ∷ []) = Unit {0}
AreRising (m ∷ n ∷ ms) = (m.port < n.port) × AreRising (n ∷ ms)

-- What the round line of a number may say. Where the round was idle nothing moved.
pub record IsLine (ports : List Port) (number : ℕ) (line : RoundLine) : Type 0 where
  pub number_is : line.round ≡ number
  pub small : IsSmall number
  pub moves : All (IsMove ports) line.moves
  pub rising : AreRising line.moves
  pub still : line.idle ≡ true → line.moves ≡ []
  pub entries : All IsEntry line.entries

-- The round lines of the numbers from this one on.
abbrev pub AreLines : List Port → ℕ → List RoundLine → Type 0
AreLines ports number [] = Unit {0}
AreLines ports number (line ∷ lines) = IsLine ports number line × AreLines ports (number + 1) lines

-- What an ending may say.
abbrev pub IsEnding : Ending → Type 0
IsEnding (Done rounds) = IsSmall rounds
IsEnding (Stuck rounds) = IsSmall rounds
IsEnding (Limit rounds) = IsSmall rounds
IsEnding (Spent round knot weight budget) = IsSmall round × IsSmall knot × IsSmall weight × IsSmall budget
IsEnding (Wide round knot) = IsSmall round × IsSmall knot
