-- The texts of the parts of lines.
use Rattle.std.specs.Prelude.{ℕ, ◌≡◌, ◌<◌, ◌≤◌, true, List, [], ◌++◌, codes, length, Option, Some, None, slice_get}
use Rattle.std.specs.List.{All}
use Rattle.std.specs.Fmt.{decimal}
use Rattle.reo_values.specs.declared.kindred.Kindred.{Kindred}
use Rattle.reo_values.specs.declared.value.Value.{Value}
use Rattle.reo_values.specs.ItemText.{text_of}
use Rattle.reo_values.specs.Kind.{IsIn}
use Rattle.reo_net_base.specs.declared.colouring.Move.{Move}
use Rattle.reo_net_base.specs.declared.port.Port.{Port}
use Rattle.reo_trace.specs.declared.line.RoundLine.{RoundLine}
use Rattle.reo_trace.specs.declared.line.Ending.{Ending}
use Rattle.reo_trace.specs.declared.line.Ending.TheVariants.{Done, Stuck, Limit, Spent, Wide}
use Rattle.reo_trace.specs.RoundText.{round_text, sign_of, move_text, moves_text, entry_text}
use Rattle.reo_trace.specs.EndingText.{ending_text}
use Rattle.reo_trace.specs.Spaced.{spaced}
use Rattle.reo_values.specs.decimals.Digits.{IsSmall}
use Rattle.reo_trace_reader.specs.texts.Lines.{IsMove, AreRising, IsLine, IsEnding}
use Rattle.reo_trace_reader.specs.declared.moves.PortFlows.{PortFlows}
use Rattle.reo_trace_reader.specs.declared.lines.PartNumbers.{PartNumbers}
use Rattle.reo_trace_reader.specs.declared.lines.Load.{Load}

-- A port's name and the sign of its way.
abbrev pub port_text : Option Port → List ℕ
port_text None = []
port_text (Some port) = port.name ++ sign_of port.way

-- Those of the port of a number.
abbrev pub text_at : List Port → ℕ → List ℕ
text_at ports number = port_text (slice_get ports number)

-- A port that is there, with this number or a greater one.
abbrev pub IsPortFrom : List Port → ℕ → ℕ → Type 0
IsPortFrom ports from number = (from ≤ number) × ((port : Port) × (slice_get ports number ≡ Some port))

-- An item of a type, and its text.
abbrev pub IsItem : Kindred → Value → Type 0
IsItem kindred item = IsIn item kindred

abbrev pub item_text : Kindred → Value → List ℕ
item_text kindred item = text_of item kindred

-- A move at a port with this number or a greater one.
abbrev pub IsMoveFrom : List Port → ℕ → Move → Type 0
IsMoveFrom ports from m = (from ≤ m.port) × IsMove ports m

-- The moves of a round in which a port flowed.
pub record AreMoves (ports : List Port) (ms : List Move) : Type 0 where
  pub some : 0 < length ms
  pub moves : All (IsMove ports) ms
  pub rising : AreRising ms

-- The moves of any round.
pub record AreFlows (ports : List Port) (flows : PortFlows) : Type 0 where
  pub moves : All (IsMove ports) flows.moves
  pub rising : AreRising flows.moves
  pub still : flows.idle ≡ true → flows.moves ≡ []

-- Their text up to the entries.
abbrev pub flows_text : List Port → PortFlows → List ℕ
flows_text ports flows = moves_text ports flows.idle flows.moves ++ codes " | "

-- Moves up to the entries.
abbrev pub moves_front : List Port → List Move → List ℕ
moves_front ports moves = spaced (move_text ports) moves ++ codes " | "

-- The head of a round line.
abbrev pub heading_text : ℕ → List ℕ
heading_text round = codes "round " ++ (decimal round ++ codes ": ")

-- A round line without its line feed.
unfoldable pub round_front : List Port → RoundLine → List ℕ
round_front ports line =
    let flows : PortFlows = record { idle = line.idle; moves = line.moves } in
    heading_text line.round ++ (flows_text ports flows ++ spaced entry_text line.entries)

-- The numbers of a round and of a part.
abbrev pub IsPart : PartNumbers → Type 0
IsPart part = IsSmall part.round × IsSmall part.knot

abbrev pub part_text : PartNumbers → List ℕ
part_text part = (decimal part.round ++ codes ": knot ") ++ decimal part.knot

-- A weight and a budget.
abbrev pub IsLoad : Load → Type 0
IsLoad load = IsSmall load.weight × IsSmall load.budget

abbrev pub load_text : Load → List ℕ
load_text load = (codes " weight " ++ decimal load.weight) ++ (codes " budget " ++ decimal load.budget)

-- The ending of a part that is too heavy, and its text behind the first words.
abbrev pub IsSpent : Ending → Type 0
IsSpent (Spent round knot weight budget) = IsSmall round × IsSmall knot × IsSmall weight × IsSmall budget
IsSpent _ = ⊥

abbrev pub spent_text : Ending → List ℕ
spent_text (Spent round knot weight budget) =
    let part : PartNumbers = record { round = round; knot = knot } in
    let load : Load = record { weight = weight; budget = budget } in
    part_text part ++ load_text load
spent_text _ = []

-- An ending without its line feed.
unfoldable pub ending_front : Ending → List ℕ
ending_front (Done rounds) = codes "done after " ++ (decimal rounds ++ codes " rounds")
ending_front (Stuck rounds) = codes "stuck after " ++ (decimal rounds ++ codes " rounds")
ending_front (Limit rounds) = codes "limit after " ++ (decimal rounds ++ codes " rounds")
ending_front (Spent round knot weight budget) = codes "spent in round " ++ spent_text (Spent round knot weight budget)
ending_front (Wide round knot) = let part : PartNumbers = record { round = round; knot = knot } in codes "wide in round " ++ part_text part

-- The line of a round, of any number.
abbrev pub IsAnyLine : List Port → RoundLine → Type 0
IsAnyLine ports line = IsLine ports line.round line

-- The text begins with the line of no round of this number.
abbrev pub NoRound : List Port → ℕ → List ℕ → Type 0
NoRound ports number text = (line : RoundLine) (more : List ℕ) → IsLine ports number line → text ≡ round_text ports line ++ more → ⊥

-- The line of the round of this number stood in front, and the rest is left; or it did not, and nothing was taken.
abbrev pub IsNext : List Port → ℕ → List ℕ → List ℕ → Option RoundLine → Type 0
IsNext ports number old left (Some line) = IsLine ports number line × (old ≡ round_text ports line ++ left)
IsNext ports number old left None = NoRound ports number old × (left ≡ old)

-- The text is no ending.
abbrev pub NoEnding : List ℕ → Type 0
NoEnding text = (ending : Ending) → IsEnding ending → text ≡ ending_text ending → ⊥
