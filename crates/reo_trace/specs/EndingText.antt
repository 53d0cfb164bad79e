-- The text of the last line.
use Rattle.std.specs.Prelude.{ℕ, List, ◌++◌, codes}
use Rattle.std.specs.Fmt.{decimal}
use Rattle.reo_trace.specs.declared.line.Ending.{Ending}
use Rattle.reo_trace.specs.declared.line.Ending.TheVariants.{Done, Stuck, Limit, Spent, Wide}

-- How the run ended, and after how many rounds; or which round could not be planned, for which part.
unfoldable pub ending_text : Ending → List ℕ
ending_text (Done rounds) = codes "done after " ++ (decimal rounds ++ codes " rounds\n")
ending_text (Stuck rounds) = codes "stuck after " ++ (decimal rounds ++ codes " rounds\n")
ending_text (Limit rounds) = codes "limit after " ++ (decimal rounds ++ codes " rounds\n")
ending_text (Spent round knot weight budget) =
    codes "spent in round " ++ (decimal round ++ (codes ": knot " ++ (decimal knot ++ (codes " weight " ++ (decimal weight ++ (codes " budget " ++ (decimal budget ++ codes "\n")))))))
ending_text (Wide round knot) = codes "wide in round " ++ (decimal round ++ (codes ": knot " ++ (decimal knot ++ codes "\n")))
